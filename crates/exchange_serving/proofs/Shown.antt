-- What a call on a desk whose board shows its meters reports, by what the call of its pass reported.
use Rattle.std.proofs.Common.{◌≡◌, ◌≤◌, inl, List, [], ◌∷◌, Bool, true, Option, Some, None, IfSome, Result, Ok, Err, IfOk, IfErr, refl, sym, ap, ◌∙◌, subst, arith, append-nil}
use Rattle.std.specs.Borrow.{Bor}
use mathlib.Core.List.{IsPrefix}
use Rattle.adx_desk.specs.Called.{Ended}
use Rattle.adx_desk.specs.Histories.{DeskTerms}
use Rattle.adx_desk.specs.Rosters.{desk_terms}
use Rattle.adx_desk.specs.Steps.{AreSteps, Step, history_behind, looked, metered, meters_read, shared, took}
use Rattle.adx_desk.specs.Together.{took_in_turn}
use Rattle.adx_desk.specs.declared.shared.OpenedWith.{OpenedWith}
use Rattle.adx_links.specs.Serving.{IsBeside}
use Rattle.day_rules.specs.DayMeters.{meters_after, steps_of}
use Rattle.day_rules.specs.DayState.{IsDay}
use Rattle.day_rules.specs.Laws.{Arrival, after_arrival}
use Rattle.day_rules.specs.Legal.{IsLegal}
use Rattle.day_rules.specs.Replies.{Call}
use Rattle.day_rules.specs.Steps.{meters_of}
use Rattle.day_rules.specs.Terms.{Terms}
use Rattle.day_rules.specs.declared.entry.Entry.{Entry}
use Rattle.day_rules.specs.declared.meters.Meters.{Meters}
use Rattle.day_rules.specs.declared.step.MeterStep.{MeterStep}
use Rattle.day_rules.proofs.Campaigns.{day_meters}
use Rattle.deal_floor.specs.declared.roster.Roster.{Roster}
use Rattle.shared_desk.specs.Callers.{DeskPass}
use Rattle.shared_desk.specs.PassLaws.{runs_join as pass_join}
use Rattle.shared_desk.specs.Passes.{PassRuns, Viewed}
use Rattle.turnstile.specs.Passes.{IsOf, IsSamePass, TurnstileState}
use Rattle.exchange_serving.specs.Served.{showing}
use Rattle.exchange_serving.specs.Showing.{BoardRuns}

-- steps without meters are steps whichever meters are read
unread : (terms : DeskTerms) (seen now : List Entry) (steps : List Step) → meters_read steps ≡ [] → AreSteps shared terms seen steps now → AreSteps showing terms seen steps now
unread terms seen now [] none are = are
unread terms seen now (took c ∷ steps) none are = (are.0, are.1, unread terms (history_behind terms.day (took c)) now steps none are.2)
unread terms seen now (looked h ∷ steps) none are = (are.0, are.1, unread terms h now steps none are.2)
unread terms seen now (metered h m ∷ steps) none are = absurd (cc none)

-- a batch reads none
none_read : (before : List Entry) (notices : List Arrival) → meters_read (took_in_turn before notices) ≡ []
none_read before [] = refl
none_read before (x ∷ notices) = none_read (after_arrival before x) notices

-- the pass is of the first one's desk still
pub beside_still : (first p q : DeskPass) → IsSamePass p q → IsBeside first p → IsBeside first q
beside_still first p q same beside = (same.0 ∙ beside.0, same.3 ∙ beside.1)

-- and that desk is this one
pub first_of : (first p : DeskPass) (desk : TurnstileState OpenedWith) → IsBeside first p → IsOf p desk → IsOf first desk
first_of first p desk beside of = (sym beside.0 ∙ of.0, sym beside.1 ∙ of.1)

pub of_still : (p q : DeskPass) (desk : TurnstileState OpenedWith) → IsSamePass p q → IsOf p desk → IsOf q desk
of_still p q desk same of = (same.0 ∙ of.0, same.3 ∙ of.1)

-- what is so however a call ended
pub either : {T E C : Type 0} (P : T → Type 0) (Q : E → Type 0) (r : Result T E) → ((x : T) → P x → C) → ((e : E) → Q e → C) → IfOk r P → IfErr r Q → C
either P Q (Ok x) f g done failed = f x done
either P Q (Err e) f g done failed = g e failed

-- the meters that were brought are those of what the pass has seen
pub brought : (terms : Terms) (seen : List Entry) (now : List MeterStep) (r : Option Meters) → IsDay terms seen → IfSome r (λ m. m ≡ meters_of now) → IfSome r (λ _. now ≡ steps_of seen) → IfSome r (λ m. m ≡ meters_after seen)
brought terms seen now (Some m) day is shown = is ∙ (ap (λ (l : List MeterStep). meters_of l) shown ∙ (day_meters terms seen day).folded)
brought terms seen now None day is shown = tt

module _ {O : Type 0} (r r_now : Bor Roster) (p q : DeskPass) (v w : Viewed O) where
  abbrev pub Ran : List Step → Type 0
  Ran steps = PassRuns r r_now p q v w steps

  -- a pass saw what the board shows then, and made no step
  pub saw : r_now ≡ r → IsSamePass p q → q.turns ≡ p.turns → IsPrefix p.seen q.seen → p.faults ≤ q.faults → IsPrefix v.seen w.seen → w.origin ≡ v.origin → Ran []
  saw roster same turns later faults read origin = record {
    roster = roster;
    gains = record {
      noted = [];
      turns = turns ∙ sym (append-nil p.turns);
      are = tt;
      along = later;
      no_fewer = faults;
      counted = inl (omega (arith, faults));
      same = same;
    };
    read = read;
    origin = origin;
  }

  module _ (short : Bool) where
    abbrev pub Beside : List Step → Type 0
    Beside steps = BoardRuns r r_now p q v w short short steps

    -- steps that read no meters
    beside : (steps : List Step) → meters_read steps ≡ [] → Ran steps → Beside steps
    beside steps none ran = record { ran = ran; shown = λ e. (e, unread (desk_terms r.now) p.seen q.seen steps none ran.gains.along) }

    pub beside_none : Ran [] → Beside []
    beside_none ran = beside [] refl ran

    pub beside_took : {call : Call} {ended : Ended} {IsAt : List Entry → Type 0} → (at : List Entry) × Ran (took (record { at = at; call = call; ended = ended }) ∷ []) × IsAt at
        → (at : List Entry) × Beside (took (record { at = at; call = call; ended = ended }) ∷ []) × IsAt at
    beside_took {call} {ended} {IsAt} t = (t.0, beside (took (record { at = t.0; call = call; ended = ended }) ∷ []) refl t.1, t.2)

    pub beside_looked : {IsAt : List Entry → Type 0} → (at : List Entry) × Ran (looked at ∷ []) × IsAt at → (at : List Entry) × Beside (looked at ∷ []) × IsAt at
    beside_looked {IsAt} t = (t.0, beside (looked t.0 ∷ []) refl t.1, t.2)

    pub beside_batch : {IsAt : List Entry → Type 0} (notices : List Arrival) → (at : List Entry) × Ran (took_in_turn at notices) × IsAt at → (at : List Entry) × Beside (took_in_turn at notices) × IsAt at
    beside_batch {IsAt} notices t = (t.0, beside (took_in_turn t.0 notices) (none_read t.0 notices) t.1, t.2)

    -- the meters of what the pass has seen were read
    pub reads_now : (m : Meters) → Ran [] → IsLegal (desk_terms r_now.now).day q.seen → m ≡ meters_of w.seen → m ≡ meters_after q.seen → (at : List Entry) × Beside (metered at m ∷ [])
    reads_now m ran legal read is =
        let g = ran.gains in
        let here = subst (λ (b : Bor Roster). IsLegal (desk_terms b.now).day q.seen) ran.roster legal in (
          q.seen,
          record {
            ran = record {
              roster = ran.roster;
              gains = record {
                noted = g.noted;
                turns = g.turns;
                are = g.are;
                along = (g.along, (here, tt), ([], append-nil q.seen));
                no_fewer = g.no_fewer;
                counted = g.counted;
                same = g.same;
              };
              read = (w.seen, ran.read, read, ([], append-nil w.seen));
              origin = ran.origin;
            };
            shown = λ e. (e, (g.along, (here, is), ([], append-nil q.seen)));
          },
        )

-- meters were read that may be older, since memory was refused
pub reads_older : {O : Type 0} (r r_mid r_now : Bor Roster) (p q s : DeskPass) (u v w : Viewed O) (short : Bool) (m : Meters) → PassRuns r r_mid p q u v [] → (at : List Entry) × PassRuns r_mid r_now q s v w (metered at m ∷ [])
    → (at : List Entry) × BoardRuns r r_now p s u w short true (metered at m ∷ [])
reads_older r r_mid r_now p q s u v w short m ran read = (read.0, record { ran = pass_join [] (metered read.0 m ∷ []) ran read.1; shown = λ e. absurd (cc e) })
