-- Calls that are taken on a desk one after another: how they join, and what they leave.
use Rattle.std.proofs.Common.{◌≡◌, ◌≢◌, ℕ, List, [], ◌∷◌, ◌++◌, Option, Some, None, Result, Ok, Err, OnOk, refl, sym, ap, ◌∙◌, subst, append_assoc, append-nil}
use Rattle.std.proofs.lemmas.List.{map-append}
use Rattle.std.proofs.lemmas.List.Elements.{All-nil, All-cons, All-append}
use Rattle.adx_desk.specs.Desks.{OnDisk}
use Rattle.adx_desk.specs.Histories.{DeskTerms}
use Rattle.answer_lines.specs.declared.faults.Fault.{Fault}
use Rattle.day_rules.specs.declared.entry.Entry.{Entry}
use Rattle.day_rules.specs.Replies.{Call, ask}
use Rattle.day_rules.specs.Runs.{run}
use Rattle.command_gen.specs.declared.early.EarlyEnd.{EarlyEnd}
use Rattle.adx_desk.specs.Answering.{DeskRuns, ServesCall}
use Rattle.adx_desk.specs.Courses.{HasNoDiskFault}
use Rattle.adx_desk.specs.Meanings.{Told, turns_of}
use Rattle.adx_desk.proofs.DeskRuns.{call_goes_on}
use Rattle.command_gen.specs.Generated.{AreOfAsk, ask_by, award_told, calls_behind}
use Rattle.command_gen.specs.GeneratedEnds.{EndsAtFault}
use Rattle.command_gen.specs.Taking.{AreCalls, BeginAsk, BeginCalls, ServesCalls, TakesAsk, TakesCalls, TakesNumber, TookBy, calls_of}

-- what holds anyway holds where it was done
pub on_ok : {T E : Type 0} {P : Type 0} (r : Result T E) → P → OnOk r P
on_ok (Ok x) p = p
on_ok (Err e) p = tt

-- no call of two lists was given up by the disk
pub none_append : (xs ys : List Told) → HasNoDiskFault xs → HasNoDiskFault ys → HasNoDiskFault (xs ++ ys)
none_append xs ys = All-append (λ (t : Told). t.fault ≢ Some Fault.Disk) xs ys

pub none_at_all : HasNoDiskFault []
none_at_all = All-nil (λ (t : Told). t.fault ≢ Some Fault.Disk)

pub none_of : (t : Told) → t.fault ≢ Some Fault.Disk → HasNoDiskFault (t ∷ [])
none_of t other = All-cons (λ (u : Told). u.fault ≢ Some Fault.Disk) t [] other none_at_all

-- the last of the calls was given up by the disk, after some of which none was
pub fault_behind : (xs ys : List Told) → HasNoDiskFault xs → EndsAtFault ys → EndsAtFault (xs ++ ys)
fault_behind xs ys none f = record {
  front = xs ++ f.front;
  faulted = f.faulted;
  split = ap (λ l. xs ++ l) f.split ∙ sym (append_assoc xs f.front (f.faulted ∷ []));
  before = none_append xs f.front none f.before;
  by_disk = f.by_disk;
}

pub fault_alone : (t : Told) → t.fault ≡ Some Fault.Disk → EndsAtFault (t ∷ [])
fault_alone t is = record { front = []; faulted = t; split = refl; before = none_at_all; by_disk = is }

pub calls_append : (xs ys : List Told) → calls_of (xs ++ ys) ≡ calls_of xs ++ calls_of ys
calls_append xs ys = map-append (λ (t : Told). t.call) xs ys

-- some calls after others, by how it ended
pub took_behind : (Whole Begin Last_whole Last_begin : List Told → Type 0) (xs ys : List Told) (result : Result (Unit {0}) EarlyEnd) → HasNoDiskFault xs
    → (Whole ys → Last_whole (xs ++ ys)) → (Begin ys → Last_begin (xs ++ ys)) → TookBy Whole Begin result ys → TookBy Last_whole Last_begin result (xs ++ ys)
took_behind Whole Begin Last_whole Last_begin xs ys (Ok over) none whole begin took = (whole took.0, none_append xs ys none took.1)
took_behind Whole Begin Last_whole Last_begin xs ys (Err EarlyEnd.DiskFault) none whole begin took = (begin took.0, fault_behind xs ys none took.1)
took_behind Whole Begin Last_whole Last_begin xs ys (Err EarlyEnd.OutOfMemory) none whole begin took = (begin took.0, none_append xs ys none took.1)

-- the same where it ended early
pub early_behind : (Whole Begin Last_whole Last_begin : List Told → Type 0) (xs ys : List Told) (ending : EarlyEnd) → HasNoDiskFault xs
    → (Begin ys → Last_begin (xs ++ ys)) → TookBy Whole Begin (Err ending) ys → TookBy Last_whole Last_begin (Err ending) (xs ++ ys)
early_behind Whole Begin Last_whole Last_begin xs ys EarlyEnd.DiskFault none begin took = (begin took.0, fault_behind xs ys none took.1)
early_behind Whole Begin Last_whole Last_begin xs ys EarlyEnd.OutOfMemory none begin took = (begin took.0, none_append xs ys none took.1)

-- a run that ended early, of which these are first calls too
pub took_early : (Whole Begin Last_whole Last_begin : List Told → Type 0) (told : List Told) (ending : EarlyEnd)
    → (Begin told → Last_begin told) → TookBy Whole Begin (Err ending) told → TookBy Last_whole Last_begin (Err ending) told
took_early Whole Begin Last_whole Last_begin told EarlyEnd.DiskFault begin took = (begin took.0, took.1)
took_early Whole Begin Last_whole Last_begin told EarlyEnd.OutOfMemory begin took = (begin took.0, took.1)

-- the same calls as done ones
abbrev pub done_told : List Call → List Told
done_told [] = []
done_told (c ∷ calls) = record { call = c; fault = None } ∷ done_told calls

pub calls_of_done : (calls : List Call) → calls_of (done_told calls) ≡ calls
calls_of_done [] = refl
calls_of_done (c ∷ calls) = ap (λ l. c ∷ l) (calls_of_done calls)

module _ {D : Type 0} (faults : D → ℕ) (may_leave : D → List ℕ → Type 0) (moment : D → ℕ) (left_since : D → ℕ → List ℕ → Type 0) where
  pub serves_append : (old mid new : OnDisk D) (xs ys : List Told) → ServesCalls faults may_leave moment left_since old mid xs → ServesCalls faults may_leave moment left_since mid new ys
      → ServesCalls faults may_leave moment left_since old new (xs ++ ys)
  serves_append old mid new [] ys same rest = subst (λ (d : OnDisk D). ServesCalls faults may_leave moment left_since d new ys) same rest
  serves_append old mid new (t ∷ xs) ys (next, call, more) rest = (next, call, serves_append next mid new xs ys more rest)

  pub serves_one : (old new : OnDisk D) (t : Told) → ServesCall faults may_leave moment left_since old new t → ServesCalls faults may_leave moment left_since old new (t ∷ [])
  serves_one old new t call = (new, call, refl)

  -- what they leave: the terms, and the history of their run
  pub serves_terms : (old new : OnDisk D) (told : List Told) → ServesCalls faults may_leave moment left_since old new told → new.desk.terms ≡ old.desk.terms
  serves_terms old new [] same = ap (λ (d : OnDisk D). d.desk.terms) same
  serves_terms old new (t ∷ told) (mid, call, rest) = serves_terms mid new told rest ∙ call.terms

  pub serves_history : (old new : OnDisk D) (told : List Told) → ServesCalls faults may_leave moment left_since old new told → new.desk.history ≡ run old.desk.terms.day old.desk.history (turns_of told)
  serves_history old new [] same = ap (λ (d : OnDisk D). d.desk.history) same
  serves_history old new (t ∷ told) (mid, call, rest) =
      serves_history mid new told rest ∙ (λ i. run (call.terms i).day (call.history i) (turns_of told))

  -- a desk's run goes on by them
  pub runs_more : (reads : D → Option (List ℕ)) (terms : DeskTerms) (disk : D) (start : List Entry) (before : List Told) (old new : OnDisk D) (told : List Told)
      → DeskRuns faults reads may_leave moment left_since terms disk start before old → ServesCalls faults may_leave moment left_since old new told
      → DeskRuns faults reads may_leave moment left_since terms disk start (before ++ told) new
  runs_more reads terms disk start before old new [] runs same =
      subst (λ (p : List Told × OnDisk D). DeskRuns faults reads may_leave moment left_since terms disk start p.0 p.1) (λ i. (sym (append-nil before) i, sym same i)) runs
  runs_more reads terms disk start before old new (t ∷ told) runs (mid, call, rest) =
      subst (λ (l : List Told). DeskRuns faults reads may_leave moment left_since terms disk start l new) (append_assoc before (t ∷ []) told)
      (runs_more reads terms disk start (before ++ t ∷ []) mid new told (call_goes_on faults reads may_leave moment left_since terms disk start before old mid t runs call) rest)

  -- no calls; these, and others after them; and these alone where they ended early
  pub takes_none : (desk : OnDisk D) → TakesCalls faults may_leave moment left_since desk desk [] (Ok tt)
  takes_none desk = record { told = []; serves = refl; took = (refl, none_at_all) }

  pub takes_then : (old mid new : OnDisk D) (calls more : List Call) (result : Result (Unit {0}) EarlyEnd) → TakesCalls faults may_leave moment left_since old mid calls (Ok tt)
      → TakesCalls faults may_leave moment left_since mid new more result → TakesCalls faults may_leave moment left_since old new (calls ++ more) result
  takes_then old mid new calls more result first rest = record {
    told = first.told ++ rest.told;
    serves = serves_append old mid new first.told rest.told first.serves rest.serves;
    took = took_behind (AreCalls more) (BeginCalls more) (AreCalls (calls ++ more)) (BeginCalls (calls ++ more)) first.told rest.told result first.took.1
        (λ whole. calls_append first.told rest.told ∙ (λ i. first.took.0 i ++ whole i))
        (λ begin. (begin.0, (λ i. sym first.took.0 i ++ begin.1 i) ∙ sym (append_assoc (calls_of first.told) (calls_of rest.told) begin.0) ∙ ap (λ l. l ++ begin.0) (sym (calls_append first.told rest.told))))
        rest.took;
  }

  pub takes_early : (old new : OnDisk D) (calls more : List Call) (ending : EarlyEnd) → TakesCalls faults may_leave moment left_since old new calls (Err ending)
      → TakesCalls faults may_leave moment left_since old new (calls ++ more) (Err ending)
  takes_early old new calls more ending first = record {
    told = first.told;
    serves = first.serves;
    took = took_early (AreCalls calls) (BeginCalls calls) (AreCalls (calls ++ more)) (BeginCalls (calls ++ more)) first.told ending
        (λ begin. (begin.0 ++ more, ap (λ l. l ++ more) begin.1 ∙ append_assoc (calls_of first.told) begin.0 more)) first.took;
  }

  -- memory was refused, and nothing was taken
  pub number_unbegun : (seed number : ℕ) (desk : OnDisk D) → TakesNumber faults may_leave moment left_since desk desk seed number (Err EarlyEnd.OutOfMemory)
  number_unbegun seed number desk = record { told = []; serves = refl; took = (some_of_ask seed number desk, none_at_all) }
    where
      some_of_ask : (seed number : ℕ) (desk : OnDisk D) → BeginAsk desk.desk.terms.day seed number desk.desk.history []
      some_of_ask seed number desk =
          let asked : Told = record { call = ask (ask_by seed number); fault = None } in
          let follow = calls_behind seed number (award_told desk.desk.terms.day desk.desk.history asked.call asked.fault) in
          (asked ∷ done_told follow, record { asked = asked; behind = done_told follow; is = refl; follow = calls_of_done follow; all = refl })

  -- an ask and the calls after it
  pub ask_then : (seed number : ℕ) (old mid new : OnDisk D) (award : Option ℕ) (result : Result (Unit {0}) EarlyEnd) → TakesAsk faults may_leave moment left_since old mid (ask_by seed number) (Ok award)
      → TakesCalls faults may_leave moment left_since mid new (calls_behind seed number award) result → TakesNumber faults may_leave moment left_since old new seed number result
  ask_then seed number old mid new award result (t, is, call, other, awarded) rest = record {
    told = t ∷ rest.told;
    serves = (mid, call, rest.serves);
    took = took_behind (AreCalls (calls_behind seed number award)) (BeginCalls (calls_behind seed number award))
        (AreOfAsk old.desk.terms.day seed number old.desk.history) (BeginAsk old.desk.terms.day seed number old.desk.history) (t ∷ []) rest.told result (none_of t other)
        (λ whole. record { asked = t; behind = rest.told; is = is; follow = whole ∙ ap (calls_behind seed number) awarded; all = refl })
        (λ begin. (
          done_told begin.0,
          record {
            asked = t;
            behind = rest.told ++ done_told begin.0;
            is = is;
            follow = calls_append rest.told (done_told begin.0) ∙ ap (λ l. calls_of rest.told ++ l) (calls_of_done begin.0) ∙ sym begin.1 ∙ ap (calls_behind seed number) awarded;
            all = refl;
          },
        ))
        rest.took;
  }

  -- an ask with which it ended
  pub ask_early : (seed number : ℕ) (old new : OnDisk D) (ending : EarlyEnd) → TakesAsk faults may_leave moment left_since old new (ask_by seed number) (Err ending)
      → TakesNumber faults may_leave moment left_since old new seed number (Err ending)
  ask_early seed number old new EarlyEnd.DiskFault (t, is, call, disk) =
      let follow = calls_behind seed number (award_told old.desk.terms.day old.desk.history t.call t.fault) in record {
        told = t ∷ [];
        serves = (new, call, refl);
        took = ((done_told follow, record { asked = t; behind = done_told follow; is = is; follow = calls_of_done follow; all = refl }), fault_alone t disk);
      }
  ask_early seed number old new EarlyEnd.OutOfMemory same =
      subst (λ (d : OnDisk D). TakesNumber faults may_leave moment left_since old d seed number (Err EarlyEnd.OutOfMemory)) (sym same) (number_unbegun seed number old)
