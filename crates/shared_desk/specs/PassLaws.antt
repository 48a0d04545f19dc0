-- Laws of the steps of a pass: none, one behind another, and as turns. Private: only an impl cites this file.
use Rattle.std.proofs.Common.{◌≡◌, inl, inr, ℕ, ◌+◌, ◌≤◌, List, [], ◌∷◌, ◌++◌, length, map, take, Option, Some, None, refl, sym, ap, ap₂, ◌∙◌, subst, arith}
use Rattle.std.proofs.lemmas.List.{append_assoc, append-nil}
use Rattle.std.proofs.lemmas.List.Elements.{All-nil, All-cons, All-head, All-tail}
use Rattle.std.proofs.Math.Seq.{take-append_seam}
use Rattle.std.specs.Borrow.{Bor}
use Rattle.std.specs.List.{All, AllZip}
use mathlib.Core.List.{IsPrefix}
use Rattle.adx_desk.specs.Histories.{DeskTerms}
use Rattle.adx_desk.specs.Rosters.{desk_terms}
use Rattle.adx_desk.specs.declared.turn.Turn.{Turn}
use Rattle.answer_lines.specs.declared.faults.Fault.{Fault}
use Rattle.day_rules.specs.declared.entry.Entry.{Entry}
use Rattle.day_rules.specs.Replies.{with_entry}
use Rattle.day_rules.specs.Runs.{entry_of_turn}
use Rattle.deal_floor.specs.declared.roster.Roster.{Roster}
use Rattle.turnstile.specs.Passes.{IsSamePass}
use Rattle.turnstile.specs.declared.noted.Noted.{Noted}
use Rattle.adx_desk.specs.Called.{Called, Ended, left_by, turn_of, wanted_memory, was_done, was_given_up}
use Rattle.adx_desk.specs.Steps.{AreSteps, Step, calls_of, disk_faults, faults_by, history_behind, looked, metered, meters_read, shared, took}
use Rattle.adx_desk.proofs.Chains.{shared_on, steps_join}
use Rattle.shared_desk.specs.Gains.{CallsAreTurns, called_by}
use Rattle.shared_desk.specs.Passes.{AreRead, Gains, HaveRisen, IsNotedAs, PassRuns, Viewed}
use Rattle.shared_desk.specs.Callers.{DeskPass}
use Rattle.day_rules.specs.declared.meters.Meters.{Meters}
use Rattle.day_rules.specs.declared.step.MeterStep.{MeterStep}

-- the calls and the faults of steps behind steps
calls_append : (first rest : List Step) → calls_of (first ++ rest) ≡ calls_of first ++ calls_of rest
calls_append [] rest = refl
calls_append (took c ∷ first) rest = ap (λ (l : List Called). c ∷ l) (calls_append first rest)
calls_append (looked h ∷ first) rest = calls_append first rest
calls_append (metered h m ∷ first) rest = calls_append first rest

faults_add : (ended : Ended) (m n : ℕ) → faults_by ended (m + n) ≡ faults_by ended m + n
faults_add was_done m n = refl
faults_add (was_given_up Fault.Disk) m n = omega arith
faults_add (was_given_up (Fault.JournalFull size)) m n = refl
faults_add wanted_memory m n = refl

faults_append : (first rest : List Step) → disk_faults (first ++ rest) ≡ disk_faults first + disk_faults rest
faults_append [] rest = omega arith
faults_append (took c ∷ first) rest = ap (faults_by c.ended) (faults_append first rest) ∙ faults_add c.ended (disk_faults first) (disk_faults rest)
faults_append (looked h ∷ first) rest = faults_append first rest
faults_append (metered h m ∷ first) rest = faults_append first rest

read_append : (first rest : List Step) → meters_read (first ++ rest) ≡ meters_read first ++ meters_read rest
read_append [] rest = refl
read_append (took c ∷ first) rest = read_append first rest
read_append (looked h ∷ first) rest = read_append first rest
read_append (metered h m ∷ first) rest = ap (λ (l : List Meters). m ∷ l) (read_append first rest)

zip_append : {A B : Type 0} (R : A → B → Type 0) (xs : List A) (ys : List B) (more : List A) (others : List B)
    → AllZip R xs ys → AllZip R more others → AllZip R (xs ++ more) (ys ++ others)
zip_append R [] [] more others zip rest = rest
zip_append R [] (b ∷ ys) more others zip rest = absurd zip
zip_append R (a ∷ xs) [] more others zip rest = absurd zip
zip_append R (a ∷ xs) (b ∷ ys) more others zip rest = (zip.0, zip_append R xs ys more others zip.1 rest)

risen_on : (m n a b c total : ℕ) → total ≡ m + n → a ≤ b → b ≤ c → HaveRisen m a b → HaveRisen n b c → HaveRisen total a c
risen_on m n a b c total is first next (inl x) (inl y) = inl (omega (arith, is, x, y))
risen_on m n a b c total is first next (inr x) y = inr (omega (arith, x, next))
risen_on m n a b c total is first next (inl x) (inr y) = inr y

pub gains_none : (terms : DeskTerms) (p : DeskPass) → Gains terms p p []
gains_none terms p = record {
  noted = [];
  turns = sym (append-nil p.turns);
  are = tt;
  along = ([], append-nil p.seen);
  no_fewer = omega arith;
  counted = inl (omega arith);
  same = (refl, refl, refl, refl, refl);
}

same_pass : (p q s : DeskPass) → IsSamePass p q → IsSamePass q s → IsSamePass p s
same_pass p q s first next = (next.0 ∙ first.0, next.1 ∙ first.1, next.2 ∙ first.2, next.3 ∙ first.3, next.4 ∙ first.4)

pub gains_join : (terms : DeskTerms) (p q s : DeskPass) (first rest : List Step) → Gains terms p q first → Gains terms q s rest → Gains terms p s (first ++ rest)
gains_join terms p q s first rest a b = record {
  noted = a.noted ++ b.noted;
  turns = b.turns ∙ ap (λ (l : List (Noted Turn)). l ++ b.noted) a.turns ∙ append_assoc p.turns a.noted b.noted;
  are = subst (AllZip IsNotedAs (a.noted ++ b.noted)) (sym (calls_append first rest)) (zip_append IsNotedAs a.noted (calls_of first) b.noted (calls_of rest) a.are b.are);
  along = steps_join shared shared_on terms p.seen q.seen s.seen first rest a.along b.along;
  no_fewer = omega (arith, a.no_fewer, b.no_fewer);
  counted =
      risen_on (disk_faults first) (disk_faults rest) p.faults q.faults s.faults (disk_faults (first ++ rest))
      (faults_append first rest) a.no_fewer b.no_fewer a.counted b.counted;
  same = same_pass p q s a.same b.same;
}

-- a call's history is a front of all that is seen later
entry_grows : (history : List Entry) (o : Option Entry) → IsPrefix history (with_entry history o)
entry_grows history None = ([], append-nil history)
entry_grows history (Some e) = (e ∷ [], refl)

abbrev Fronts : List Called → List Entry → Type 0
Fronts calls now = All (λ (c : Called). IsPrefix c.at now) calls

behind_front : (terms : DeskTerms) (seen now : List Entry) (steps : List Step) → AreSteps shared terms seen steps now → IsPrefix seen now × Fronts (calls_of steps) now
behind_front terms seen now [] are = (are, All-nil (λ (c : Called). IsPrefix c.at now))
behind_front terms seen now (took c ∷ steps) are =
    let rest = behind_front terms (history_behind terms.day (took c)) now steps are.2 in
    let at : IsPrefix c.at now = shared_on c.at (left_by terms.day c) now (entry_grows c.at (entry_of_turn terms.day c.at (turn_of c))) rest.0 in
    (shared_on seen c.at now are.0 at, All-cons (λ (c : Called). IsPrefix c.at now) c (calls_of steps) at rest.1)
behind_front terms seen now (looked h ∷ steps) are =
    let rest = behind_front terms h now steps are.2 in (shared_on seen h now are.0 rest.0, rest.1)
behind_front terms seen now (metered h m ∷ steps) are =
    let rest = behind_front terms h now steps are.2 in (shared_on seen h now are.0 rest.0, rest.1)

front_is : (front now : List Entry) → IsPrefix front now → take (length front) now ≡ front
front_is front now g = ap (take (length front)) (sym g.1) ∙ take-append_seam front g.0

called_is : (now : List Entry) (n : Noted Turn) (c : Called) → IsNotedAs n c → IsPrefix c.at now → called_by now n ≡ c
called_is now n c is g =
    let at : take n.at now ≡ c.at = ap (λ (k : ℕ). take k now) is.at ∙ front_is c.at now g in
    λ i. record { at = at i; call = is.call i; ended = is.ended i }

zip_called : (now : List Entry) (noted : List (Noted Turn)) (calls : List Called) → AllZip IsNotedAs noted calls → Fronts calls now → map (called_by now) noted ≡ calls
zip_called now [] [] zip fronts = refl
zip_called now [] (c ∷ calls) zip fronts = absurd zip
zip_called now (n ∷ noted) [] zip fronts = absurd zip
zip_called now (n ∷ noted) (c ∷ calls) zip fronts =
    let P : Called → Type 0 = λ (c : Called). IsPrefix c.at now in
    ap₂ (λ (x : Called) (l : List Called). x ∷ l) (called_is now n c zip.0 (All-head P c calls fronts)) (zip_called now noted calls zip.1 (All-tail P c calls fronts))

pub calls_are_turns : CallsAreTurns
calls_are_turns terms p q steps g = zip_called q.seen g.noted (calls_of steps) g.are (behind_front terms p.seen q.seen steps g.along).1

-- lists that go on
on_list : (h k l : List MeterStep) → IsPrefix h k → IsPrefix k l → IsPrefix h l
on_list h k l first next = (first.0 ++ next.0, sym (append_assoc h first.0 next.0) ∙ ap (λ (x : List MeterStep). x ++ next.0) first.1 ∙ next.1)

read_from : (h seen now : List MeterStep) (meters : List Meters) → IsPrefix h seen → AreRead seen meters now → AreRead h meters now
read_from h seen now [] goes are = on_list h seen now goes are
read_from h seen now (m ∷ meters) goes are = (are.0, on_list h seen are.0 goes are.1, are.2, are.3)

read_join : (seen mid now : List MeterStep) (first rest : List Meters) → AreRead seen first mid → AreRead mid rest now → AreRead seen (first ++ rest) now
read_join seen mid now [] rest are more = read_from seen mid now rest are more
read_join seen mid now (m ∷ first) rest are more = (are.0, are.1, are.2, read_join are.0 mid now first rest are.3 more)

-- the same over a roster and one who reads meters
module _ {O : Type 0} where
  pub runs_none : (r : Bor Roster) (p : DeskPass) (v : Viewed O) → PassRuns r r p p v v []
  runs_none r p v = record { roster = refl; gains = gains_none (desk_terms r.now) p; read = ([], append-nil v.seen); origin = refl }

  pub runs_join : {r r_mid r_now : Bor Roster} {p q s : DeskPass} {u v w : Viewed O} (first rest : List Step)
      → PassRuns r r_mid p q u v first → PassRuns r_mid r_now q s v w rest → PassRuns r r_now p s u w (first ++ rest)
  runs_join {r} {r_mid} {r_now} {p} {q} {s} {u} {v} {w} first rest x y = record {
    roster = y.roster ∙ x.roster;
    gains = gains_join (desk_terms r.now) p q s first rest x.gains (subst (λ (z : Bor Roster). Gains (desk_terms z.now) q s rest) x.roster y.gains);
    read =
        subst (λ (ms : List Meters). AreRead u.seen ms w.seen) (sym (read_append first rest))
        (read_join u.seen v.seen w.seen (meters_read first) (meters_read rest) x.read y.read);
    origin = y.origin ∙ x.origin;
  }
