-- Which calls of a record the disk's fault gave up, where no entry was added since.
use Rattle.std.proofs.Common.{◌≡◌, ℕ, ◌+◌, ◌≤◌, List, [], ◌∷◌, ◌++◌, map, length, Option, Some, None, IfSome, false, eqb, refl, sym, ap, ◌∙◌, subst, arith, length-append}
use Rattle.std.specs.List.{AllByRecursion, IsDistinct}
use Rattle.std.proofs.lemmas.Map.Keys.{IsDistinct-head, IsDistinct-tail}
use Rattle.answer_lines.specs.declared.faults.Fault.{Fault}
use Rattle.day_machine.specs.Batches.{AreApart, added_by}
use Rattle.day_machine.proofs.InTurn.{in_turn}
use Rattle.day_rules.specs.declared.answer.Answer.{Answer}
use Rattle.day_rules.specs.declared.entry.Entry.{Entry}
use Rattle.day_rules.specs.Laws.{Arrival, after_arrival, arrival_reply}
use Rattle.day_rules.specs.Legal.{IsLegal}
use Rattle.day_rules.specs.Replies.{with_entry}
use Rattle.day_rules.specs.Runs.{entry_of_turn}
use Rattle.day_rules.specs.Terms.{Terms}
use Rattle.day_rules.proofs.Ordering.{arrival_legal}
use Rattle.adx_desk.specs.Meanings.{Told, turn_of}
use Rattle.adx_desk.specs.OnDisk.{history_after}
use Rattle.adx_desk.specs.Records.{AreGivenUp, IsRecordOfRun, entries_by}
use Rattle.adx_desk.specs.Told.{told_all, told_by}

-- a record at a history is one at the same
abbrev pub record_along : (terms : Terms) (start : List Entry) (told : List Told) (history same tail : List Entry) → same ≡ history → IsRecordOfRun terms start told history tail → IsRecordOfRun terms start told same tail
record_along terms start told history same tail along r = record {
  front = r.front;
  group = r.group;
  back = r.back;
  split = r.split;
  share = r.share;
  at = along ∙ r.at;
  is = r.is ∙ ap (λ (h : List Entry). entries_by terms h (map (λ (t : Told). t.call) r.group)) (sym along);
}

-- what holds anyway holds of each entry
pub if_any : {X : Type 0} (P : Type 0) (o : Option X) → P → IfSome o (λ x. P)
if_any P None p = tt
if_any P (Some x) p = p

-- a history never grows shorter
with_longer : (history : List Entry) (o : Option Entry) → length history ≤ length (with_entry history o)
with_longer history None = omega arith
with_longer history (Some e) = omega (arith, length-append history (e ∷ []))

follows : (a b c : ℕ) → a ≤ b → b ≤ c → a ≤ c
follows a b c first rest = omega (arith, first, rest)

run_longer : (terms : Terms) (history : List Entry) (told : List Told) → length history ≤ length (history_after terms history told)
run_longer terms history [] = omega arith
run_longer terms history (t ∷ told) =
    let entry = entry_of_turn terms history (turn_of t) in
    follows (length history) (length (with_entry history entry)) (length (history_after terms (with_entry history entry) told)) (with_longer history entry) (run_longer terms (with_entry history entry) told)

longer : (a b c : ℕ) → b ≡ a + 1 → b ≤ c → c ≡ a → ⊥
longer a b c one more same = omega (arith, one, more, same)

-- a call that was done before a history that stayed has no entry
done_none : (terms : Terms) (history : List Entry) (entry : Option Entry) (told : List Told) (P : Type 0) → history_after terms (with_entry history entry) told ≡ history → (history_after terms history told ≡ history → P)
    → IfSome entry (λ e. None ≡ Some Fault.Disk) × P
done_none terms history None told P stays rest = (tt, rest stays)
done_none terms history (Some e) told P stays rest =
    absurd (longer (length history) (length (history ++ e ∷ [])) (length (history_after terms (history ++ e ∷ []) told)) (length-append history (e ∷ [])) (run_longer terms (history ++ e ∷ []) told) (ap length stays))

-- each notice with an entry, at the history as it is, was given up by the disk's fault
abbrev EachGivenUp : List Entry → List Arrival → List (Option Answer) → Type 0
EachGivenUp history [] outcomes = Unit {0}
EachGivenUp history (x ∷ calls) [] = Unit {0}
EachGivenUp history (x ∷ calls) (o ∷ outcomes) = IfSome (arrival_reply history x).entry (λ e. (told_by x o).fault ≡ Some Fault.Disk) × EachGivenUp history calls outcomes

each_given_up : (terms : Terms) (history : List Entry) (calls : List Arrival) (outcomes : List (Option Answer)) → history_after terms history (told_all calls outcomes) ≡ history → EachGivenUp history calls outcomes
each_given_up terms history [] outcomes stays = tt
each_given_up terms history (x ∷ calls) [] stays = tt
each_given_up terms history (x ∷ calls) (None ∷ outcomes) stays =
    (if_any (Some Fault.Disk ≡ Some Fault.Disk) (arrival_reply history x).entry refl, each_given_up terms history calls outcomes stays)
each_given_up terms history (x ∷ calls) (Some answer ∷ outcomes) stays =
    done_none terms history (arrival_reply history x).entry (told_all calls outcomes) (EachGivenUp history calls outcomes) stays (each_given_up terms history calls outcomes)

-- a notice leaves the entry of one of another award
two_apart : (x y : Arrival) → eqb x.award y.award ≡ false → AreApart (x ∷ y ∷ [])
unfolding IsDistinct
two_apart x y apart = ((apart, tt), (tt, tt))

same_added : (a b c : Option Entry) → added_by a ++ (added_by b ++ []) ≡ added_by a ++ (added_by c ++ []) → b ≡ c
same_added a None None is = refl
same_added None None (Some e) is = absurd (cc is)
same_added (Some d) None (Some e) is = absurd (cc is)
same_added None (Some e) None is = absurd (cc is)
same_added (Some d) (Some e) None is = absurd (cc is)
same_added None (Some e) (Some f) is = ap Some (cc is)
same_added (Some d) (Some e) (Some f) is = ap Some (cc is)

entry_behind : (terms : Terms) (history : List Entry) (x y : Arrival) → IsLegal terms history → eqb x.award y.award ≡ false → (arrival_reply (after_arrival history x) y).entry ≡ (arrival_reply history y).entry
entry_behind terms history x y legal apart =
    same_added (arrival_reply history x).entry (arrival_reply (after_arrival history x) y).entry (arrival_reply history y).entry (in_turn terms history (x ∷ y ∷ []) legal (two_apart x y apart)).1

each_behind : (terms : Terms) (history : List Entry) (x : Arrival) (calls : List Arrival) (outcomes : List (Option Answer)) → IsLegal terms history
    → AllByRecursion (λ (m : ℕ). eqb x.award m ≡ false) (map (λ (c : Arrival). c.award) calls) → EachGivenUp history calls outcomes → EachGivenUp (after_arrival history x) calls outcomes
each_behind terms history x [] outcomes legal apart each = tt
each_behind terms history x (y ∷ calls) [] legal apart each = tt
each_behind terms history x (y ∷ calls) (o ∷ outcomes) legal apart each = (
  subst (λ (entry : Option Entry). IfSome entry (λ e. (told_by y o).fault ≡ Some Fault.Disk)) (sym (entry_behind terms history x y legal apart.0)) each.0,
  each_behind terms history x calls outcomes legal apart.1 each.1,
)

-- so was each after those before it
given_in_turn : (terms : Terms) (history : List Entry) (calls : List Arrival) (outcomes : List (Option Answer)) → IsLegal terms history → AreApart calls → EachGivenUp history calls outcomes → AreGivenUp terms history (told_all calls outcomes)
given_in_turn terms history [] outcomes legal apart each = tt
given_in_turn terms history (x ∷ calls) [] legal apart each = tt
given_in_turn terms history (x ∷ calls) (None ∷ outcomes) legal apart each =
    let numbers = map (λ (c : Arrival). c.award) calls in (
      each.0,
      given_in_turn terms (after_arrival history x) calls outcomes (arrival_legal terms history x legal) (IsDistinct-tail eqb x.award numbers apart)
          (each_behind terms history x calls outcomes legal (IsDistinct-head eqb x.award numbers apart) each.1),
    )
given_in_turn terms history (x ∷ calls) (Some answer ∷ outcomes) legal apart each =
    let numbers = map (λ (c : Arrival). c.award) calls in (
      each.0,
      given_in_turn terms (after_arrival history x) calls outcomes (arrival_legal terms history x legal) (IsDistinct-tail eqb x.award numbers apart)
          (each_behind terms history x calls outcomes legal (IsDistinct-head eqb x.award numbers apart) each.1),
    )

pub given_up_all : (terms : Terms) (history : List Entry) (calls : List Arrival) (outcomes : List (Option Answer)) → IsLegal terms history → AreApart calls → history_after terms history (told_all calls outcomes) ≡ history
    → AreGivenUp terms history (told_all calls outcomes)
given_up_all terms history calls outcomes legal apart stays = given_in_turn terms history calls outcomes legal apart (each_given_up terms history calls outcomes stays)
