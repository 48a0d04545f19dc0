-- Notices with their outcomes, as calls of a run.
use Rattle.std.proofs.Common.{◌≡◌, inl, inr, ℕ, zero, ◌≤◌, List, [], ◌∷◌, ◌++◌, map, length, Option, Some, None, refl, sym, ap, ◌∙◌, subst, arith, append-nil}
use Rattle.std.proofs.lemmas.List.Elements.{All-nil, All-cons}
use Rattle.day_machine.specs.Batches.{AreApart, answers_in_turn, entries_in_turn, added_by}
use Rattle.adx_desk.specs.Histories.{DeskTerms}
use Rattle.day_machine.specs.declared.batch.TheConstants.{BATCH_LIMIT}
use Rattle.day_rules.specs.declared.answer.Answer.{Answer}
use Rattle.day_rules.specs.declared.entry.Entry.{Entry}
use Rattle.day_rules.specs.Laws.{Arrival, after_arrival, after_arrivals, arrival_reply}
use Rattle.day_rules.specs.Legal.{IsLegal}
use Rattle.day_rules.specs.Replies.{reply}
use Rattle.day_rules.specs.Runs.{AreTurns, IsCall, Turn}
use Rattle.day_rules.specs.Terms.{Terms}
use Rattle.adx_desk.specs.Meanings.{Told, turn_of, turns_of}
use Rattle.adx_desk.specs.OnDisk.{FullEach, FullOnly, history_after}
use Rattle.adx_desk.specs.Records.{AreGivenUp, CountsAmong, IsLeftInDoubt, IsRecordOfRun, MayShare, RaisesAmong, entries_by}
use Rattle.adx_desk.specs.Together.{call_by}
use Rattle.adx_desk.specs.Told.{told_all, told_by}
use Rattle.adx_desk.proofs.RunsCalls.{no_place}
use Rattle.adx_desk.proofs.RunsRecords.{given_up_all, record_along}

some_left : {X : Type 0} (x : X) (xs : List X) → 0 ≡ length (x ∷ xs) → ⊥
some_left x xs none = omega (arith, none)

one_less : {X Y : Type 0} (x : X) (xs : List X) (y : Y) (ys : List Y) → length (x ∷ xs) ≡ length (y ∷ ys) → length xs ≡ length ys
one_less x xs y ys same = omega (arith, same)

pub told_more : (done : List Arrival) (x : Arrival) (outcomes : List (Option Answer)) (o : Option Answer) → length outcomes ≡ length done → told_all (done ++ x ∷ []) (outcomes ++ o ∷ []) ≡ told_all done outcomes ++ told_by x o ∷ []
told_more [] x [] o long = refl
told_more [] x (p ∷ outcomes) o long = absurd (some_left p outcomes (sym long))
told_more (y ∷ done) x [] o long = absurd (some_left y done long)
told_more (y ∷ done) x (p ∷ outcomes) o long = ap (λ (l : List Told). told_by y p ∷ l) (told_more done x outcomes o (one_less p outcomes y done long))

-- the calls of them
call_told : (x : Arrival) (o : Option Answer) → (told_by x o).call ≡ call_by x
call_told x None = refl
call_told x (Some answer) = refl

calls_told : (calls : List Arrival) (outcomes : List (Option Answer)) → length outcomes ≡ length calls → map (λ (t : Told). t.call) (told_all calls outcomes) ≡ map call_by calls
calls_told [] outcomes long = refl
calls_told (x ∷ calls) [] long = absurd (some_left x calls long)
calls_told (x ∷ calls) (o ∷ outcomes) long =
    let rest = calls_told calls outcomes (one_less o outcomes x calls long) in
    λ i. call_told x o i ∷ rest i

-- and the entries that these add
entries_told : (terms : Terms) (history : List Entry) (calls : List Arrival) → entries_by terms history (map call_by calls) ≡ entries_in_turn history calls
entries_told terms history [] = refl
entries_told terms history (x ∷ calls) = ap (λ (l : List Entry). added_by (arrival_reply history x).entry ++ l) (entries_told terms (after_arrival history x) calls)

-- the history after notices that were all done
pub history_in_turn : (terms : Terms) (history : List Entry) (calls : List Arrival) → history_after terms history (told_all calls (map Some (answers_in_turn history calls))) ≡ after_arrivals history calls
history_in_turn terms history [] = refl
history_in_turn terms history (x ∷ calls) = history_in_turn terms (after_arrival history x) calls

-- a day takes each of them,
taken_told : (campaigns : ℕ) (x : Arrival) (o : Option Answer) → IsCall campaigns (told_by x o).call
taken_told campaigns x None = tt
taken_told campaigns x (Some answer) = tt

pub taken_all : (campaigns : ℕ) (calls : List Arrival) (outcomes : List (Option Answer)) → AreTurns campaigns (turns_of (told_all calls outcomes))
taken_all campaigns [] outcomes = All-nil (λ (turn : Turn). IsCall campaigns turn.call)
taken_all campaigns (x ∷ calls) [] = All-nil (λ (turn : Turn). IsCall campaigns turn.call)
taken_all campaigns (x ∷ calls) (o ∷ outcomes) =
    All-cons (λ (turn : Turn). IsCall campaigns turn.call) (turn_of (told_by x o)) (turns_of (told_all calls outcomes)) (taken_told campaigns x o) (taken_all campaigns calls outcomes)

-- and none is answered that the journal is full
full_told : (terms : DeskTerms) (history : List Entry) (entry : Option Entry) (x : Arrival) (o : Option Answer) → FullOnly terms history entry (told_by x o).fault
full_told terms history entry x None = tt
full_told terms history entry x (Some answer) = tt

full_among : (terms : DeskTerms) (history : List Entry) (entry : Option Entry) (calls : List Arrival) (outcomes : List (Option Answer)) (front : List Told) (one : Told) (back : List Told) → told_all calls outcomes ≡ front ++ one ∷ back → FullOnly terms history entry one.fault
full_among terms history entry [] outcomes front one back split = absurd (no_place front one back split)
full_among terms history entry (x ∷ calls) [] front one back split = absurd (no_place front one back split)
full_among terms history entry (x ∷ calls) (o ∷ outcomes) [] one back split =
    let head : told_by x o ≡ one = cc split in
    subst (λ (t : Told). FullOnly terms history entry t.fault) head (full_told terms history entry x o)
full_among terms history entry (x ∷ calls) (o ∷ outcomes) (a ∷ front) one back split =
    let tail : told_all calls outcomes ≡ front ++ one ∷ back = cc split in
    full_among terms history entry calls outcomes front one back tail

pub full_all : (terms : DeskTerms) (start : List Entry) (calls : List Arrival) (outcomes : List (Option Answer)) → FullEach terms start (told_all calls outcomes)
full_all terms start calls outcomes front one back split = full_among terms (history_after terms.day start front) (reply terms.day (history_after terms.day start front) one.call).entry calls outcomes front one back split

-- where they were all done no count moved
pub counts_done : (n : ℕ) (calls : List Arrival) (answers : List Answer) → CountsAmong n (told_all calls (map Some answers)) n
counts_done n [] answers = refl
counts_done n (x ∷ calls) [] = refl
counts_done n (x ∷ calls) (a ∷ answers) = (n, n, inl refl, refl, counts_done n calls answers)

pub raises_done : (n : ℕ) (calls : List Arrival) (answers : List Answer) → RaisesAmong n (told_all calls (map Some answers)) n
raises_done n [] answers = refl
raises_done n (x ∷ calls) [] = refl
raises_done n (x ∷ calls) (a ∷ answers) = (zero, inl refl, raises_done n calls answers)

-- their record is one of the run,
pub record_of_all : (terms : Terms) (start : List Entry) (calls : List Arrival) (outcomes : List (Option Answer)) → length calls ≤ BATCH_LIMIT → AreApart calls → length outcomes ≡ length calls
    → IsRecordOfRun terms start (told_all calls outcomes) start (entries_in_turn start calls)
record_of_all terms start calls outcomes few apart long =
    let told = told_all calls outcomes in record {
      front = [];
      group = told;
      back = [];
      split = sym (append-nil told);
      share = subst MayShare (sym (calls_told calls outcomes long)) (inr (calls, refl, few, apart));
      at = refl;
      is = sym (entries_told terms start calls) ∙ ap (entries_by terms start) (sym (calls_told calls outcomes long));
    }

-- and may be in doubt where none was added
pub doubt_of_all : (terms : Terms) (start : List Entry) (calls : List Arrival) (outcomes : List (Option Answer)) → length calls ≤ BATCH_LIMIT → AreApart calls → length outcomes ≡ length calls → IsLegal terms start
    → history_after terms start (told_all calls outcomes) ≡ start → IsLeftInDoubt terms start (told_all calls outcomes) (entries_in_turn start calls)
unfolding record_of_all
doubt_of_all terms start calls outcomes few apart long legal stays =
    let told = told_all calls outcomes in record {
      record_is = record_along terms start told start (history_after terms start told) (entries_in_turn start calls) stays (record_of_all terms start calls outcomes few apart long);
      by_disk = subst (λ (h : List Entry). AreGivenUp terms h told) (sym stays) (given_up_all terms start calls outcomes legal apart stays);
    }
