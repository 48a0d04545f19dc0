-- What a batch makes of a desk, as its job tells it.
use Rattle.std.proofs.Common.{◌≡◌, ℕ, ◌+◌, ◌≤◌, List, [], ◌∷◌, ◌++◌, Option, Some, None, length, refl, sym, ◌∙◌, ap, subst, arith, append-nil}
use Rattle.std.specs.Prelude.{Result, Ok, Err, IfErr, OnOk, OnErr, ⊤}
use Rattle.adx_io.specs.Streams.{last_count}
use Rattle.day_rules.specs.declared.entry.Entry.{Entry}
use Rattle.day_rules.specs.Laws.{Arrival, after_arrival, arrival_reply}
use Rattle.day_rules.specs.Replies.{with_entry}
use Rattle.day_machine.specs.Batches.{BatchState, answers_in_turn, entries_in_turn}
use Rattle.day_machine.specs.Batches.{added_by as entries_in}
use Rattle.adx_desk.specs.declared.fault.DeskFault.{DeskFault}
use Rattle.adx_desk.specs.declared.turn.Turn.{Turn}
use Rattle.adx_desk.specs.Desks.{DeskState, OnDisk}
use Rattle.adx_desk.specs.Endings.{EndsNotice}
use Rattle.adx_desk.specs.Histories.{DeskTerms}
use Rattle.adx_desk.specs.Shared.{IsTurnAt, is_disk_fault, opened_with, terms_in}
use Rattle.turnstile.specs.Turns.{AreRight, HasRisen, added_by, faults_in, one_or_none}
use Rattle.shared_desk.specs.Callers.{entry_of, turns_in_turn}
use Rattle.shared_desk.specs.declared.batching.RanTogether.{RanTogether}
use Rattle.shared_desk.specs.Jobs.{EndsBatch, IsRun, MakesAll, RanTogetherAt, fault_in, turns_by}
use Rattle.shared_desk.proofs.Running.{one_more, same_count, same_opened}

one_same : (entry : Option Entry) → one_or_none entry_of entry ≡ entries_in entry
one_same None = refl
one_same (Some e) = refl

entries_of_turns : (terms : DeskTerms) (history : List Entry) (calls : List Arrival) → added_by entry_of (turns_in_turn terms history calls) ≡ entries_in_turn history calls
entries_of_turns terms history [] = refl
entries_of_turns terms history (x ∷ xs) = λ i. one_same (arrival_reply history x).entry i ++ entries_of_turns terms (after_arrival history x) xs i

one_at_most : (entry : Option Entry) (rest : List Entry) (n : ℕ) → length rest ≤ n → length (one_or_none entry_of entry ++ rest) ≤ n + 1
one_at_most None rest n le = omega arith
one_at_most (Some e) rest n le = omega arith

few_entries : (terms : DeskTerms) (history : List Entry) (calls : List Arrival) → length (added_by entry_of (turns_in_turn terms history calls)) ≤ length calls
few_entries terms history [] = omega arith
few_entries terms history (x ∷ xs) =
    let a = one_at_most (arrival_reply history x).entry (added_by entry_of (turns_in_turn terms (after_arrival history x) xs)) (length xs) (few_entries terms (after_arrival history x) xs) in omega arith

after_same : (history : List Entry) (entry : Option Entry) → with_entry history entry ≡ history ++ one_or_none entry_of entry
after_same history None = sym (append-nil history)
after_same history (Some e) = refl

all_right : (terms : DeskTerms) (history : List Entry) (calls : List Arrival) → AreRight entry_of (IsTurnAt terms) history (turns_in_turn terms history calls)
all_right terms history [] = record {}
all_right terms history (x ∷ xs) = (
  record { takes = record {}; ends = (refl, refl) },
  subst (λ (h : List Entry). AreRight entry_of (IsTurnAt terms) h (turns_in_turn terms (after_arrival history x) xs)) (after_same history (arrival_reply history x).entry) (all_right terms (after_arrival history x) xs),
)

no_faults : (terms : DeskTerms) (history : List Entry) (calls : List Arrival) → faults_in (λ (t : Turn). is_disk_fault t.ended) (turns_in_turn terms history calls) ≡ 0
no_faults terms history [] = refl
no_faults terms history (x ∷ xs) = let n = no_faults terms (after_arrival history x) xs in omega arith

-- the numbers of faults before and after a batch that ended so
counts_batch : (before now : ℕ) (old new : DeskState) (ended : Result ⊤ DeskFault) → old.faults ≤ last_count → EndsNotice before now old new ended → (old.faults ≤ new.faults) × (new.faults ≤ old.faults + 1) × HasRisen (fault_in ended) old.faults new.faults
counts_batch before now old new (Ok done) fits ends = same_count old.faults new.faults ends.desk
counts_batch before now old new (Err DeskFault.DiskFault) fits ends = one_more old.faults new.faults fits ends.counted
counts_batch before now old new (Err (DeskFault.JournalFull size)) fits ends = absurd ends
counts_batch before now old new (Err (DeskFault.BadEntry at)) fits ends = absurd ends
counts_batch before now old new (Err (DeskFault.OtherRoster kept)) fits ends = absurd ends
counts_batch before now old new (Err (DeskFault.NotAJournal at)) fits ends = absurd ends
counts_batch before now old new (Err (DeskFault.BadLength at)) fits ends = absurd ends
counts_batch before now old new (Err DeskFault.OutOfMemory) fits ends = absurd ends

run_together : {D : Type 0} (before now : ℕ) (x y : OnDisk D) (calls : List Arrival) (ended : Result ⊤ DeskFault) → length calls ≤ 32 → EndsNotice before now x.desk y.desk ended → x.desk.faults ≤ last_count
    → y.desk.terms ≡ x.desk.terms → y.since ≡ x.since → OnOk ended (y.desk.history ≡ x.desk.history ++ entries_in_turn x.desk.history calls) → OnErr ended (y.desk.history ≡ x.desk.history)
    → IsRun x y (turns_by x.desk.history x.desk.terms calls ended) (fault_in ended)
run_together before now x y calls (Ok done) few ends fits terms since ok err =
    let counts = counts_batch before now x.desk y.desk (Ok done) fits ends in record {
      items = ok ∙ ap (λ (l : List Entry). x.desk.history ++ l) (sym (entries_of_turns x.desk.terms x.desk.history calls));
      few = let n = few_entries x.desk.terms x.desk.history calls in omega arith;
      fixed = same_opened x y terms since;
      no_fewer = counts.0;
      one_at_most = counts.1;
      right = all_right x.desk.terms x.desk.history calls;
      noted = let n = no_faults x.desk.terms x.desk.history calls in omega arith;
      counted = counts.2;
    }
run_together before now x y calls (Err fault) few ends fits terms since ok err =
    let counts = counts_batch before now x.desk y.desk (Err fault) fits ends in record {
      items = err ∙ sym (append-nil x.desk.history);
      few = omega arith;
      fixed = same_opened x y terms since;
      no_fewer = counts.0;
      one_at_most = counts.1;
      right = record {};
      noted = omega arith;
      counted = counts.2;
    }

-- a batch's only fault is the disk's
only_fault : (before now : ℕ) (old new : DeskState) (ended : Result ⊤ DeskFault) → EndsNotice before now old new ended → IfErr ended (λ fault. fault ≡ DeskFault.DiskFault)
only_fault before now old new (Ok done) ends = record {}
only_fault before now old new (Err DeskFault.DiskFault) ends = refl
only_fault before now old new (Err (DeskFault.JournalFull size)) ends = absurd ends
only_fault before now old new (Err (DeskFault.BadEntry at)) ends = absurd ends
only_fault before now old new (Err (DeskFault.OtherRoster kept)) ends = absurd ends
only_fault before now old new (Err (DeskFault.NotAJournal at)) ends = absurd ends
only_fault before now old new (Err (DeskFault.BadLength at)) ends = absurd ends
only_fault before now old new (Err DeskFault.OutOfMemory) ends = absurd ends

pub ends_batch : (before now : ℕ) (x y : DeskState) (old new : BatchState) (ended : Result ⊤ DeskFault) → EndsNotice before now x y ended
    → OnOk ended (new ≡ record old { answers = Some (answers_in_turn x.history old.calls) }) → OnErr ended (new ≡ old) → EndsBatch x.history old new ended
ends_batch before now x y old new ended ends ok err = record { answers = ok; waits = err; cause = only_fault before now x y ended ends }

-- a batch keeps its calls
same_calls : (before : List Entry) (old new : BatchState) (ended : Result ⊤ DeskFault) → EndsBatch before old new ended → new.calls ≡ old.calls
same_calls before old new (Ok done) ends = ap (λ (b : BatchState). b.calls) ends.answers
same_calls before old new (Err fault) ends = ap (λ (b : BatchState). b.calls) ends.waits

-- what is kept of a batch, with the desk before it
pub made_all : {D : Type 0} (before now : ℕ) (x y : OnDisk D) (old new : BatchState) (ran : RanTogether D) → ran.at.value ≡ x → length old.calls ≤ 32 → EndsBatch x.desk.history old new ran.ended
    → EndsNotice before now x.desk y.desk ran.ended → x.desk.faults ≤ last_count → y.desk.terms ≡ x.desk.terms → y.since ≡ x.since
    → OnOk ran.ended (y.desk.history ≡ x.desk.history ++ entries_in_turn x.desk.history old.calls) → OnErr ran.ended (y.desk.history ≡ x.desk.history) → MakesAll x y new.calls ran
made_all {D} before now x y old new ran same few batch ends fits terms since ok err =
    let calls = same_calls x.desk.history old new ran.ended batch in record {
      terms = ap (λ (z : OnDisk D). z.desk.terms) same;
      history = ap (λ (z : OnDisk D). z.desk.history) same;
      run = subst (λ (z : OnDisk D × List Arrival). IsRun x y (turns_by z.0.desk.history z.0.desk.terms z.1 ran.ended) (fault_in ran.ended)) (λ i. (sym same i, sym calls i))
          (run_together before now x y old.calls ran.ended few ends fits terms since ok err);
    }

-- what a batch tells of a desk that was opened with this
pub ran_together : {D : Type 0} (x y : OnDisk D) (old new : BatchState) (ran : RanTogether D) → MakesAll x y new.calls ran → EndsBatch x.desk.history old new ran.ended
    → RanTogetherAt (opened_with x.desk.terms x.since) x.desk.history old new (Some ran)
ran_together {D} x y old new ran m ends =
    let terms : DeskTerms = terms_in (opened_with x.desk.terms x.since) in
    let calls = same_calls x.desk.history old new ran.ended ends in record {
      ran = ran;
      is = refl;
      terms = m.terms;
      history = m.history;
      right = subst (λ (z : List Entry × (DeskTerms × List Arrival)). AreRight entry_of (IsTurnAt terms) x.desk.history (turns_by z.0 z.1.0 z.1.1 ran.ended)) (λ i. (m.history i, (m.terms i, calls i))) m.run.right;
      ends = ends;
    }
