-- The notices of a batch, answered at the history as it is, and their entries as a record of the desk.
use Rattle.std.proofs.Common.{◌≡◌, ℕ, ◌+◌, ◌<◌, ◌≤◌, List, length, All, sym, ◌∙◌, ap, subst, arith}
use Rattle.day_entries.specs.Entries.{Fits, entries_bytes}
use Rattle.day_journal.specs.Faults.{greatest_size}
use Rattle.day_journal.specs.Tails.{JournalState, size_of}
use Rattle.day_rules.specs.declared.entry.Entry.{Entry}
use Rattle.day_rules.specs.DayState.{DayState, IsDay}
use Rattle.day_rules.specs.Laws.{Arrival}
use Rattle.day_rules.specs.Legal.{IsLegal}
use Rattle.day_machine.specs.Batches.{AreApart, answers_in_turn, entries_in_turn}
use Rattle.day_machine.specs.Held.{held}
use Rattle.day_machine.proofs.InTurn.{answers_now, arrivals_are, arrivals_legal, arrivals_take, entries_now, in_turn}
use Rattle.adx_desk.specs.Desks.{DeskState}
use Rattle.adx_desk.specs.Journaled.{AreJournaled, JournaledState}
use Rattle.adx_desk.proofs.Inside.{known, shown}
use Rattle.adx_desk.proofs.Keeping.{MayAdd}
use Rattle.adx_desk.proofs.Sizes.{entries_sizes}

-- What a batch made of its calls at the day within as it is: the answers and the entries of the calls in turn.
pub record RanInTurn (h : List Entry) (s : JournaledState) (xs : List Arrival) (payload : List ℕ) : Type 0 where
  pub answers : answers_now h xs ≡ answers_in_turn s.desk.history xs
  pub bytes : payload ≡ entries_bytes s.desk.journal.format (entries_in_turn s.desk.history xs)
  pub fits : All (Fits s.desk.journal.format) (entries_in_turn s.desk.history xs)

pub ran_in_turn : (day : DayState) (digest : List ℕ) (journal : JournalState) (faults open_awards : ℕ) (s : JournaledState) (xs : List Arrival) (h : List Entry) (format : ℕ) (payload : List ℕ) → AreJournaled day digest journal open_awards
    → shown day digest journal faults ≡ s → AreApart xs → h ≡ day.history → format ≡ journal.format → payload ≡ entries_bytes format (entries_now h xs) → All (Fits format) (entries_now h xs) → RanInTurn h s xs payload
ran_in_turn day digest journal faults open_awards s xs h format payload are is apart here formats bytes fits =
    let law = in_turn s.desk.terms.day s.desk.history xs (known day digest journal faults open_awards s are is).is_day.legal apart in
    let now : h ≡ s.desk.history = here ∙ ap (λ (t : JournaledState). t.desk.history) is in
    let entries : entries_now h xs ≡ entries_in_turn s.desk.history xs = ap (λ (l : List Entry). entries_now l xs) now ∙ sym law.1 in
    let same : format ≡ s.desk.journal.format = formats ∙ ap (λ (t : JournaledState). t.desk.journal.format) is in
    record {
      answers = ap (λ (l : List Entry). answers_now l xs) now ∙ sym law.0;
      bytes = bytes ∙ (ap (entries_bytes format) entries ∙ ap (λ (f : ℕ). entries_bytes f (entries_in_turn s.desk.history xs)) same);
      fits = subst (λ (f : ℕ). All (Fits f) (entries_in_turn s.desk.history xs)) same (subst (λ (es : List Entry). All (Fits format) es) entries fits);
    }

-- the entries of notices as a record of the desk
pub may_add_all : (desk : DeskState) (xs : List Arrival) → IsDay desk.terms.day desk.history → size_of desk.journal + held desk.journal.format desk.history ≤ greatest_size → 0 < length (entries_in_turn desk.history xs) → All (Fits desk.journal.format) (entries_in_turn desk.history xs)
    → MayAdd desk (entries_in_turn desk.history xs)
may_add_all desk xs day room some fits =
    let are = arrivals_are desk.history xs in
    record {
      is_record = record { some = some; spelled = fits };
      legal = subst (λ (h : List Entry). IsLegal desk.terms.day h) are (arrivals_legal desk.terms.day desk.history xs day.legal);
      room = omega (arith, room, arrivals_take desk.journal.format desk.terms.day desk.history xs day, ap (held desk.journal.format) are, entries_sizes desk.journal.format (entries_in_turn desk.history xs), some);
    }
