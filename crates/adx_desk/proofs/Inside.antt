-- The invariant of a day with its journal, in the words of its view.
use Rattle.std.proofs.Common.{◌≡◌, ℕ, ◌+◌, ◌≤◌, List, ◌++◌, length, sym, ◌∙◌, ap, subst, arith}
use Rattle.std.specs.List.{sum_by}
use Rattle.std.proofs.lemmas.List.Sums.{sum_by-append}
use Rattle.day_journal.specs.Faults.{greatest_size}
use Rattle.day_journal.specs.Tails.{JournalState, size_of}
use Rattle.day_entries.specs.Entries.{entries_bytes}
use Rattle.day_rules.specs.declared.entry.Entry.{Entry}
use Rattle.day_rules.specs.Books.{awards_of}
use Rattle.day_rules.specs.DayState.{DayState, IsDay}
use Rattle.day_rules.specs.Legal.{IsLegal, MayFollow}
use Rattle.day_rules.specs.Terms.{AreTerms, Terms}
use Rattle.adx_desk.specs.Desks.{DeskState}
use Rattle.day_machine.specs.Held.{held, longest_record, open_count}
use Rattle.adx_desk.specs.Histories.{longest_size}
use Rattle.adx_desk.specs.Journaled.{AreJournaled, JournaledState}
use Rattle.adx_desk.proofs.Keeping.{MayAdd}
use Rattle.adx_desk.proofs.Sizes.{entries_sizes, sizes_longest}

-- the view of the fields
abbrev pub shown : DayState → List ℕ → JournalState → ℕ → JournaledState
shown day digest journal faults = record {
  desk = record { terms = record { day = day.terms; digest = digest }; history = day.history; journal = journal; faults = faults };
  room = day.room;
}

pub record Known (s : JournaledState) (open_awards : ℕ) : Type 0 where
  pub is_day : IsDay s.desk.terms.day s.desk.history
  pub open_are : open_awards ≡ open_count (awards_of s.desk.history)
  pub room : size_of s.desk.journal + held s.desk.journal.format s.desk.history ≤ greatest_size
  pub short : size_of s.desk.journal ≤ longest_size s.desk.terms s.desk.history

pub known : (day : DayState) (digest : List ℕ) (journal : JournalState) (faults open_awards : ℕ) (s : JournaledState) → AreJournaled day digest journal open_awards → shown day digest journal faults ≡ s → Known s open_awards
known day digest journal faults open_awards s are is =
    let here : Known (shown day digest journal faults) open_awards = record { is_day = are.legal; open_are = are.open_are; room = are.room; short = are.short } in
    subst (λ (t : JournaledState). Known t open_awards) is here

-- what the day within has of the terms and the history, in the words of the view
module _ (day inside : DayState) (s : DeskState) (terms : day.terms ≡ inside.terms) (history : day.history ≡ inside.history) (terms_are : inside.terms ≡ s.terms.day) (history_is : inside.history ≡ s.history) where
  pub replies : {A : Type 0} (f : Terms → List Entry → A) → f day.terms day.history ≡ f s.terms.day s.history
  replies f = λ i. f ((terms ∙ terms_are) i) ((history ∙ history_is) i)

  pub follows_in : (e : Entry) → MayFollow day.terms day.history e → MayFollow s.terms.day s.history e
  follows_in e follows =
      subst (λ (t : Terms). MayFollow t s.history e) (terms ∙ terms_are) (subst (λ (h : List Entry). MayFollow day.terms h e) (history ∙ history_is) follows)

  pub follows_back : (e : Entry) → MayFollow s.terms.day s.history e → MayFollow day.terms day.history e
  follows_back e follows =
      subst (λ (t : Terms). MayFollow t day.history e) (sym (terms ∙ terms_are)) (subst (λ (h : List Entry). MayFollow s.terms.day h e) (sym (history ∙ history_is)) follows)

-- what is held, as the day within has it
pub held_inside : (h : List Entry) (format : ℕ) (day : DayState) (digest : List ℕ) (journal : JournalState) (faults : ℕ) (s : JournaledState) → shown day digest journal faults ≡ s → h ≡ day.history → format ≡ journal.format
    → held format h ≡ held s.desk.journal.format s.desk.history
held_inside h format day digest journal faults s is history formats =
    let same : format ≡ s.desk.journal.format = formats ∙ ap (λ (t : JournaledState). t.desk.journal.format) is in
    let here : h ≡ s.desk.history = history ∙ ap (λ (t : JournaledState). t.desk.history) is in
    λ i. held (same i) (here i)

-- the fields after a record
pub journaled_added : (day next : DayState) (digest : List ℕ) (journal now : JournalState) (desk : DeskState) (was open_awards : ℕ) (payload : List ℕ) (es : List Entry)
    → next.terms ≡ day.terms → next.history ≡ day.history ++ es → AreJournaled day digest journal was → journal ≡ desk.journal → day.terms ≡ desk.terms.day → day.history ≡ desk.history
    → payload ≡ entries_bytes desk.journal.format es → now.gate ≡ journal.gate + (length payload + 5) → now.format ≡ journal.format → MayAdd desk es → open_awards ≡ open_count (awards_of next.history) → AreJournaled next digest now open_awards
journaled_added day next digest journal now desk was open_awards payload es terms history are same_journal same_terms same_history bytes grown format add open_are =
    let behind : desk.history ++ es ≡ next.history = sym (history ∙ ap (λ (h : List Entry). h ++ es) same_history) in
    let same : desk.terms.day ≡ next.terms = sym (terms ∙ same_terms) in
    let same_format : desk.journal.format ≡ now.format = sym (format ∙ ap (λ (j : JournalState). j.format) same_journal) in
    let held_is : held desk.journal.format (desk.history ++ es) ≡ held now.format next.history = ap (held desk.journal.format) behind ∙ ap (λ (f : ℕ). held f next.history) same_format in
    let gate : journal.gate ≡ desk.journal.gate = ap (λ (j : JournalState). j.gate) same_journal in
    let bytes_are : length payload ≡ length (entries_bytes desk.journal.format es) = ap (λ (p : List ℕ). length p) bytes in
    let records : sum_by longest_record next.history ≡ sum_by longest_record day.history + sum_by longest_record es =
    ap (sum_by longest_record) history ∙ sum_by-append longest_record day.history es in
    record {
      legal = record {
        terms_ok = subst AreTerms (sym terms) are.legal.terms_ok;
        legal = subst (λ (h : List Entry). IsLegal next.terms h) behind (subst (λ (t : Terms). IsLegal t (desk.history ++ es)) same add.legal);
      };
      open_are = open_are;
      room = omega (arith, held_is, gate, bytes_are, grown, add.room);
      short = omega (arith, are.short, bytes_are, grown, records, entries_sizes desk.journal.format es, sizes_longest desk.journal.format es, add.is_record.some);
    }
