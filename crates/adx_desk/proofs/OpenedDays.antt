-- What an opening makes of a file: its history, or a refusal.
use Rattle.std.proofs.Common.{◌≡◌, ◌⊎◌, inl, inr, ℕ, ◌+◌, ◌<◌, ◌≤◌, min, List, [], ◌∷◌, ◌++◌, length, Option, Some, refl, sym, ◌∙◌, ap, subst, arith, length-append}
use Rattle.std.specs.Prelude.{Err}
use Rattle.std.specs.List.{flat_map}
use Rattle.std.proofs.lemmas.Option.{same_Some}
use Rattle.std.proofs.lemmas.List.Elements.{All-head, All-nil}
use Rattle.day_journal.specs.Disks.{LeavesOnly}
use Rattle.adx_io.specs.Streams.{last_count}
use Rattle.day_journal.specs.declared.fault.AppendFault.{AppendFault}
use Rattle.day_journal.specs.declared.fault.OpeningFault.{OpeningFault}
use Rattle.day_journal.specs.declared.start.TheConstants.{NEW_FORMAT}
use Rattle.day_journal.specs.Faults.{EndsAppend, Refuses, greatest_size}
use Rattle.day_journal.specs.Places.{IsPayload, IsUnfinished, StandsFor, new_file, open_place, opened}
use Rattle.day_journal.specs.Starts.{IsAsBefore, KeptOrMade, StandsAsRead as StandsAsPayloads}
use Rattle.day_journal.specs.Tails.{JournalState, size_of}
use Rattle.day_journal.proofs.Apart.{stands_or_bad, stands_or_no_head}
use Rattle.day_journal.proofs.Keeping.{place_after}
use Rattle.day_journal.proofs.Moments.{joined, weaker}
use Rattle.day_journal.proofs.Once.{stands_once}
use Rattle.day_rules.specs.declared.entry.Entry.{Entry}
use Rattle.day_rules.specs.Legal.{IsLegal}
use Rattle.adx_desk.specs.declared.fault.DeskFault.{DeskFault}
use Rattle.adx_desk.specs.Desks.{DeskKeeps}
use Rattle.day_machine.specs.Held.{held}
use Rattle.adx_desk.specs.Histories.{DeskTerms, IsHistoryOf, Spells, StandsSame}
use Rattle.day_entries.specs.Entries.{entries_bytes}
use Rattle.adx_desk.specs.Loading.{HasOpened}
use Rattle.adx_desk.specs.Openings.{HasDiskCause, HasNoRoom, IsRefusal, RefusesDesk, StandsAsRead, append_fault_of, fault_of}
use Rattle.adx_desk.proofs.Keeping.{sure_by_none}
use Rattle.day_rules.proofs.Histories.{legal_none}
use Rattle.day_machine.proofs.OpenAwards.{none_held}
use Rattle.adx_desk.proofs.Records.{no_records}

-- how many bytes a journal with these payloads has
pub opened_one : (format : ℕ) (p : List ℕ) → length (opened format (p ∷ [])) ≡ 9 + (length p + 5)
opened_one format p = sym (place_after format [] p 9 (length p + 5) refl refl)

-- without payloads no entry is spelled
pub none_spelled : (format : ℕ) (digest : List ℕ) (payloads : List (List ℕ)) (history : List Entry) → payloads ≡ [] → Spells format digest payloads history → history ≡ []
none_spelled format digest payloads history none (inl both) = both.1
none_spelled format digest payloads history none (inr some) = absurd (cc (none, some.1))

new_stands : StandsFor NEW_FORMAT new_file []
new_stands = inr (record { known = inr refl; each = All-nil IsPayload; closed = record { gate = 0; rest = []; split = refl; shut = omega arith } })

-- A file without payloads represents no entry, and so does one with the digest alone, in whichever format: each represents
-- the history without entries.
empty_history : (terms : DeskTerms) (format : ℕ) (file : List ℕ) → StandsFor format file [] → IsHistoryOf terms file []
empty_history terms format file stands =
    record { format = format; payloads = []; stands = stands; spells = inl (refl, refl); legal = legal_none terms.day; room = omega (arith, none_held format) }

first_history : (terms : DeskTerms) (format : ℕ) (file : List ℕ) → StandsFor format file (terms.digest ∷ []) → IsHistoryOf terms file []
first_history terms format file (inl un) = absurd (cc un.1)
first_history terms format file (inr open_) = record {
  format = format;
  payloads = terms.digest ∷ [];
  stands = inr open_;
  spells = inr ([], refl, no_records format);
  legal = legal_none terms.day;
  room = omega (arith, none_held format, opened_one format terms.digest, (All-head IsPayload terms.digest [] open_.each).fits);
}

pub empty_stands : (terms : DeskTerms) (format other : ℕ) (file c : List ℕ) → StandsFor format file [] → StandsFor other c [] ⊎ StandsFor other c (terms.digest ∷ []) → StandsSame terms file c
empty_stands terms format other file c empty (inl alone) = inr ([], empty_history terms format file empty, empty_history terms other c alone)
empty_stands terms format other file c empty (inr first) = inr ([], empty_history terms format file empty, first_history terms other c first)

-- a file is as before in payloads, and so in its history
payloads_same : (terms : DeskTerms) (before after : List ℕ) → IsAsBefore before after → StandsSame terms before after
payloads_same terms before after (inl same) = inl same
payloads_same terms before after (inr new) =
    inr ([], empty_history terms NEW_FORMAT before (new.0 NEW_FORMAT), empty_history terms NEW_FORMAT after (new.1 NEW_FORMAT))

-- a file represents all that another one represents
abbrev StandsAs : (before after : List ℕ) → Type 0
StandsAs before after = (format : ℕ) (payloads : List (List ℕ)) → StandsFor format before payloads → StandsFor format after payloads

-- the same payloads are the same history
payloads_histories : (terms : DeskTerms) (a b : List ℕ) → StandsAs a b → (history : List Entry) → IsHistoryOf terms a history → IsHistoryOf terms b history
payloads_histories terms a b same history is = record {
  format = is.format;
  payloads = is.payloads;
  stands = same is.format is.payloads is.stands;
  spells = is.spells;
  legal = is.legal;
  room = is.room;
}

-- a journal made anew represents what the unfinished file represented
made_stands : (file : List ℕ) → IsUnfinished file → StandsAs new_file file
made_stands file un format payloads stands = inl (un, stands_once format NEW_FORMAT new_file payloads [] stands new_stands)

-- the history that was opened
pub opened_history : (terms : DeskTerms) (file : List ℕ) (now : Option (List ℕ)) (images : List ℕ → Type 0) (journal : JournalState) (history : List Entry) → HasOpened terms.digest file now images journal history → IsLegal terms.day history
    → size_of journal + held journal.format history ≤ greatest_size → IsHistoryOf terms file history
opened_history terms file now images journal history o legal room = by o.stood
  where
    place : journal.gate ≡ length (opened journal.format (terms.digest ∷ o.rest))
    place = (o.kept []).place

    by : (StandsFor journal.format file (terms.digest ∷ o.rest) × (now ≡ Some file)) ⊎ (StandsFor journal.format file [] × (o.rest ≡ []) × (history ≡ [])) → IsHistoryOf terms file history
    by (inl had) = record { format = journal.format; payloads = terms.digest ∷ o.rest; stands = had.0; spells = inr (o.rest, refl, o.records); legal = legal; room = omega (arith, place, room) }
    by (inr begun) = record {
      format = journal.format;
      payloads = [];
      stands = begun.0;
      spells = inl (refl, begun.2);
      legal = legal;
      room = omega (arith, ap (held journal.format) begun.2, none_held journal.format);
    }

-- it is kept, with any tail
pub opened_keeps : (terms : DeskTerms) (file : List ℕ) (now : Option (List ℕ)) (images : List ℕ → Type 0) (journal : JournalState) (history : List Entry) (faults : ℕ) → HasOpened terms.digest file now images journal history → IsLegal terms.day history
    → size_of journal + held journal.format history ≤ greatest_size → (tail : List Entry) → DeskKeeps images (record { terms = terms; history = history; journal = journal; faults = faults }) tail
opened_keeps terms file now images journal history faults o legal room tail = record {
  rest = o.rest;
  kept = o.kept (entries_bytes journal.format tail);
  records = o.records;
  legal = legal;
  room = omega (arith, (o.kept []).place, room);
  doubted = λ doubt. absurd (sure_by_none images journal (terms.digest ∷ o.rest) (o.kept []) doubt);
}

-- without room for what is held
pub opened_full : (terms : DeskTerms) (file : List ℕ) (now : Option (List ℕ)) (images : List ℕ → Type 0) (journal : JournalState) (history : List Entry) (size : ℕ) → HasOpened terms.digest file now images journal history → IsLegal terms.day history
    → length terms.digest ≡ 32 → greatest_size < size_of journal + held journal.format history → size ≡ min (size_of journal + held journal.format history) last_count → HasNoRoom terms file size × (now ≡ Some file)
opened_full terms file now images journal history size o legal short passes told = by o.stood
  where
    place : journal.gate ≡ length (opened journal.format (terms.digest ∷ o.rest))
    place = (o.kept []).place

    total : size_of journal + held journal.format history ≡ length (opened journal.format (terms.digest ∷ o.rest)) + 1 + held journal.format history
    total = omega (arith, place)

    by : (StandsFor journal.format file (terms.digest ∷ o.rest) × (now ≡ Some file)) ⊎ (StandsFor journal.format file [] × (o.rest ≡ []) × (history ≡ [])) → HasNoRoom terms file size × (now ≡ Some file)
    by (inl had) = (
      record {
        format = journal.format;
        payloads = terms.digest ∷ o.rest;
        stands = had.0;
        history = history;
        spells = inr (o.rest, refl, o.records);
        legal = legal;
        passes = subst (λ (n : ℕ). greatest_size < n) total passes;
        told = told ∙ ap (λ (n : ℕ). min n last_count) total;
      },
      had.1,
    )
    by (inr begun) =
        let one : length (opened journal.format (terms.digest ∷ o.rest)) ≡ 9 + (length terms.digest + 5) = ap (λ (ps : List (List ℕ)). length (opened journal.format (terms.digest ∷ ps))) begun.1 ∙ opened_one journal.format terms.digest in
        absurd (omega (arith, place, one, short, ap (held journal.format) begun.2, none_held journal.format, passes))

-- lack of memory and a fault of the disk say nothing of the file
pub no_refusal : (terms : DeskTerms) (file : List ℕ) (why : DeskFault) → (IsRefusal why → ⊥) → RefusesDesk terms file why
no_refusal terms file DeskFault.DiskFault deny = tt
no_refusal terms file (DeskFault.JournalFull size) deny = absurd (deny tt)
no_refusal terms file (DeskFault.BadEntry at) deny = absurd (deny tt)
no_refusal terms file (DeskFault.OtherRoster kept) deny = absurd (deny tt)
no_refusal terms file (DeskFault.NotAJournal at) deny = absurd (deny tt)
no_refusal terms file (DeskFault.BadLength at) deny = absurd (deny tt)
no_refusal terms file DeskFault.OutOfMemory deny = tt

pub some_payload : (format : ℕ) (file p : List ℕ) (ps : List (List ℕ)) (rest : List ℕ) → length file ≤ 10 → file ≡ opened format (p ∷ ps) ++ rest → ⊥
some_payload format file p ps rest few split = omega (arith, few, ap length split, length-append (opened format (p ∷ ps)) rest, length-append (open_place p) (flat_map open_place ps))

-- a new journal isn't refused
pub new_fine : (terms : DeskTerms) (why : DeskFault) → RefusesDesk terms new_file why → IsRefusal why → ⊥
new_fine terms DeskFault.DiskFault deny is = is
new_fine terms (DeskFault.JournalFull size) deny is =
    let none : deny.payloads ≡ [] = stands_once deny.format NEW_FORMAT new_file deny.payloads [] deny.stands new_stands in
    omega (arith, deny.passes, ap (λ (ps : List (List ℕ)). length (opened deny.format ps)) none, ap (held deny.format) (none_spelled deny.format terms.digest deny.payloads deny.history none deny.spells), none_held deny.format)
new_fine terms (DeskFault.BadEntry at) deny is = some_payload deny.format new_file terms.digest (deny.payloads ++ deny.payload ∷ []) deny.rest (omega arith) deny.split
new_fine terms (DeskFault.OtherRoster kept) deny is = some_payload deny.format new_file deny.first [] deny.rest (omega arith) deny.split
new_fine terms (DeskFault.NotAJournal at) deny is = stands_or_no_head NEW_FORMAT new_file [] at new_stands deny
new_fine terms (DeskFault.BadLength at) deny is = stands_or_bad NEW_FORMAT new_file [] at new_stands deny.bad
new_fine terms DeskFault.OutOfMemory deny is = is

-- Where a file was perhaps made anew: what was found of the file that was then there is found of the one before.
module _ (terms : DeskTerms) (file mid : List ℕ) where
  pub history_before : KeptOrMade file (Some mid) → (history : List Entry) → IsHistoryOf terms mid history → IsHistoryOf terms file history
  history_before (inl kept) history is = subst (λ (f : List ℕ). IsHistoryOf terms f history) (same_Some mid file kept) is
  history_before (inr made) history is =
      payloads_histories terms new_file file (made_stands file made.0) history (subst (λ (f : List ℕ). IsHistoryOf terms f history) (same_Some mid new_file made.1) is)

  pub refused_before : KeptOrMade file (Some mid) → (why : DeskFault) → RefusesDesk terms mid why → RefusesDesk terms file why
  refused_before (inl kept) why deny = subst (λ (f : List ℕ). RefusesDesk terms f why) (same_Some mid file kept) deny
  refused_before (inr made) why deny = no_refusal terms file why (new_fine terms why (subst (λ (f : List ℕ). RefusesDesk terms f why) (same_Some mid new_file made.1) deny))

  pub untouched_before : (now : Option (List ℕ)) → KeptOrMade file (Some mid) → (why : DeskFault) → RefusesDesk terms mid why → now ≡ Some mid → IsRefusal why → now ≡ Some file
  untouched_before now (inl kept) why deny same is = same ∙ kept
  untouched_before now (inr made) why deny same is = absurd (new_fine terms why (subst (λ (f : List ℕ). RefusesDesk terms f why) (same_Some mid new_file made.1) deny) is)

-- what is as the file that was then there is as the one before
same_before : (terms : DeskTerms) (file mid c : List ℕ) → KeptOrMade file (Some mid) → StandsSame terms mid c → StandsSame terms file c
same_before terms file mid c (inl kept) same = subst (λ (f : List ℕ). StandsSame terms f c) (same_Some mid file kept) same
same_before terms file mid c (inr made) (inl is) =
    let new : new_file ≡ c = sym (is ∙ same_Some mid new_file made.1) in
    inr ([], empty_history terms NEW_FORMAT file (inl (made.0, refl)), empty_history terms NEW_FORMAT c (subst (λ (f : List ℕ). StandsFor NEW_FORMAT f []) new new_stands))
same_before terms file mid c (inr made) (inr (history, was, now)) = inr (history, history_before terms file mid (inr made) history was, now)

-- the moments of an opening
module _ {D : Type 0} (reads : D → Option (List ℕ)) (may_leave : D → List ℕ → Type 0) (moment : D → ℕ) (left_since : D → ℕ → List ℕ → Type 0) (terms : DeskTerms) where
  -- in terms of payloads, and so of histories
  stands_as_read : (old : D) (c : List ℕ) → StandsAsPayloads (may_leave old) (reads old) c → StandsAsRead terms (may_leave old) (reads old) c
  stands_as_read old c (inl left) = inl left
  stands_as_read old c (inr made) = inr (made.0, made.1, payloads_same terms made.0 c made.2)

  pub begun_moments : (old new : D) → LeavesOnly moment left_since old new (StandsAsPayloads (may_leave old) (reads old)) → LeavesOnly moment left_since old new (StandsAsRead terms (may_leave old) (reads old))
  begun_moments old new run =
      weaker moment left_since old new (StandsAsPayloads (may_leave old) (reads old)) (StandsAsRead terms (may_leave old) (reads old)) run (stands_as_read old)

  -- the first part of an opening, and what is done to the file that it read
  pub opened_moments : (old mid new : D) (file mid_file : List ℕ) → LeavesOnly moment left_since old mid (StandsAsPayloads (may_leave old) (reads old)) → reads old ≡ Some file → KeptOrMade file (Some mid_file)
      → LeavesOnly moment left_since mid new (StandsSame terms mid_file) → LeavesOnly moment left_since old new (StandsAsRead terms (may_leave old) (reads old))
  opened_moments old mid new file mid_file first told kept second =
      joined moment left_since old mid new (StandsAsPayloads (may_leave old) (reads old)) (StandsSame terms mid_file) (StandsAsRead terms (may_leave old) (reads old)) first second
      (stands_as_read old)
      (λ c same. inr (file, told, same_before terms file mid_file c kept same))

-- how a step of the journal ends
pub append_cause : (before now size : ℕ) (why : AppendFault) → EndsAppend before now size (Err why) → HasDiskCause before now (append_fault_of why)
append_cause before now size AppendFault.DiskFault ends = (ends.1, ends.2)
append_cause before now size (AppendFault.Full told) ends = ends.2

pub append_fits : (before now size : ℕ) (why : AppendFault) → EndsAppend before now size (Err why) → size ≤ greatest_size → IsRefusal (append_fault_of why) → ⊥
append_fits before now size AppendFault.DiskFault ends fits is = is
append_fits before now size (AppendFault.Full told) ends fits is = omega (arith, ends.0, fits)

-- the head alone is looked at
pub head_refused : (terms : DeskTerms) (file : List ℕ) (why : OpeningFault) → ((at : ℕ) → why ≡ OpeningFault.BadLength at → ⊥) → Refuses file why → RefusesDesk terms file (fault_of why)
head_refused terms file OpeningFault.DiskFault deny refuses = tt
head_refused terms file (OpeningFault.NotAJournal at) deny refuses = refuses
head_refused terms file (OpeningFault.BadLength at) deny refuses = absurd (deny at refl)
head_refused terms file OpeningFault.OutOfMemory deny refuses = tt

pub head_untouched : (was now : Option (List ℕ)) (file : List ℕ) (why : OpeningFault) → ((at : ℕ) → why ≡ OpeningFault.BadLength at → ⊥) → ((at : ℕ) → why ≡ OpeningFault.NotAJournal at → now ≡ was) → Refuses file why
    → was ≡ Some file → IsRefusal (fault_of why) → now ≡ Some file
head_untouched was now file OpeningFault.DiskFault deny same refuses told is = absurd is
head_untouched was now file (OpeningFault.NotAJournal at) deny same refuses told is = same at refl ∙ told
head_untouched was now file (OpeningFault.BadLength at) deny same refuses told is = absurd (deny at refl)
head_untouched was now file OpeningFault.OutOfMemory deny same refuses told is = absurd is
