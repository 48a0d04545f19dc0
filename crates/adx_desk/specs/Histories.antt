-- What a file represents: the history whose entries its payloads spell. This project's own.
use Rattle.std.specs.Prelude.{◌≡◌, ◌⊎◌, ℕ, ◌+◌, ◌≤◌, ◌<◌, List, [], ◌∷◌, ◌++◌, map, length, All}
use Rattle.std.specs.List.{flat_map, sum_by}
use Rattle.day_journal.specs.Faults.{greatest_size}
use Rattle.day_journal.specs.declared.start.TheConstants.{NEW_FORMAT}
use Rattle.day_journal.specs.Places.{StandsFor, opened}
use Rattle.day_rules.specs.declared.entry.Entry.{Entry}
use Rattle.day_rules.specs.Legal.{IsLegal}
use Rattle.day_rules.specs.Terms.{Terms}
use Rattle.day_entries.specs.Entries.{Fits, entries_bytes}
use Rattle.day_machine.specs.Held.{held, longest_record}

-- what a desk was opened with: the terms of its day, and the digest of its roster
pub record DeskTerms : Type 0 where
  pub day : Terms
  pub digest : List ℕ

-- the entries of one record in a journal of a format: at least one, each with a spelling
pub record IsRecord (format : ℕ) (entries : List Entry) : Type 0 where
  pub some : 0 < length entries
  pub spelled : All (Fits format) entries

-- the payloads of a journal of a format are those of the history, record by record
pub record AreRecords (format : ℕ) (payloads : List (List ℕ)) (history : List Entry) : Type 0 where
  pub records : List (List Entry)
  pub each : All (IsRecord format) records
  pub entries : history ≡ flat_map (λ (es : List Entry). es) records
  pub spelled : payloads ≡ map (entries_bytes format) records

-- the payloads of a history: none and no entry, or the roster's digest and then the records
abbrev pub Spells : ℕ → List ℕ → List (List ℕ) → List Entry → Type 0
Spells format digest payloads history =
    ((payloads ≡ []) × (history ≡ [])) ⊎ ((rest : List (List ℕ)) × (payloads ≡ digest ∷ rest) × AreRecords format rest history)

-- a journal of a format with these payloads has room for what is held
abbrev pub HasRoom : ℕ → List (List ℕ) → List Entry → Type 0
HasRoom format payloads history = length (opened format payloads) + 1 + held format history ≤ greatest_size

-- The longest that a journal of this history may be, in either format: its head, the roster's digest, a record for each
-- entry, and the closed gate.
abbrev pub longest_size : DeskTerms → List Entry → ℕ
longest_size terms history = length (opened NEW_FORMAT (terms.digest ∷ [])) + 1 + sum_by longest_record history

-- the file represents this history, in the format that its head says
pub record IsHistoryOf (terms : DeskTerms) (file : List ℕ) (history : List Entry) : Type 0 where
  pub format : ℕ
  pub payloads : List (List ℕ)
  pub stands : StandsFor format file payloads
  pub spells : Spells format terms.digest payloads history
  pub legal : IsLegal terms.day history
  pub room : HasRoom format payloads history

-- the history alone, or with the entries of one record that is in doubt
abbrev pub WithOrWithout : DeskTerms → List Entry → List Entry → List ℕ → Type 0
WithOrWithout terms history tail file = IsHistoryOf terms file history ⊎ IsHistoryOf terms file (history ++ tail)

-- the history alone, with the record that was in doubt, or with the new one; these two never together
abbrev pub WithAtMostOne : DeskTerms → List Entry → List Entry → List Entry → List ℕ → Type 0
WithAtMostOne terms history tail new file =
    IsHistoryOf terms file history ⊎ IsHistoryOf terms file (history ++ tail) ⊎ IsHistoryOf terms file (history ++ new)

-- a file is another one, or both represent one history
abbrev pub StandsSame : DeskTerms → (before after : List ℕ) → Type 0
StandsSame terms before after =
    (after ≡ before) ⊎ ((history : List Entry) × IsHistoryOf terms before history × IsHistoryOf terms after history)
