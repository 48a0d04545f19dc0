-- Private, cited by the steps of an opening alone: what each step has read of the file.
use Rattle.std.specs.Prelude.{◌≡◌, ◌⊎◌, ℕ, ◌<◌, List, [], ◌∷◌, ◌++◌, length, All, Option, Some}
use Rattle.day_journal.specs.Openings.{OpeningState, StandsBehind}
use Rattle.day_journal.specs.Places.{IsClosed, StandsFor, opened}
use Rattle.day_journal.specs.Tails.{JournalState, Keeps}
use Rattle.day_rules.specs.declared.entry.Entry.{Entry}
use Rattle.day_rules.specs.Legal.{IsLegal, MayFollow}
use Rattle.day_rules.specs.Terms.{Terms}
use Rattle.day_entries.specs.Entries.{BeginsWith, Fits, entry_bytes, entries_bytes}
use Rattle.adx_desk.specs.declared.fault.DeskFault.{DeskFault}
use Rattle.adx_desk.specs.Histories.{AreRecords}

-- an entry at the front of the bytes was added, and these bytes come after it
pub record TakesEntry (format : ℕ) (terms : Terms) (old new : List Entry) (bytes rest : List ℕ) : Type 0 where
  pub entry : Entry
  pub fits : Fits format entry
  pub split : bytes ≡ entry_bytes format entry ++ rest
  pub follows : MayFollow terms old entry
  pub added : new ≡ old ++ entry ∷ []

-- no entry is at the front of the bytes that may follow
abbrev pub LacksNext : ℕ → Terms → List Entry → List ℕ → Type 0
LacksNext format terms history bytes = (e : Entry) (n : ℕ) → BeginsWith format bytes e n → MayFollow terms history e → ⊥

-- why an entry that was read isn't added
abbrev pub RefusesNext : Terms → List Entry → Entry → DeskFault → Type 0
RefusesNext terms history e DeskFault.DiskFault = ⊥
RefusesNext terms history e (DeskFault.JournalFull size) = ⊥
RefusesNext terms history e (DeskFault.BadEntry at) = (at ≡ length history) × (MayFollow terms history e → ⊥)
RefusesNext terms history e (DeskFault.OtherRoster kept) = ⊥
RefusesNext terms history e (DeskFault.NotAJournal at) = ⊥
RefusesNext terms history e (DeskFault.BadLength at) = ⊥
RefusesNext terms history e DeskFault.OutOfMemory = Unit {0}

-- why no entry is taken of the bytes
abbrev pub RefusesEntry : ℕ → Terms → List Entry → List ℕ → DeskFault → Type 0
RefusesEntry format terms history bytes DeskFault.DiskFault = ⊥
RefusesEntry format terms history bytes (DeskFault.JournalFull size) = ⊥
RefusesEntry format terms history bytes (DeskFault.BadEntry at) = (at ≡ length history) × LacksNext format terms history bytes
RefusesEntry format terms history bytes (DeskFault.OtherRoster kept) = ⊥
RefusesEntry format terms history bytes (DeskFault.NotAJournal at) = ⊥
RefusesEntry format terms history bytes (DeskFault.BadLength at) = ⊥
RefusesEntry format terms history bytes DeskFault.OutOfMemory = Unit {0}

-- entries at the front of a payload were added, at least one
pub record TakesFront (format : ℕ) (terms : Terms) (old new : List Entry) (payload rest : List ℕ) : Type 0 where
  pub front : List Entry
  pub some : 0 < length front
  pub fits : All (Fits format) front
  pub split : payload ≡ entries_bytes format front ++ rest
  pub added : new ≡ old ++ front
  pub legal : IsLegal terms new

-- entries at the front of a payload were added, or none yet; some bytes come after them
abbrev pub BehindFront : ℕ → Terms → List Entry → List Entry → List ℕ → List ℕ → Type 0
BehindFront format terms old new payload rest =
    ((new ≡ old) × (rest ≡ payload)) ⊎ (TakesFront format terms old new payload rest × (0 < length rest))

-- after some entries of the payload there is none that may follow
pub record StopsFront (format : ℕ) (terms : Terms) (old : List Entry) (payload : List ℕ) (at : ℕ) : Type 0 where
  pub front : List Entry
  pub fits : All (Fits format) front
  pub bytes : List ℕ
  pub split : payload ≡ entries_bytes format front ++ bytes
  pub some : 0 < length payload → 0 < length bytes
  pub legal : IsLegal terms (old ++ front)
  pub none : LacksNext format terms (old ++ front) bytes
  pub there : at ≡ length (old ++ front)

-- why a payload isn't a record
abbrev pub RefusesRecord : ℕ → Terms → List Entry → List ℕ → DeskFault → Type 0
RefusesRecord format terms history payload DeskFault.DiskFault = ⊥
RefusesRecord format terms history payload (DeskFault.JournalFull size) = ⊥
RefusesRecord format terms history payload (DeskFault.BadEntry at) = StopsFront format terms history payload at
RefusesRecord format terms history payload (DeskFault.OtherRoster kept) = ⊥
RefusesRecord format terms history payload (DeskFault.NotAJournal at) = ⊥
RefusesRecord format terms history payload (DeskFault.BadLength at) = ⊥
RefusesRecord format terms history payload DeskFault.OutOfMemory = Unit {0}

-- the digest and the records of this history were read
pub record HasRead (digest file : List ℕ) (opening : OpeningState) (history : List Entry) : Type 0 where
  pub rest : List (List ℕ)
  pub behind : StandsBehind file opening (digest ∷ rest)
  pub records : AreRecords opening.format rest history

-- and they are all
pub record HasReadAll (digest file : List ℕ) (opening : OpeningState) (history : List Entry) : Type 0 where
  pub read : HasRead digest file opening history
  pub closed : IsClosed (opened opening.format (digest ∷ read.rest)) file

-- The journal keeps this history after the digest. The file represented it, and reads as it did; or it represented no
-- payload, and the digest is the first one now.
pub record HasOpened (digest file : List ℕ) (now : Option (List ℕ)) (images : List ℕ → Type 0) (journal : JournalState) (history : List Entry) : Type 0 where
  pub rest : List (List ℕ)
  pub records : AreRecords journal.format rest history
  pub kept : (tail : List ℕ) → Keeps images journal (digest ∷ rest) tail
  pub stood : (StandsFor journal.format file (digest ∷ rest) × (now ≡ Some file)) ⊎ (StandsFor journal.format file [] × (rest ≡ []) × (history ≡ []))
