-- What an open journal knows of each image of its disk. This project's own.
use Rattle.std.specs.Prelude.{◌≡◌, ◌≢◌, ◌⊎◌, ℕ, ◌+◌, List, [], ◌∷◌, ◌++◌, length, Bool, true, false, IsTrue, All}
use Rattle.day_journal.specs.Disks.{Each}
use Rattle.adx_io.specs.Frames.{body}
use Rattle.day_journal.specs.Places.{IsFormat, IsPayload, opened, IsClosed, StandsFor}

-- after these bytes a gate, then the record and a closed gate, then anything
pub record IsGated (gate : ℕ) (before record_bytes file : List ℕ) : Type 0 where
  pub rest : List ℕ
  pub split : file ≡ before ++ gate ∷ (record_bytes ++ 0 ∷ rest)

-- the same after some gate
pub record HasTail (before record_bytes file : List ℕ) : Type 0 where
  pub gate : ℕ
  pub gated : IsGated gate before record_bytes file

-- the same after a closed gate
pub record HasShutTail (before record_bytes file : List ℕ) : Type 0 where
  pub gate : ℕ
  pub gated : IsGated gate before record_bytes file
  pub shut : gate ≢ 1

-- an open journal: its format, the place of the gate after its payloads, and whether it is in doubt that the gate is
-- closed
pub record JournalState : Type 0 where
  pub format : ℕ
  pub gate : ℕ
  pub in_doubt : Bool

-- what is in an image: the payloads and a closed gate, or, in doubt, some gate and the tail
abbrev pub Ends : ℕ → Bool → List (List ℕ) → List ℕ → List ℕ → Type 0
Ends format false payloads tail file = IsClosed (opened format payloads) file
Ends format true payloads tail file = HasTail (opened format payloads) (body tail) file

-- The journal keeps these payloads on a disk with these images. The tail is that of the last append
-- where it is in doubt, and else any.
pub record Keeps (images : List ℕ → Type 0) (journal : JournalState) (payloads : List (List ℕ)) (tail : List ℕ) : Type 0 where
  pub known : IsFormat journal.format
  pub place : journal.gate ≡ length (opened journal.format payloads)
  pub each : All IsPayload payloads
  pub doubted : IsTrue journal.in_doubt → IsPayload tail
  pub ends : Each images (Ends journal.format journal.in_doubt payloads tail)

-- the file represents these payloads in this format, or them and the tail
abbrev pub WithOrWithout : ℕ → List (List ℕ) → List ℕ → List ℕ → Type 0
WithOrWithout format payloads tail file = StandsFor format file payloads ⊎ StandsFor format file (payloads ++ tail ∷ [])

-- the payloads alone, with the tail that was in doubt, or with the new one; the two never together
abbrev pub WithAtMostOne : ℕ → List (List ℕ) → List ℕ → List ℕ → List ℕ → Type 0
WithAtMostOne format payloads tail new file =
    StandsFor format file payloads ⊎ StandsFor format file (payloads ++ tail ∷ [])
    ⊎ StandsFor format file (payloads ++ new ∷ [])

-- how many bytes a journal has
abbrev pub size_of : JournalState → ℕ
size_of journal = journal.gate + 1

-- the same with one payload more, and with what is held
abbrev pub size_after : JournalState → List ℕ → ℕ → ℕ
size_after journal payload held = journal.gate + 1 + (length payload + 5) + held
