-- How a journal is read place by place. This project's own.
use Rattle.std.specs.Prelude.{◌≡◌, ◌≢◌, ◌⊎◌, ℕ, ◌+◌, ◌-◌, ◌^◌, ◌<◌, ◌≤◌, min, List, ◌∷◌, ◌++◌, length, take, drop, All, Bool, true, Option}
use Rattle.std.specs.Int.{w32, to_le_bytes}
use Rattle.day_journal.specs.Disks.{LeavesOnly, Within}
use Rattle.adx_io.specs.Frames.{longest_payload}
use Rattle.day_journal.specs.Places.{IsFormat, IsPayload, IsClosed, opened}
use Rattle.day_journal.specs.declared.place.Place.{Place}

-- a length that is none of a payload
abbrev pub IsNoLength : ℕ → Type 0
IsNoLength n = (n ≡ 0) ⊎ (longest_payload < n)

-- what comes after an open gate with this length
abbrev pub IsSized : ℕ → Place → Type 0
IsSized length (Place.Open n) = (n ≡ length) × (0 < n) × (n ≤ longest_payload)
IsSized length Place.Closed = ⊥
IsSized length Place.Bad = IsNoLength length

-- an open gate and a length that is none of a payload
pub record HasNoLength (bytes : List ℕ) : Type 0 where
  pub length_there : ℕ
  pub rest : List ℕ
  pub split : bytes ≡ 1 ∷ (to_le_bytes w32 length_there ++ rest)
  pub fits : length_there < 2 ^ 32
  pub none : IsNoLength length_there

-- what is at a place with these first bytes
abbrev pub IsPlace : List ℕ → Place → Type 0
IsPlace bytes (Place.Open n) = (bytes ≡ 1 ∷ (to_le_bytes w32 n ++ drop 5 bytes)) × (5 ≤ length bytes) × (0 < n) × (n ≤ longest_payload)
IsPlace bytes Place.Closed = (gate : ℕ) × (rest : List ℕ) × (bytes ≡ gate ∷ rest) × (gate ≢ 1)
IsPlace bytes Place.Bad = ((length bytes < 5) × ((gate : ℕ) (rest : List ℕ) → bytes ≡ gate ∷ rest → gate ≡ 1)) ⊎ HasNoLength bytes

-- the bytes from a place on that were read
pub record WindowState : Type 0 where
  pub at : ℕ
  pub bytes : List ℕ

-- the bytes that were read are those of the file at that place
pub record IsWindow (file : List ℕ) (window : WindowState) : Type 0 where
  pub within : window.at ≤ length file
  pub addressed : length file < 2 ^ 64
  pub shown : window.bytes ≡ take (length window.bytes) (drop window.at file)

-- it has a gate and a length, or all that the file has
pub record HasPlace (file : List ℕ) (window : WindowState) : Type 0 where
  pub is_window : IsWindow file window
  pub enough : (5 ≤ length window.bytes) ⊎ (window.bytes ≡ drop window.at file)

-- where the first len bytes were the file's from a place on, so are they and the n that were read
pub record ReadsMore (file : List ℕ) (at len n : ℕ) (out : List ℕ) : Type 0 where
  pub count : n ≡ min (length out - len) (length file - (at + len))
  pub shown : take (len + n) out ≡ take (len + n) (drop at file)

-- A read of a file that still fits the machine's places goes on: if the first `len` bytes were the file's from the place
-- `at` on, then so are these and the `n` that were read after them.
abbrev pub ReadsOn : List ℕ → ℕ → ℕ → List ℕ → ℕ → List ℕ → Type 0
ReadsOn file at len old n new = length file < 2 ^ 64 → at + len ≤ length file → take len old ≡ take len (drop at file) → ReadsMore file at len n new

-- calls that change neither what a read gives nor the images, but perhaps leave fewer of these
pub record OnlyReads {D : Type 0} (reads : D → Option (List ℕ)) (may_leave : D → List ℕ → Type 0) (moment : D → ℕ)
    (left_since : D → ℕ → List ℕ → Type 0) (old new : D) : Type 0 where
  pub same : reads new ≡ reads old
  pub crash : Within (may_leave old) (may_leave new)
  pub moments : LeavesOnly moment left_since old new (may_leave old)

-- a reader of a journal: its format, its window, the file's length, and whether it met the closed gate
pub record OpeningState : Type 0 where
  pub format : ℕ
  pub window : WindowState
  pub size : ℕ
  pub closed : Bool

-- the reader comes after these payloads
pub record StandsBehind (file : List ℕ) (opening : OpeningState) (payloads : List (List ℕ)) : Type 0 where
  pub known : IsFormat opening.format
  pub each : All IsPayload payloads
  pub place : opening.window.at ≡ length (opened opening.format payloads)
  pub split : file ≡ opened opening.format payloads ++ drop opening.window.at file
  pub window : IsWindow file opening.window
  pub size : opening.size ≡ length file
  pub closed : opening.closed ≡ true → IsClosed (opened opening.format payloads) file
