-- The journal's file: a head, and after it the payloads, each at an open place. This project's own.
-- Example: the bytes 1, `ADXJRNL2`, 1, 1, 0, 0, 0, 7, 0 are a journal of format 2 with one payload, the byte 7;
-- what comes after isn't looked at.
use Rattle.std.specs.Prelude.{◌≡◌, ◌≢◌, ◌⊎◌, ℕ, ◌+◌, ◌<◌, ◌≤◌, List, [], ◌∷◌, ◌++◌, length, take, slice_get, All}
use Rattle.std.specs.List.{flat_map}
use Rattle.adx_io.specs.Frames.{longest_payload, body}
use Rattle.day_journal.specs.declared.start.TheConstants.{NEW_FORMAT}

-- a journal's format, which its head says
abbrev pub IsFormat : ℕ → Type 0
IsFormat format = (format ≡ 1) ⊎ (format ≡ 2)

-- ADXJRNL and the digit of the format
abbrev pub mark : ℕ → List ℕ
mark format = 65 ∷ 68 ∷ 88 ∷ 74 ∷ 82 ∷ 78 ∷ 76 ∷ (48 + format) ∷ []

-- a 1 and the mark
abbrev pub head : ℕ → List ℕ
head format = 1 ∷ mark format

-- what a journal can have as a payload: at least one byte, and at most the longest
pub record IsPayload (payload : List ℕ) : Type 0 where
  pub some : 0 < length payload
  pub fits : length payload ≤ longest_payload

-- the payload at an open place
abbrev pub open_place : List ℕ → List ℕ
open_place payload = 1 ∷ body payload

-- the head of a format, and the payloads at open places
abbrev pub opened : ℕ → List (List ℕ) → List ℕ
opened format payloads = head format ++ flat_map open_place payloads

-- at most 10 bytes, of which the first is 0
pub record IsCleared (file : List ℕ) : Type 0 where
  pub rest : List ℕ
  pub split : file ≡ 0 ∷ rest
  pub few : length file ≤ 10

-- a journal of a format without payloads, but perhaps for its first byte
pub record IsMarkedAs (format : ℕ) (file : List ℕ) : Type 0 where
  pub gate : ℕ
  pub split : file ≡ gate ∷ (mark format ++ 0 ∷ [])

-- the same of some format
pub record IsMarked (file : List ℕ) : Type 0 where
  pub format : ℕ
  pub known : IsFormat format
  pub marked : IsMarkedAs format file

-- A file before it is made: at most a byte; byte 0 unset and at most 10 bytes; or all of a journal's bytes but the
-- first, and no payload.
abbrev pub IsUnfinished : List ℕ → Type 0
IsUnfinished file = (length file ≤ 1) ⊎ IsCleared file ⊎ IsMarked file

-- a new journal
abbrev pub new_file : List ℕ
new_file = head NEW_FORMAT ++ 0 ∷ []

-- the open places end at a gate that isn't 1, whatever comes after it
pub record IsClosed (before file : List ℕ) : Type 0 where
  pub gate : ℕ
  pub rest : List ℕ
  pub split : file ≡ before ++ gate ∷ rest
  pub shut : gate ≢ 1

-- a journal of that format with these payloads
pub record IsJournal (format : ℕ) (file : List ℕ) (payloads : List (List ℕ)) : Type 0 where
  pub known : IsFormat format
  pub each : All IsPayload payloads
  pub closed : IsClosed (opened format payloads) file

-- The payloads that a file represents, and its format. An unfinished file represents none, in any format.
abbrev pub StandsFor : ℕ → List ℕ → List (List ℕ) → Type 0
StandsFor format file payloads = (IsUnfinished file × (payloads ≡ [])) ⊎ IsJournal format file payloads

-- no payload is at this place, and no gate that isn't 1
pub record IsBadPlace (place : List ℕ) : Type 0 where
  pub gate : (gate : ℕ) (rest : List ℕ) → place ≡ gate ∷ rest → gate ≡ 1
  pub payload : (payload rest : List ℕ) → IsPayload payload → place ≡ open_place payload ++ rest → ⊥

-- the open places end at `at` with a bad one
pub record HasBadLength (file : List ℕ) (at : ℕ) : Type 0 where
  pub format : ℕ
  pub known : IsFormat format
  pub payloads : List (List ℕ)
  pub each : All IsPayload payloads
  pub place : List ℕ
  pub split : file ≡ opened format payloads ++ place
  pub bad : IsBadPlace place
  pub there : at ≡ length (opened format payloads)

-- byte `at` is missing or another one than in the head of any format, and those before it are a head's
pub record HasNoHead (file : List ℕ) (at : ℕ) : Type 0 where
  pub finished : IsUnfinished file → ⊥
  pub within : (format : ℕ) → IsFormat format → at < length (head format)
  pub before : (format : ℕ) → IsFormat format → take at file ≡ take at (head format)
  pub differs : (format : ℕ) → IsFormat format → slice_get file at ≢ slice_get (head format) at
