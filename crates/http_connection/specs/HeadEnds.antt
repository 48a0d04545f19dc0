-- Where the head of a message ends: at the first empty line after a line that isn't empty (RFC 9112, sections 2.1 and
-- 2.2). The bound is this project's own.
use Rattle.std.specs.Prelude.{◌≡◌, ℕ, ◌<◌, ◌≤◌, List, [], ◌∷◌, ◌++◌, length, take, drop, All, Bool, true, false, ◌==◌}
use Rattle.std.specs.List.{flat_map}
use Rattle.http_connection.specs.Lines.{IsLine, ended}
use Rattle.http_connection.specs.declared.head.TheConstants.{HEAD_LIMIT}
use Rattle.http_connection.specs.declared.head.HeadEnd.{HeadEnd}

-- an empty line ends in LF, or in CR and LF
abbrev pub is_empty_line : List ℕ → Bool
is_empty_line [] = true
is_empty_line (b ∷ []) = b == 13
is_empty_line (b ∷ c ∷ more) = false

-- a line with no byte before its LF, or with CR alone
abbrev pub IsEmpty : List ℕ → Type 0
IsEmpty line = is_empty_line line ≡ true

-- a line that isn't empty
pub record IsFull (line : List ℕ) : Type 0 where
  pub is_line : IsLine line
  pub some : is_empty_line line ≡ false

-- The bytes begin with what may be a head: empty lines, then lines that aren't empty, and the empty line after them.
pub record BeginsWithHead (bytes head rest : List ℕ) : Type 0 where
  pub before : List (List ℕ)
  pub first : List ℕ
  pub lines : List (List ℕ)
  pub last : List ℕ
  pub empty : All IsEmpty before
  pub full : All IsFull (first ∷ lines)
  pub ends : IsEmpty last
  pub head_is : head ≡ flat_map ended (before ++ (first ∷ lines) ++ last ∷ [])
  pub short : length head ≤ HEAD_LIMIT
  pub bytes_are : bytes ≡ head ++ rest

-- no head ends in these bytes
abbrev pub HasNoHead : List ℕ → Type 0
HasNoHead bytes = (head rest : List ℕ) → BeginsWithHead bytes head rest → ⊥

-- the head is so many bytes long, and so many lines are between its first line that isn't empty and the empty one
pub record HeadEndsAt (bytes : List ℕ) (end lines : ℕ) : Type 0 where
  pub begins : BeginsWithHead bytes (take end bytes) (drop end bytes)
  pub count : length begins.lines ≡ lines
  pub within : end ≤ length bytes

-- no head ends in the bytes, whatever follows them
pub record NeverHasHead (bytes : List ℕ) : Type 0 where
  pub long : HEAD_LIMIT ≤ length bytes
  pub never : (more : List ℕ) → HasNoHead (bytes ++ more)

-- a head may still end after the bytes
pub record HasNoHeadYet (bytes : List ℕ) : Type 0 where
  pub short : length bytes < HEAD_LIMIT
  pub none : HasNoHead bytes

-- what a call answers: where the head ends and how many lines it has, that none ever does, or none yet
abbrev pub FindsHead : List ℕ → HeadEnd → Type 0
FindsHead bytes (HeadEnd.At end lines) = HeadEndsAt bytes end lines
FindsHead bytes HeadEnd.TooLong = NeverHasHead bytes
FindsHead bytes HeadEnd.Open = HasNoHeadYet bytes
