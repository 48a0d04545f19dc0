-- Lines that end at their line feed (RFC 9112, section 2.2), looked for after a place of a buffer.
-- Example: of `ab`, a line feed and `c` the first line is `ab`, and ends after three bytes; of `abc` none ends:
-- within a bound of three that is too long, and within one of ten it is open.
use Rattle.std.specs.Prelude.{◌≡◌, ◌≢◌, ℕ, ◌+◌, ◌<◌, ◌≤◌, List, [], ◌∷◌, ◌++◌, length, drop, All}
use Rattle.http_connection.specs.declared.line.Line.{Line}

-- no byte is a line feed
abbrev pub IsLine : List ℕ → Type 0
IsLine line = All (λ b. b ≢ 10) line

-- a line with its line feed
abbrev pub ended : List ℕ → List ℕ
ended line = line ++ 10 ∷ []

-- the first line feed after the place is here
pub record IsFeed (from : ℕ) (bytes : List ℕ) (place : ℕ) : Type 0 where
  pub line : List ℕ
  pub rest : List ℕ
  pub is_line : IsLine line
  pub behind : drop from bytes ≡ line ++ 10 ∷ rest
  pub place_is : place ≡ from + length line
  pub within : place < length bytes

-- a line is whole after the place and ends within the bound
pub record EndsAt (from bound : ℕ) (pending : List ℕ) (end : ℕ) : Type 0 where
  pub line : List ℕ
  pub rest : List ℕ
  pub is_line : IsLine line
  pub behind : drop from pending ≡ line ++ 10 ∷ rest
  pub end_is : end ≡ from + length line + 1
  pub within : end ≤ bound

-- no line ends after the place within the bound, and as many bytes are there
pub record IsTooLong (from bound : ℕ) (pending : List ℕ) : Type 0 where
  pub line : List ℕ
  pub rest : List ℕ
  pub is_line : IsLine line
  pub behind : drop from pending ≡ line ++ rest
  pub long : bound ≤ from + length line

-- no line ends after the place, and the bytes end before the bound
pub record IsOpen (from bound : ℕ) (pending : List ℕ) : Type 0 where
  pub is_line : IsLine (drop from pending)
  pub short : length pending < bound

-- which of the three a call answers
abbrev pub FindsLine : ℕ → ℕ → List ℕ → Line → Type 0
FindsLine from bound pending (Line.At end) = EndsAt from bound pending end
FindsLine from bound pending Line.TooLong = IsTooLong from bound pending
FindsLine from bound pending Line.Open = IsOpen from bound pending
