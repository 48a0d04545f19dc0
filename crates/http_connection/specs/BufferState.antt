-- What a buffer represents, and what it takes of a source. This project's own.
use Rattle.std.specs.Prelude.{◌≡◌, ℕ, List, [], ◌++◌, Option, Some, None, ⊤}
use Rattle.adx_io.specs.Streams.{Tape, WhereTold}

-- what was read of the message in progress, the bytes that aren't judged, and for how many bytes there is room
pub record BufferState : Type 0 where
  pub kept : List ℕ
  pub pending : List ℕ
  pub room : ℕ

-- this piece went from the bytes left to those taken
pub record Passes (piece : List ℕ) (old new : Tape) : Type 0 where
  pub taken : new.taken ≡ old.taken ++ piece
  pub left : old.left ≡ piece ++ new.left

-- a piece of the source, which may be empty, came after the pending bytes
pub record Takes (before now : BufferState) (old new : Option Tape) : Type 0 where
  pub piece : List ℕ
  pub pending : now.pending ≡ before.pending ++ piece
  pub kept : now.kept ≡ before.kept
  pub room : now.room ≡ before.room
  pub told : WhereTold old new (Passes piece)

-- the source, where it reports its bytes, has none left
abbrev pub IsAtEnd : Option Tape → Type 0
IsAtEnd None = ⊤
IsAtEnd (Some t) = t.left ≡ []
