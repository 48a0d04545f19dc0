-- The place and the kind of a fault in bytes that are no JSON text (RFC 8259), by the grammar alone.
use Rattle.std.specs.Prelude.{◌≡◌, ◌≢◌, ◌≤◌, ◌<◌, ◌⊎◌, ℕ, ◌+◌, List, [], ◌∷◌, ◌++◌, length, take, slice_index, ◌==◌, if◌then◌else◌, IsUtf8}
use Rattle.adx_json.specs.Tree.{Tree}
use Rattle.adx_json.specs.Grammar.{IsJsonTo, IsJson}
use Rattle.adx_json.specs.declared.fault.JsonFault.{JsonFault}
use Rattle.adx_json.specs.declared.fault.JsonFault.TheVariants.{Syntax, Utf8, Depth, OutOfMemory}

-- some JSON text that is nested at most so deep begins with the bytes
abbrev pub BeginsText : ℕ → List ℕ → Type 0
BeginsText limit bytes = (more : List ℕ) × (tree : Tree) × IsJsonTo limit (bytes ++ more) tree

-- the bytes are no text, and the first `at` of them are the longest prefix that some text begins with
pub record IsFaultPlace (bytes : List ℕ) (at : ℕ) : Type 0 where
  pub none : (tree : Tree) → ¬ (IsJson bytes tree)
  pub within : at ≤ length bytes
  pub begins : BeginsText 64 (take at bytes)
  pub longest : at < length bytes → ¬ (BeginsText 64 (take (at + 1) bytes))

-- the byte there is a bracket or a brace that begins level 65: texts of 65 levels go on so
pub record BeginsLevel65 (bytes : List ℕ) (at : ℕ) : Type 0 where
  pub within : at < length bytes
  pub opens : (slice_index bytes at ≡ 91) ⊎ (slice_index bytes at ≡ 123)
  pub deeper : BeginsText 65 (take (at + 1) bytes)

-- where a byte is: outside strings, inside one, or there directly after a backslash (section 7)
pub data Place : Type 0 where
  outside inside behind_backslash : Place

-- where the next byte is, after the byte `b` was read at a place: a quotation mark begins or ends a string, and the byte
-- after a backslash never ends one
abbrev pub next_place : Place → ℕ → Place
next_place outside b = if b == 34 then inside else outside
next_place inside b = if b == 34 then outside else (if b == 92 then behind_backslash else inside)
next_place behind_backslash b = inside

-- the place after some bytes
abbrev pub place_behind : Place → List ℕ → Place
place_behind place [] = place
place_behind place (b ∷ bytes) = place_behind (next_place place b) bytes

-- the byte there is within a string and isn't ASCII
pub record IsWideInString (bytes : List ℕ) (at : ℕ) : Type 0 where
  pub within : at < length bytes
  pub inside : place_behind outside (take at bytes) ≢ outside
  pub wide : 128 ≤ slice_index bytes at

-- the place is within a string at a byte that isn't ASCII, or the prefix ends within a character's bytes
abbrev pub BreaksUtf8 : List ℕ → ℕ → Type 0
BreaksUtf8 bytes at = IsWideInString bytes at ⊎ ¬ (IsUtf8 (take at bytes))

-- what a fault says of the bytes
abbrev pub IsFault : List ℕ → JsonFault → Type 0
IsFault bytes (Syntax at) = IsFaultPlace bytes at × ¬ (BeginsLevel65 bytes at) × ¬ (BreaksUtf8 bytes at)
IsFault bytes (Utf8 at) = IsFaultPlace bytes at × BreaksUtf8 bytes at
IsFault bytes (Depth at) = IsFaultPlace bytes at × BeginsLevel65 bytes at
IsFault bytes OutOfMemory = Unit {0}
