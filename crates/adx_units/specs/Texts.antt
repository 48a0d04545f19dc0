-- The bytes of a text as it is kept. Only the type's own model cites this file.
use Rattle.std.specs.Prelude.{ℕ, List}
use Rattle.std.specs.String.{string_bytes}
use Rattle.adx_units.specs.declared.text.Kept.{Kept}
use Rattle.adx_units.specs.declared.text.Kept.TheVariants.{Short, Long}

-- a short text's bytes are in the value itself, a longer one's in a string
abbrev pub kept_bytes : Kept → List ℕ
kept_bytes (Short text) = text.bytes
kept_bytes (Long text) = string_bytes text
