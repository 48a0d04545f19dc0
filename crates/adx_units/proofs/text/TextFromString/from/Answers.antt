use Rattle.std.specs.String.{string_bytes}
use Rattle.std.proofs.lemmas.Str.{is_utf8-from_IsUtf8, IsUtf8-string_bytes}
use Rattle.adx_units.proofs.text.TextFromString.from.Goals as goal

pub invariant_of-result : goal.invariant_of-result
invariant_of-result c = is_utf8-from_IsUtf8 (string_bytes c.args.inner) (IsUtf8-string_bytes c.args.inner)
