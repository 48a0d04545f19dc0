use Rattle.std.proofs.Common.{subst, sym, IsUtf8}
use Rattle.std.specs.String.{string_bytes}
use Rattle.std.proofs.lemmas.Str.{is_utf8-from_IsUtf8, IsUtf8-string_bytes}
use Rattle.adx_units.proofs.text.Text.of.Goals as goal

pub invariant_of-result : goal.invariant_of-result
invariant_of-result c =
    is_utf8-from_IsUtf8 c.in-Ok.short.bytes (subst IsUtf8 (sym c.in-Ok.ensures.ok) (subst IsUtf8 c.as_bytes-bytes.ensures.value c.as_bytes-bytes.ensures.utf8))

pub invariant_of-result-2 : goal.invariant_of-result-2
invariant_of-result-2 c =
    is_utf8-from_IsUtf8 (string_bytes c.in_ok-from_str.field-0) (IsUtf8-string_bytes c.in_ok-from_str.field-0)
