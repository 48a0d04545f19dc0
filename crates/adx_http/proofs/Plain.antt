-- What represents itself in a form.
use Rattle.std.proofs.Common.{◌≡◌, ℕ, List, ap, ◌∙◌}
use Rattle.std.specs.Prelude.{All, IsUtf8}
use Rattle.std.specs.Str.Lossy.{utf8_lossy}
use Rattle.std.proofs.lemmas.Str.{utf8_lossy-IsUtf8}
use Rattle.form_urlencoded.specs.Form.{IsPlain}
use Rattle.form_urlencoded.proofs.FormLemmas.{decode_plain}
use Rattle.adx_http.specs.Targets.{decoded}

pub decoded_plain : (bytes : List ℕ) → All IsPlain bytes → IsUtf8 bytes → decoded bytes ≡ bytes
decoded_plain bytes plain utf8 = ap utf8_lossy (decode_plain bytes plain) ∙ utf8_lossy-IsUtf8 bytes utf8
