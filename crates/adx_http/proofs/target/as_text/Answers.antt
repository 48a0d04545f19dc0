-- ASCII that is plain is what it represents.
use Rattle.std.proofs.Common.{sym, ◌∙◌}
use Rattle.std.proofs.lemmas.Str.{IsUtf8-from_ascii}
use Rattle.std.proofs.lemmas.Str.Ascii.{IsAscii-from_all}
use Rattle.adx_http.proofs.Plain.{decoded_plain}
use Rattle.adx_http.proofs.target.as_text.Goals as goal

pub from_utf8_unchecked-requires : goal.from_utf8_unchecked-requires
from_utf8_unchecked-requires c = IsUtf8-from_ascii _ (IsAscii-from_all c.args.bytes.now (c.are_plain.ensures.ascii c.if-are_plain.true))

pub returns-then-are_plain : goal.returns-then-are_plain
returns-then-are_plain c =
    let utf8 = IsUtf8-from_ascii _ (IsAscii-from_all c.args.bytes.now (c.are_plain.ensures.ascii c.if-are_plain.true)) in
    c.from_utf8_unchecked.ensures ∙ sym (decoded_plain c.args.bytes.now (c.are_plain.ensures.plain c.if-are_plain.true) utf8)
