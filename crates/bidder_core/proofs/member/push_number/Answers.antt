use Rattle.std.proofs.Common.{rules, arith, ◌∙◌, sym, subst}
use Rattle.std.specs.Str.{IsAscii}
use Rattle.std.proofs.lemmas.Str.{IsUtf8-from_ascii}
use Rattle.notice_macros.proofs.PriceTexts.{price_ascii}
use Rattle.bidder_core.proofs.member.push_number.Goals as goal

pub unwrap-requires : goal.unwrap-requires
unwrap-requires c =
    let ascii : IsAscii c.as_bytes.result.now = subst IsAscii (sym (c.as_bytes.ensures.value ∙ c.write_price.ensures.text)) (price_ascii c.args.price.0 (omega arith)) in
    search (rules, IsUtf8-from_ascii, ascii)
