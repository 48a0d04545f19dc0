-- Four pieces, one of them a spelled text.
use Rattle.std.proofs.Common.{◌∙◌, ◌++◌, ap, string_bytes}
use Rattle.std.specs.Prelude.{codes, decimal}
use Rattle.adx_units.specs.JsonTexts.{text_spelling}
use Rattle.command_reconcile.proofs.Written.{four}
use Rattle.command_reconcile.proofs.lines.push_bill.Goals as goal

pub returns : goal.returns
returns c =
    four (string_bytes c.args.out.now) (codes "{\"auction\":") (text_spelling c.args.bill.now.auction) (codes ",\"price\":") (decimal c.args.bill.now.price.0)
    (string_bytes c.push_str.new.self) (string_bytes c.push_text.new.out) (string_bytes c.push_str-2.new.self) (string_bytes c.push_number.new.out)
    c.in_ok-push_str.ensures.bytes
    (c.in_ok-push_text.ensures ∙ ap (λ t. string_bytes c.push_str.new.self ++ text_spelling t) c.as_str.ensures.value)
    c.in_ok-push_str-2.ensures.bytes
    c.in_ok-push_number.ensures
