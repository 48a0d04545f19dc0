-- Four pieces, two of which are spelled texts.
use Rattle.std.proofs.Common.{string_bytes}
use Rattle.std.specs.Prelude.{codes}
use Rattle.adx_units.specs.JsonTexts.{text_spelling}
use Rattle.bidder_http.proofs.Lines.{four}
use Rattle.command_reconcile.proofs.row.push_head.Goals as goal

pub returns : goal.returns
returns c =
    four (string_bytes c.args.out.now) (codes "{\"auction\":") (text_spelling c.args.auction.now) (codes ",\"bid\":") (text_spelling c.args.bid.now)
    (string_bytes c.push_str.new.self) (string_bytes c.push_text.new.out) (string_bytes c.push_str-2.new.self) (string_bytes c.push_text-2.new.out)
    c.in_ok-push_str.ensures.bytes c.in_ok-push_text.ensures c.in_ok-push_str-2.ensures.bytes c.in_ok-push_text-2.ensures
