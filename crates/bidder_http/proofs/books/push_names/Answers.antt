-- Four pieces, two of which are spelled texts.
use Rattle.std.proofs.Common.{◌++◌, ap, ◌∙◌, string_bytes}
use Rattle.std.specs.Prelude.{codes}
use Rattle.adx_units.specs.JsonTexts.{text_spelling}
use Rattle.bidder_http.proofs.Lines.{four}
use Rattle.bidder_http.proofs.books.push_names.Goals as goal

pub returns : goal.returns
returns c =
    four (string_bytes c.args.out.now) (codes "{\"auction\":") (text_spelling c.args.row.now.auction) (codes ",\"bid\":") (text_spelling c.args.row.now.bid)
    (string_bytes c.push_body.new.body) (string_bytes c.push_text.new.out) (string_bytes c.push_body-2.new.body) (string_bytes c.push_text-2.new.out)
    c.in_ok-push_body.ensures
    (c.in_ok-push_text.ensures ∙ ap (λ t. string_bytes c.push_body.new.body ++ text_spelling t) c.as_str.ensures.value)
    c.in_ok-push_body-2.ensures
    (c.in_ok-push_text-2.ensures ∙ ap (λ t. string_bytes c.push_body-2.new.body ++ text_spelling t) c.as_str-2.ensures.value)
