use Rattle.std.proofs.Common.{◌≡◌, ◌++◌, map, codes, ap, sym, ◌∙◌, string_bytes}
use Rattle.std.specs.List.{flat_map}
use Rattle.adx_json.specs.Tree.{items_of}
use Rattle.adx_units.specs.JsonTexts.{text_spelling}
use Rattle.adx_json.specs.Spelling.{items_spelling}
use Rattle.notice_macros.specs.Escaped.{url_byte}
use Rattle.rtb_response.specs.Notices.{url_of}
use Rattle.rtb_response.specs.ExchangeAnswer.{seat_tree}
use Rattle.rtb_response.proofs.Chains.{five, whole_answer}
use Rattle.rtb_response.proofs.exchange_answer.write_answer.Goals as goal

pub returns : goal.returns
returns c =
    let escaped : c.as_str.result.now ≡ flat_map url_byte c.args.id.now = c.as_str.ensures.value ∙ c.in_ok-auction.ensures in
    let seats = λ (q : _). items_spelling (items_of (map (seat_tree (url_of c.args.base.now q)) c.args.sold.now)) in
    let id = text_spelling c.args.id.now in
    let all = seats (flat_map url_byte c.args.id.now) in
    let put = five (string_bytes c.new-out.result) (codes "{\"id\":") id (codes ",\"seatbid\":[") all (codes "],\"cur\":\"USD\"}") _ _ _ _ _
    c.in_ok-push_str.ensures.bytes
    (c.in_ok-push_text.ensures ∙ ap (λ t. string_bytes c.push_str.new.self ++ text_spelling t) c.as_str-2.ensures.value)
    c.in_ok-push_str-2.ensures.bytes
    (c.in_ok-push_seats.ensures ∙ ap (λ q. string_bytes c.push_str-2.new.self ++ seats q) escaped)
    c.in_ok-push_str-3.ensures.bytes in
    c.from.ensures ∙ put ∙ ap (λ l. l ++ (codes "{\"id\":" ++ (id ++ (codes ",\"seatbid\":[" ++ (all ++ codes "],\"cur\":\"USD\"}"))))) c.new-out.ensures.bytes ∙ sym (whole_answer id all)
