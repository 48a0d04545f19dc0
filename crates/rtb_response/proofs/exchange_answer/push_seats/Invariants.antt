use Rattle.std.proofs.Common.{◌≡◌, ◌++◌, drop, map, string_bytes}
use Rattle.adx_json.specs.Tree.{items_of}
use Rattle.adx_json.specs.Spelling.{items_spelling}
use Rattle.rtb_response.specs.Notices.{url_of}
use Rattle.rtb_response.specs.ExchangeAnswer.{seat_tree}
use Rattle.rtb_response.specs.Parts.{left_items}
use Rattle.rtb_response.proofs.exchange_answer.push_seats.Given as goal

-- what was put and what is left make up the whole
abbrev pub invariant-loop-award : goal.invariant-loop-award
invariant-loop-award l =
    let f = seat_tree (url_of l.to.base.now l.to.auction.now) in
    string_bytes l.out ++ left_items l.first (items_of (map f (drop l.award-index l.sold))) ≡ string_bytes l.initial.out ++ items_spelling (items_of (map f l.sold))
