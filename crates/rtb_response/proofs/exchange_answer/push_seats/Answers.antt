use Rattle.std.proofs.Common.{◌∙◌, string_bytes}
use Rattle.rtb_response.specs.Notices.{url_of}
use Rattle.rtb_response.specs.ExchangeAnswer.{seat_tree}
use Rattle.rtb_response.proofs.Seats.{item_put}
use Rattle.rtb_response.proofs.exchange_answer.push_seats.Goals as goal

pub loop-award-preserved : goal.loop-award-preserved
loop-award-preserved c =
    item_put (seat_tree (url_of c.args.to.now.base.now c.args.to.now.auction.now)) c.loop-award.first c.args.sold.now c.loop-award.award-index c.award-item.result
    (string_bytes c.loop-award.out) (string_bytes c.push_comma.new.out) (string_bytes c.push_seat.new.out) c.loop-award-test.true c.award-item.is c.in_ok-push_comma.ensures c.in_ok-push_seat.ensures
    ∙ c.loop-award.invariant
