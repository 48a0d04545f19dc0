use Rattle.std.proofs.Common.{◌<◌, ◌≡◌, length, [], ◌∷◌, arith, rules}
use Rattle.bidder_core.specs.Answers.{bid_tree}
use Rattle.bidder_core.specs.declared.answer.TheConstants.{MOST_BIDS}
use Rattle.bidder_core.proofs.Offers.{no_room, one_added}
use Rattle.bidder_core.proofs.answer.push_bid.Goals as goal

pub returns-then-len-eq-MOST_BIDS : goal.returns-then-len-eq-MOST_BIDS
returns-then-len-eq-MOST_BIDS c =
    let all : length c.args.bids.now.items ≡ MOST_BIDS = search rules in
    no_room MOST_BIDS c.args.bids.now.items (bid_tree c.args.line.now c.args.imp_place c.args.imp.now c.args.price_place c.args.price.now ∷ []) all

pub returns : goal.returns
returns c =
    let few : length c.args.bids.now.items < MOST_BIDS = omega arith in
    one_added MOST_BIDS c.args.bids.now.items c.push.new.self.items c.in_ok-bid.bid (bid_tree c.args.line.now c.args.imp_place c.args.imp.now c.args.price_place c.args.price.now) few c.in_ok-push.ensures.items c.in_ok-bid.ensures
