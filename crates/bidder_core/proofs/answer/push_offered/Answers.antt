use Rattle.std.proofs.Common.{◌++◌, take, sym, ap, ◌∙◌}
use Rattle.adx_json.specs.View.{trees_of}
use Rattle.bidder_core.specs.declared.answer.TheConstants.{MOST_BIDS}
use Rattle.bidder_core.proofs.Offers.{at_floor, below_floor, none_added}
use Rattle.bidder_core.proofs.answer.push_offered.Goals as goal

pub returns-then-price-imp : goal.returns-then-price-imp
returns-then-price-imp c =
    let old = c.args.bids.now.items in
    none_added MOST_BIDS old c.requires.few
    ∙ ap (λ ts. take MOST_BIDS (trees_of old ++ ts)) (sym (below_floor c.args.line.now c.args.imp_place c.args.imp.now c.args.price_place c.args.price.now c.if-price-imp.true))

pub returns : goal.returns
returns c =
    let old = c.args.bids.now.items in
    c.in_ok-push_bid.ensures
    ∙ ap (λ ts. take MOST_BIDS (trees_of old ++ ts)) (sym (at_floor c.args.line.now c.args.imp_place c.args.imp.now c.args.price_place c.args.price.now c.if-price-imp.false))
