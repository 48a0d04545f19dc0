use Rattle.std.proofs.Common.{◌≤◌, ◌++◌, length, take, ap, ◌∙◌, arith}
use Rattle.std.specs.List.{enumerate_from, flat_map}
use Rattle.adx_json.specs.View.{trees_of}
use Rattle.bidder_core.specs.Answers.{offered}
use Rattle.bidder_core.specs.declared.answer.TheConstants.{MOST_BIDS}
use Rattle.bidder_core.proofs.Capped.{all_items, next_item}
use Rattle.bidder_core.proofs.Offers.{count_is, few_after}
use Rattle.bidder_core.proofs.answer.push_bids.Goals as goal

pub loop-place-preserved : goal.loop-place-preserved
loop-place-preserved c =
    let f = offered c.args.line.now c.args.imp_place c.args.imp.now in
    let x = c.index-prices-place.result in
    let before = trees_of c.loop-place.bids.items in
    record {
      few = few_after MOST_BIDS c.push_offered.new.bids.items (before ++ f (c.loop-place.place, x)) c.in_ok-push_offered.ensures;
      bids = next_item f MOST_BIDS c.as_slice-prices.result.now c.loop-place.place x before (trees_of c.push_offered.new.bids.items) _ c.loop-place-test.true c.index-prices-place.is c.in_ok-push_offered.ensures c.loop-place.invariant.bids;
    }

pub returns : goal.returns
returns c =
    let f = offered c.args.line.now c.args.imp_place c.args.imp.now in
    let end : length c.as_slice-prices.result.now ≤ c.loop-place.place = omega arith in
    let few : length (trees_of c.loop-place.bids.items) ≤ MOST_BIDS = omega (arith, count_is MOST_BIDS c.loop-place.bids.items, c.loop-place.invariant.few) in
    all_items f MOST_BIDS c.as_slice-prices.result.now c.loop-place.place (trees_of c.loop-place.bids.items) _ end few c.loop-place.invariant.bids
    ∙ ap (λ ps. take MOST_BIDS (trees_of c.args.bids.now.items ++ flat_map f (enumerate_from 0 ps))) c.as_slice-prices.ensures
