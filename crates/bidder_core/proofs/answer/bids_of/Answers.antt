use Rattle.std.proofs.Common.{◌≤◌, ◌++◌, length, arith}
use Rattle.adx_json.specs.View.{trees_of}
use Rattle.bidder_core.specs.Answers.{imp_bids}
use Rattle.bidder_core.specs.declared.answer.TheConstants.{MOST_BIDS}
use Rattle.bidder_core.proofs.Capped.{all_items, next_item}
use Rattle.bidder_core.proofs.Offers.{count_is, few_after}
use Rattle.bidder_core.proofs.answer.bids_of.Goals as goal

pub loop-place-preserved : goal.loop-place-preserved
loop-place-preserved c =
    let f = imp_bids c.args.line.now in
    let x = c.index-imps-place.result in
    let before = trees_of c.loop-place.bids.items in
    record {
      few = few_after MOST_BIDS c.push_bids.new.bids.items (before ++ f (c.loop-place.place, x)) c.in_ok-push_bids.ensures;
      bids = next_item f MOST_BIDS c.args.imps.now c.loop-place.place x before (trees_of c.push_bids.new.bids.items) _ c.loop-place-test.true c.index-imps-place.is c.in_ok-push_bids.ensures c.loop-place.invariant.bids;
    }

pub returns : goal.returns
returns c =
    let f = imp_bids c.args.line.now in
    let end : length c.args.imps.now ≤ c.loop-place.place = omega arith in
    let few : length (trees_of c.loop-place.bids.items) ≤ MOST_BIDS = omega (arith, count_is MOST_BIDS c.loop-place.bids.items, c.loop-place.invariant.few) in
    all_items f MOST_BIDS c.args.imps.now c.loop-place.place (trees_of c.loop-place.bids.items) _ end few c.loop-place.invariant.bids
