-- One more bid.
use Rattle.std.proofs.Common.{◌++◌, filter, take}
use Rattle.std.specs.List.{enumerate_from}
use Rattle.exchange_messages.specs.Sales.{is_award_for}
use Rattle.exchange_messages.proofs.Sold.{front_counted, front_room, front_sold}
use Rattle.exchange_messages.proofs.sales.add_sold.Goals as goal

pub add_if_sold-requires-clause-few : goal.add_if_sold-requires-clause-few
add_if_sold-requires-clause-few c =
    front_room c.args.imp c.args.ask.now.offers c.as_slice-offer-items.result.now c.loop-place.place _ _ _ _ c.as_slice-offer-items.ensures c.loop-place-test.true c.loop-place.invariant.counted c.requires.few

pub loop-place-preserved : goal.loop-place-preserved
loop-place-preserved c =
    let a = c.args.ask.now in
    let items = c.as_slice-offer-items.result.now in
    let i = c.loop-place.place in
    let added = c.in_ok-add_if_sold.ensures {u = tt} in
    record {
      counted = front_counted c.args.imp a.offers items i _ _ _ c.as_slice-offer-items.ensures c.loop-place-test.true c.loop-place.invariant.counted added.counted;
      added = λ done h.
          front_sold c.args.roster.now.campaigns a c.args.imp items i done _ c.as_slice-offer-items.ensures c.loop-place-test.true
          (added.added (done ++ filter (is_award_for c.args.imp) (enumerate_from 0 (take i a.offers))) (c.loop-place.invariant.added done h));
    }
