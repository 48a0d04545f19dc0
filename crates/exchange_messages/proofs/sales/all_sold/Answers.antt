-- One more impression.
use Rattle.std.proofs.Common.{◌<◌, ℕ, filter, length, sym, subst, arith}
use Rattle.std.specs.List.{enumerate_from, flat_map, range_with_len}
use Rattle.exchange_messages.specs.Sales.{is_award_for}
use Rattle.exchange_messages.specs.Selling.{AreSold}
use Rattle.exchange_messages.proofs.Sold.{all_room, range_counted}
use Rattle.answer_lines.proofs.Joined.{over_more}
use Rattle.exchange_messages.proofs.sales.all_sold.Goals as goal

pub add_sold-requires-clause-few : goal.add_sold-requires-clause-few
add_sold-requires-clause-few c =
    let low : c.loop-imp.imp < length c.args.ask.now.imps = omega arith in
    all_room c.args.ask.now c.loop-imp.imp _ _ low c.loop-imp.invariant.counted c.requires.told.numbers

pub loop-imp-preserved : goal.loop-imp-preserved
loop-imp-preserved c =
    let a = c.args.ask.now in
    let imp = c.loop-imp.imp in
    let added = c.in_ok-add_sold.ensures {u = tt} in
    record {
      counted = range_counted (λ (n : ℕ). filter (is_award_for n) (enumerate_from 0 a.offers)) imp _ _ c.loop-imp.invariant.counted added.counted;
      added =
          subst (λ bids. AreSold c.args.roster.now.campaigns a bids c.add_sold.new.sold.items) (sym (over_more (λ (n : ℕ). filter (is_award_for n) (enumerate_from 0 a.offers)) imp))
          (added.added (flat_map (λ (n : ℕ). filter (is_award_for n) (enumerate_from 0 a.offers)) (range_with_len 0 imp)) c.loop-imp.invariant.added);
    }
