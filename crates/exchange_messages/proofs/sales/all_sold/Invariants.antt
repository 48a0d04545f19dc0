-- The awards for the first impressions were added.
use Rattle.std.proofs.Common.{◌≡◌, filter, length}
use Rattle.std.specs.List.{enumerate_from, flat_map, range_with_len}
use Rattle.exchange_messages.specs.Sales.{is_award_for}
use Rattle.exchange_messages.specs.Selling.{AreSold}
use Rattle.exchange_messages.proofs.sales.all_sold.Given as goal

abbrev pub invariant-loop-imp : goal.invariant-loop-imp
invariant-loop-imp l = record {
  counted : length l.sold.items ≡ length (flat_map (λ imp. filter (is_award_for imp) (enumerate_from 0 l.ask.offers)) (range_with_len 0 l.imp));
  added : AreSold l.roster.campaigns l.ask (flat_map (λ imp. filter (is_award_for imp) (enumerate_from 0 l.ask.offers)) (range_with_len 0 l.imp)) l.sold.items;
}
