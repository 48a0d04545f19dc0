-- The awards for the impression among the front of the bids were added.
use Rattle.std.proofs.Common.{◌≡◌, ℕ, ◌+◌, ◌++◌, List, filter, length, take}
use Rattle.std.specs.List.{enumerate_from}
use Rattle.adx_units.specs.declared.offer.Offer.{Offer as Bid}
use Rattle.exchange_messages.specs.Sales.{is_award_for}
use Rattle.exchange_messages.specs.Selling.{AreSold}
use Rattle.exchange_messages.proofs.sales.add_sold.Given as goal

abbrev pub invariant-loop-place : goal.invariant-loop-place
invariant-loop-place l = record {
  counted : length l.sold.items ≡ length l.initial.sold.items + length (filter (is_award_for l.imp) (enumerate_from 0 (take l.place l.ask.offers)));
  added : (done : List (ℕ × Bid)) → AreSold l.roster.campaigns l.ask done l.initial.sold.items
      → AreSold l.roster.campaigns l.ask (done ++ filter (is_award_for l.imp) (enumerate_from 0 (take l.place l.ask.offers))) l.sold.items;
}
