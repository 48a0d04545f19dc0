use Rattle.std.proofs.Common.{◌+◌, List, length, ap}
use Rattle.rtb_response.specs.declared.sold.Sold.{Sold}
use Rattle.exchange_messages.proofs.Sold.{sold_if}
use Rattle.exchange_messages.proofs.sales.add_if_sold.Goals as goal

pub returns-in_ok-push-clause-added : goal.returns-in_ok-push-clause-added
returns-in_ok-push-clause-added c done h =
    sold_if c.args.roster.now.campaigns c.args.ask.now c.args.imp done c.args.place c.args.offer.now _ _ _ _ c.if-offer-eq-AWARDED.true c.if-offer-imp.true
    (ap (λ (xs : List Sold). c.args.ask.now.first + length xs) c.as_slice.ensures.value) (c.in_ok-push.ensures {u = tt}).items c.in_ok-sold_of.ensures h
