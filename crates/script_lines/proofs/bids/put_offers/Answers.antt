use Rattle.script_lines.specs.Making.{seated}
use Rattle.script_lines.proofs.Taking.{fits_more, offers_more}
use Rattle.script_lines.proofs.bids.put_offers.Goals as goal

pub loop-bid-preserved : goal.loop-bid-preserved
loop-bid-preserved c =
    let before = c.loop-bid.invariant in
    let f = seated c.args.bidder c.args.bidid.now c.args.seat.now in
    record {
      offers = offers_more c.args.sale.request.now c.args.sale.roster.now.campaigns f c.as_slice-bid-items.result.now c.loop-bid.bid-index c.bid-item.result _ _ _ _ _ c.loop-bid-test.true c.bid-item.is before.offers (c.in_ok-push.ensures {u = tt}).items c.offer_of.ensures.value;
      fit = fits_more c.args.sale.request.now c.args.sale.roster.now.campaigns f c.as_slice-bid-items.result.now c.loop-bid.bid-index c.bid-item.result _ c.loop-bid-test.true c.bid-item.is before.fit c.offer_of.ensures.fits;
    }
