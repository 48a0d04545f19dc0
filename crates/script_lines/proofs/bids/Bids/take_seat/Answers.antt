use Rattle.std.proofs.Common.{List, ◌++◌, length, map, refl, ap, ◌∙◌}
use Rattle.std.specs.List.{enumerate_from}
use Rattle.rtb_response.specs.declared.bid.Bid.{Bid}
use Rattle.script_lines.specs.Making.{bids_of_seat, kept_of, seated}
use Rattle.script_lines.proofs.Taking.{seat_more}
use Rattle.script_lines.proofs.bids.Bids.take_seat.Goals as goal

pub returns-clause-taken : goal.returns-clause-taken
returns-clause-taken c bids h =
    let offered = c.in_ok-put_offers.ensures {u = tt} in
    let texts = c.in_ok-put_kept.ensures {u = tt} c.args.bidder c.args.seat refl in
    let f = seated c.args.bidder c.args.bidid.now c.args.seat in
    seat_more c.args.sale.request.now c.args.sale.roster.now.campaigns bids (bids_of_seat c.args.bidder c.args.bidid.now c.args.seat) c.args.self.now.offers.items _ c.args.self.now.kept.items _ (length c.as_slice-first.result.now)
    offered.offers offered.fit (ap length c.as_slice-first.ensures.value)
    (texts ∙ ap (λ (l : List Bid). c.args.self.now.kept.items ++ map kept_of (enumerate_from (length c.as_slice-first.result.now) (map f l))) c.into_vec-bids.ensures) h
