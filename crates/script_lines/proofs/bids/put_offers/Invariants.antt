use Rattle.std.proofs.Common.{◌≡◌, ◌++◌, map, take}
use Rattle.std.specs.List.{All}
use Rattle.script_lines.specs.Making.{seated, offer_of}
use Rattle.script_lines.specs.Parts.{FitsDay}
use Rattle.script_lines.proofs.bids.put_offers.Given as goal

-- the offers of the seat's first bids stand there
abbrev pub invariant-loop-bid : goal.invariant-loop-bid
invariant-loop-bid l =
    record {
      offers : l.offers.items ≡ l.initial.offers.items ++ map (offer_of l.sale.request.now l.sale.roster.now.campaigns) (map (seated l.bidder l.bidid l.seat) (take l.bid-index l.bid-items));
      fit : All (FitsDay l.sale.request.now l.sale.roster.now.campaigns) (map (seated l.bidder l.bidid l.seat) (take l.bid-index l.bid-items));
    }
