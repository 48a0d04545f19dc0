use Rattle.std.proofs.Common.{List, [], ◌∷◌, ◌++◌}
use Rattle.rtb_response.specs.declared.bid.Bid.{Bid}
use Rattle.script_lines.specs.Making.{seated}
use Rattle.script_lines.proofs.Taking.{placed_more, text_more}
use Rattle.script_lines.proofs.Turned.{one_taken}
use Rattle.script_lines.proofs.bids.put_kept.Goals as goal

pub bids-preserved : goal.bids-preserved
bids-preserved c =
    let before = c.bids.invariant in
    let taken : List Bid = before.0 in (
      taken ++ c.in-Some.bid ∷ [],
      one_taken taken c.bids.left.items c.pop.new.self.items c.args.bids.items c.in-Some.bid c.in-Some.ensures.items before.1,
      placed_more c.args.first c.bids.place taken c.in-Some.bid before.2,
      λ bidder s same. text_more (seated bidder c.args.bidid.now s) taken c.in-Some.bid c.args.first c.bids.place _ _ _ _ (before.3 bidder s same) (c.in_ok-push.ensures {u = tt}).items before.2 (c.in_ok-kept_texts.ensures bidder s same),
    )
