use Rattle.std.proofs.Common.{◌≡◌, true, subst, sym, ◌∙◌}
use Rattle.bidder_core.specs.BidIds.{is_made}
use Rattle.bidder_core.specs.LedgerState.{noticed_in}
use Rattle.bidder_core.proofs.Kept.{award_found}
use Rattle.bidder_core.proofs.ledger.Ledger.award_of.Goals as goal

pub returns-clause-award : goal.returns-clause-award
returns-clause-award c =
    let made = subst (λ s. is_made s.prices c.args.bid.now ≡ true) (sym c.self.view_is) c.requires.made in
    subst (λ s. c.noticed_at-award.result ≡ noticed_in c.args.auction.now c.args.bid.now s.rows) c.self.view_is
    (award_found c.self.inside.rows.items c.self.inside.known c.self.inside.sums.items c.args.auction.now c.args.bid.now c.as_str.result.now c.noticed_at-award.result c.self.invariant made c.noticed_at-award.ensures (c.as_str.ensures.value ∙ c.in_ok-key.ensures))
