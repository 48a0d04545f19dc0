-- The books of a world agree.
use Rattle.std.proofs.Common.{subst}
use Rattle.two_books.specs.TwoBooks.{BillsAgree}
use Rattle.two_books.specs.Worlds.{WorldState}
use Rattle.two_books.proofs.Agreeing.{bills_agree}
use Rattle.two_books.proofs.world.World.bidder.Goals as goal

pub returns-clause-agree : goal.returns-clause-agree
returns-clause-agree c =
    subst (λ (w : WorldState). BillsAgree w.exchange.day.history w.bidder.rows) c.self.view_is (bills_agree _ _ _ c.self.invariant.0.ledger)
