use Rattle.bidder_core.proofs.Kept.{not_added}
use Rattle.bidder_core.proofs.ledger.Ledger.notice.Goals as goal

pub returns-in_default-clause-rows : goal.returns-in_default-clause-rows
returns-in_default-clause-rows c = not_added c.rule.result _ c.args.self.now.rows c.in_default.not-Counted
