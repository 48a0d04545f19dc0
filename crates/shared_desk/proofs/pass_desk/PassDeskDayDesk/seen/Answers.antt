-- The history was looked at.
use Rattle.std.proofs.Common.{◌≡◌, List}
use Rattle.day_rules.specs.declared.entry.Entry.{Entry}
use Rattle.day_rules.specs.Replies.{seen_in}
use Rattle.shared_desk.specs.Passes.{viewed}
use Rattle.shared_desk.proofs.PassSteps.{kept_of, looks}
use Rattle.shared_desk.proofs.pass_desk.PassDeskDayDesk.seen.Goals as goal

pub returns-clause-looks : goal.returns-clause-looks
returns-clause-looks g c = looks c.args.self.now.shared.now.fixed c.args.self.now.roster c.args.self.now.opened c.args.self.now.pass.now c.seen.new.pass (viewed (g.M.MeterView.origin c.args.self.now.view.now) (g.M.MeterView.seen c.args.self.now.view.now)) (λ (at : List Entry). c.seen.result ≡ seen_in at c.args.auction.now c.args.digest.now) c.seen.ensures.turn c.seen.ensures.seen

pub invariant_of-self : goal.invariant_of-self
invariant_of-self g c = record { of = kept_of c.args.self.now.pass.now c.seen.new.pass c.args.self.now.shared.now c.seen.ensures.turn.1.same c.args.self.now.of; opened = c.args.self.now.opened }
