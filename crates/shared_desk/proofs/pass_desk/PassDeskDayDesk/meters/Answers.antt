-- Meters were read.
use Rattle.std.proofs.Common.{subst}
use Rattle.adx_desk.specs.Histories.{DeskTerms}
use Rattle.day_rules.specs.Legal.{IsLegal}
use Rattle.shared_desk.specs.Passes.{viewed}
use Rattle.shared_desk.proofs.PassSteps.{reads_meters}
use Rattle.shared_desk.proofs.pass_desk.PassDeskDayDesk.meters.Goals as goal

pub returns-clause-reads : goal.returns-clause-reads
returns-clause-reads g c =
    let p = c.args.self.now.pass.now in
    let legal = subst (λ (t : DeskTerms). IsLegal t.day p.seen) c.args.self.now.opened c.recall.ensures.right.legal.legal in
    let read = c.read.ensures in
    reads_meters c.args.self.now.roster p (viewed (g.M.MeterView.origin c.args.self.now.view.now) (g.M.MeterView.seen c.args.self.now.view.now)) (viewed (g.M.MeterView.origin c.read.new.self) (g.M.MeterView.seen c.read.new.self)) c.read.result legal read.later read.meters read.origin
