-- The notices were taken together, or the disk's fault gave that up.
use Rattle.shared_desk.specs.Passes.{viewed}
use Rattle.shared_desk.proofs.PassSteps.{batch_done, batch_failed, batch_same, kept_of}
use Rattle.shared_desk.proofs.pass_desk.PassDeskDayDesk.batch.Goals as goal

pub returns-clause-done : goal.returns-clause-done
returns-clause-done g c = batch_done c.args.self.now.shared.now.fixed c.args.self.now.roster c.args.self.now.opened c.args.self.now.pass.now c.batch.new.pass (viewed (g.M.MeterView.origin c.args.self.now.view.now) (g.M.MeterView.seen c.args.self.now.view.now)) c.batch.result c.args.batch.now c.batch.new.batch c.batch.ensures.ok

pub returns-clause-failed : goal.returns-clause-failed
returns-clause-failed g c = batch_failed c.args.self.now.shared.now.fixed c.args.self.now.roster c.args.self.now.opened c.args.self.now.pass.now c.batch.new.pass (viewed (g.M.MeterView.origin c.args.self.now.view.now) (g.M.MeterView.seen c.args.self.now.view.now)) c.batch.result c.args.batch.now c.batch.new.batch c.batch.ensures.fault c.batch.ensures.waits

pub returns-clause-cause : goal.returns-clause-cause
returns-clause-cause g c = c.batch.ensures.cause

pub invariant_of-self : goal.invariant_of-self
invariant_of-self g c =
    let same = batch_same c.args.self.now.shared.now.fixed c.args.self.now.roster c.args.self.now.opened c.args.self.now.pass.now c.batch.new.pass (viewed (g.M.MeterView.origin c.args.self.now.view.now) (g.M.MeterView.seen c.args.self.now.view.now)) c.batch.result c.args.batch.now c.batch.new.batch c.batch.ensures.ok c.batch.ensures.fault in
    record { of = kept_of c.args.self.now.pass.now c.batch.new.pass c.args.self.now.shared.now same c.args.self.now.of; opened = c.args.self.now.opened }
