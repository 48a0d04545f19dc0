-- It was done, or given up by the disk's fault.
use Rattle.adx_desk.specs.declared.turn.Call.{Call}
use Rattle.shared_desk.specs.Passes.{viewed}
use Rattle.shared_desk.proofs.PassSteps.{kept_of, turn_cause, turn_done, turn_failed}
use Rattle.shared_desk.proofs.pass_desk.PassDeskDayDesk.notice.Goals as goal

pub returns-clause-done : goal.returns-clause-done
returns-clause-done g c = turn_done c.args.self.now.shared.now.fixed c.args.self.now.roster c.args.self.now.opened c.args.self.now.pass.now c.notice.new.pass (viewed (g.M.MeterView.origin c.args.self.now.view.now) (g.M.MeterView.seen c.args.self.now.view.now)) (Call.Notice c.args.kind c.args.auction.now c.args.award) c.notice.result c.notice.ensures.turn

pub returns-clause-failed : goal.returns-clause-failed
returns-clause-failed g c = turn_failed c.args.self.now.shared.now.fixed c.args.self.now.roster c.args.self.now.opened c.args.self.now.pass.now c.notice.new.pass (viewed (g.M.MeterView.origin c.args.self.now.view.now) (g.M.MeterView.seen c.args.self.now.view.now)) (Call.Notice c.args.kind c.args.auction.now c.args.award) c.notice.result (λ none. none) c.notice.ensures.turn

pub returns-clause-cause : goal.returns-clause-cause
returns-clause-cause g c = turn_cause c.args.self.now.shared.now.fixed c.args.self.now.pass.now c.notice.new.pass (Call.Notice c.args.kind c.args.auction.now c.args.award) c.notice.result (λ none. none) c.notice.ensures.turn

pub invariant_of-self : goal.invariant_of-self
invariant_of-self g c = record { of = kept_of c.args.self.now.pass.now c.notice.new.pass c.args.self.now.shared.now c.notice.ensures.turn.1.same c.args.self.now.of; opened = c.args.self.now.opened }
