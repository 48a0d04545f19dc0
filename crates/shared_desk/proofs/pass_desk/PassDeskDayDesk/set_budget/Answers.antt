-- It was done, or given up, or memory was refused.
use Rattle.adx_desk.specs.declared.turn.Call.{Call}
use Rattle.shared_desk.specs.Passes.{viewed}
use Rattle.shared_desk.proofs.PassSteps.{kept_of, turn_done, turn_given_up}
use Rattle.shared_desk.proofs.pass_desk.PassDeskDayDesk.set_budget.Goals as goal

pub returns-clause-done : goal.returns-clause-done
returns-clause-done g c = turn_done c.args.self.now.shared.now.fixed c.args.self.now.roster c.args.self.now.opened c.args.self.now.pass.now c.set_budget.new.pass (viewed (g.M.MeterView.origin c.args.self.now.view.now) (g.M.MeterView.seen c.args.self.now.view.now)) (Call.Budget c.args.campaign c.args.change c.args.budget) c.set_budget.result c.set_budget.ensures.turn

pub returns-clause-failed : goal.returns-clause-failed
returns-clause-failed g c = turn_given_up c.args.self.now.shared.now.fixed c.args.self.now.roster c.args.self.now.opened c.args.self.now.pass.now c.set_budget.new.pass (viewed (g.M.MeterView.origin c.args.self.now.view.now) (g.M.MeterView.seen c.args.self.now.view.now)) (Call.Budget c.args.campaign c.args.change c.args.budget) c.set_budget.result c.set_budget.ensures.turn

pub invariant_of-self : goal.invariant_of-self
invariant_of-self g c = record { of = kept_of c.args.self.now.pass.now c.set_budget.new.pass c.args.self.now.shared.now c.set_budget.ensures.turn.1.same c.args.self.now.of; opened = c.args.self.now.opened }
