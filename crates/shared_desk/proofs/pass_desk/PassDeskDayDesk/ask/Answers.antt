-- It was done, or given up, or memory was refused.
use Rattle.std.proofs.Common.{length, subst, sym}
use Rattle.adx_desk.specs.Histories.{DeskTerms}
use Rattle.day_rules.specs.Asks.{IsWellFormed}
use Rattle.shared_desk.specs.Passes.{viewed}
use Rattle.shared_desk.proofs.PassSteps.{ask_done, ask_given_up, kept_of}
use Rattle.shared_desk.proofs.pass_desk.PassDeskDayDesk.ask.Goals as goal

pub ask-requires-clause-formed : goal.ask-requires-clause-formed
ask-requires-clause-formed g c = subst (λ (t : DeskTerms). IsWellFormed (length t.day.budgets) c.args.ask) (sym c.args.self.now.opened) c.requires.formed

pub returns-clause-done : goal.returns-clause-done
returns-clause-done g c = ask_done c.args.self.now.shared.now.fixed c.args.self.now.roster c.args.self.now.opened c.args.self.now.pass.now c.ask.new.pass (viewed (g.M.MeterView.origin c.args.self.now.view.now) (g.M.MeterView.seen c.args.self.now.view.now)) c.args.ask c.ask.result c.ask.ensures.turn c.ask.ensures.copy

pub returns-clause-failed : goal.returns-clause-failed
returns-clause-failed g c = ask_given_up c.args.self.now.shared.now.fixed c.args.self.now.roster c.args.self.now.opened c.args.self.now.pass.now c.ask.new.pass (viewed (g.M.MeterView.origin c.args.self.now.view.now) (g.M.MeterView.seen c.args.self.now.view.now)) c.args.ask c.ask.result c.ask.ensures.turn

pub invariant_of-self : goal.invariant_of-self
invariant_of-self g c = record { of = kept_of c.args.self.now.pass.now c.ask.new.pass c.args.self.now.shared.now c.ask.ensures.turn.1.same c.args.self.now.of; opened = c.args.self.now.opened }
