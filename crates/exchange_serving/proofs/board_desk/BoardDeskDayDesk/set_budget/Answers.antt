-- It was done, or given up.
use Rattle.std.proofs.Common.{◌≡◌, ◌∙◌}
use Rattle.std.proofs.lemmas.Result.{IfOk-weaker, IfErr-weaker}
use Rattle.meter_board.specs.Words.{list_read, seen}
use Rattle.shared_desk.specs.Passes.{viewed}
use Rattle.turnstile.specs.Passes.{IsSamePass}
use Rattle.exchange_serving.proofs.Shown.{beside_still, beside_took, either}
use Rattle.exchange_serving.proofs.board_desk.BoardDeskDayDesk.set_budget.Goals as goal

pub returns-clause-done : goal.returns-clause-done
returns-clause-done g c =
    let a = c.args.self.now.own in let b = c.set_budget.new.self in
    let v = viewed (list_read a.view.now) (seen a.view.now) in let w = viewed (list_read b.view.now) (seen b.view.now) in
    IfOk-weaker c.set_budget.result _ _ (λ x t. beside_took a.roster b.roster a.pass.now b.pass.now v w c.args.self.now.short t) c.set_budget.ensures.done

pub returns-clause-failed : goal.returns-clause-failed
returns-clause-failed g c =
    let a = c.args.self.now.own in let b = c.set_budget.new.self in
    let v = viewed (list_read a.view.now) (seen a.view.now) in let w = viewed (list_read b.view.now) (seen b.view.now) in
    IfErr-weaker c.set_budget.result _ _ (λ e t. beside_took a.roster b.roster a.pass.now b.pass.now v w c.args.self.now.short t) c.set_budget.ensures.failed

pub invariant_of-self : goal.invariant_of-self
invariant_of-self g c =
    let a = c.args.self.now.own in let b = c.set_budget.new.self in
    let v = viewed (list_read a.view.now) (seen a.view.now) in let w = viewed (list_read b.view.now) (seen b.view.now) in
    let same = either {C = IsSamePass a.pass.now b.pass.now × (w.origin ≡ v.origin)} _ _ c.set_budget.result (λ x t. (t.1.gains.same, t.1.origin)) (λ e t. (t.1.gains.same, t.1.origin)) c.set_budget.ensures.done c.set_budget.ensures.failed in
    record { beside = beside_still g.J.DayNames.first a.pass.now b.pass.now same.0 c.args.self.now.beside; reader = same.1 ∙ c.args.self.now.reader }
