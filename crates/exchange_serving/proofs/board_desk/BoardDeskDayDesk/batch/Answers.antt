-- The notices were taken together, or the disk's fault gave that up.
use Rattle.std.proofs.Common.{◌≡◌, ◌∙◌}
use Rattle.std.proofs.lemmas.Result.{on_err_weaker, on_ok_weaker}
use Rattle.meter_board.specs.Words.{list_read, seen}
use Rattle.shared_desk.specs.Passes.{viewed}
use Rattle.turnstile.specs.Passes.{IsSamePass}
use Rattle.exchange_serving.proofs.Shown.{beside_batch, beside_none, beside_still, either}
use Rattle.exchange_serving.proofs.board_desk.BoardDeskDayDesk.batch.Goals as goal

pub returns-clause-done : goal.returns-clause-done
returns-clause-done g c =
    let a = c.args.self.now.own in let b = c.batch.new.self in
    let v = viewed (list_read a.view.now) (seen a.view.now) in let w = viewed (list_read b.view.now) (seen b.view.now) in
    on_ok_weaker c.batch.result (λ t. beside_batch a.roster b.roster a.pass.now b.pass.now v w c.args.self.now.short c.args.batch.now.calls t) c.batch.ensures.done

pub returns-clause-failed : goal.returns-clause-failed
returns-clause-failed g c =
    let a = c.args.self.now.own in let b = c.batch.new.self in
    let v = viewed (list_read a.view.now) (seen a.view.now) in let w = viewed (list_read b.view.now) (seen b.view.now) in
    on_err_weaker c.batch.result (λ t. (beside_none a.roster b.roster a.pass.now b.pass.now v w c.args.self.now.short t.0, t.1)) c.batch.ensures.failed

pub invariant_of-self : goal.invariant_of-self
invariant_of-self g c =
    let a = c.args.self.now.own in let b = c.batch.new.self in
    let v = viewed (list_read a.view.now) (seen a.view.now) in let w = viewed (list_read b.view.now) (seen b.view.now) in
    let same = either {C = IsSamePass a.pass.now b.pass.now × (w.origin ≡ v.origin)} _ _ c.batch.result (λ x t. (t.1.gains.same, t.1.origin)) (λ e t. (t.0.gains.same, t.0.origin)) c.batch.ensures.done c.batch.ensures.failed in
    record { beside = beside_still g.J.DayNames.first a.pass.now b.pass.now same.0 c.args.self.now.beside; reader = same.1 ∙ c.args.self.now.reader }
