-- By the desk's change of a budget.
use Rattle.adx_desk.specs.declared.turn.Call.{Call}
use Rattle.shared_desk.proofs.Running.{made, makes_room}
use Rattle.shared_desk.proofs.budgeting.budgeted.Goals as goal

pub returns : goal.returns
returns g c =
    let D = g.D.Disk in let x = c.args.desk.now in let y = c.set_budget-ended.new.self in let e = c.set_budget-ended.ensures in let s = e.serves in
    let call = Call.Budget c.args.campaign c.args.change c.args.budget in
    let m = makes_room (D.faults x.disk) (D.faults y.disk) x y call c.set_budget-ended.result (record {}) (c.requires.change, c.requires.budget) e.answer e.ends e.size c.as_it_is-at.ensures.faults s.terms s.since s.history s.same in
    record { made = made x y call (record { at = c.as_it_is-at.result; ended = c.set_budget-ended.result }) c.as_it_is-at.ensures.value m }
