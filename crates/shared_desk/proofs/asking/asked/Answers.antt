-- By the desk's ask.
use Rattle.std.proofs.Common.{sym}
use Rattle.adx_desk.specs.declared.turn.Call.{Call}
use Rattle.shared_desk.specs.Callers.{answer_in}
use Rattle.shared_desk.proofs.Running.{copy_at, ended_as, made, makes_ask}
use Rattle.shared_desk.proofs.asking.asked.Goals as goal

pub returns-clause-made : goal.returns-clause-made
returns-clause-made g c =
    let D = g.D.Disk in let x = c.args.desk.now in let y = c.ask-done.new.self in let e = c.ask-done.ensures in let s = e.serves in
    let m = makes_ask (D.faults x.disk) (D.faults y.disk) x y c.args.ask c.ask-done.result (c.requires.formed, c.requires.undecided) e.answer e.ends e.size c.as_it_is-at.ensures.faults s.terms s.since s.history s.same in
    made x y (Call.Ask c.args.ask) (record { at = c.as_it_is-at.result; ended = c.parts_of-ended.result.0 }) c.as_it_is-at.ensures.value
    (ended_as x y (Call.Ask c.args.ask) (answer_in c.ask-done.result) c.parts_of-ended.result.0 (sym c.parts_of-ended.ensures.ended) m)

pub returns-clause-copy : goal.returns-clause-copy
returns-clause-copy g c =
    let x = c.args.desk.now in let y = c.ask-done.new.self in let e = c.ask-done.ensures in
    copy_at x y.desk.history c.args.ask c.ask-done.result (record { at = c.as_it_is-at.result; ended = c.parts_of-ended.result.0 }) c.parts_of-ended.result.1 c.as_it_is-at.ensures.value
    (sym c.parts_of-ended.ensures.ended) c.parts_of-ended.ensures.copy e.copy e.serves.history
