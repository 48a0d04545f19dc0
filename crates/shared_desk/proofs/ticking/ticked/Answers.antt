-- By the desk's tick.
use Rattle.adx_desk.specs.declared.turn.Call.{Call}
use Rattle.shared_desk.proofs.Running.{made, makes_notice}
use Rattle.shared_desk.proofs.ticking.ticked.Goals as goal

pub returns : goal.returns
returns g c =
    let D = g.D.Disk in let x = c.args.desk.now in let y = c.tick-ended.new.self in let e = c.tick-ended.ensures in let s = e.serves in
    let call = Call.Tick c.args.now in
    let m = makes_notice (D.faults x.disk) (D.faults y.disk) x y call c.tick-ended.result c.requires.moment e.answer e.ends c.as_it_is-at.ensures.faults s.terms s.since s.history s.same in
    record { made = made x y call (record { at = c.as_it_is-at.result; ended = c.tick-ended.result }) c.as_it_is-at.ensures.value m }
