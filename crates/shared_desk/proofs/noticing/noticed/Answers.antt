-- By the desk's notice.
use Rattle.adx_desk.specs.declared.turn.Call.{Call}
use Rattle.shared_desk.proofs.Running.{made, makes_notice}
use Rattle.shared_desk.proofs.noticing.noticed.Goals as goal

pub returns : goal.returns
returns g c =
    let D = g.D.Disk in let x = c.args.desk.now in let y = c.notice-ended.new.self in let e = c.notice-ended.ensures in let s = e.serves in
    let call = Call.Notice c.args.kind c.args.auction.now c.args.award in
    let m = makes_notice (D.faults x.disk) (D.faults y.disk) x y call c.notice-ended.result (record {}) e.answer e.ends c.as_it_is-at.ensures.faults s.terms s.since s.history s.same in
    record { made = made x y call (record { at = c.as_it_is-at.result; ended = c.notice-ended.result }) c.as_it_is-at.ensures.value m }
