-- By the desk's batch.
use Rattle.std.proofs.Common.{arith}
use Rattle.shared_desk.proofs.Together.{ends_batch, made_all}
use Rattle.shared_desk.proofs.batching.answered.Goals as goal

pub returns-clause-ends : goal.returns-clause-ends
returns-clause-ends g c =
    let D = g.D.Disk in let x = c.args.desk.now in let y = c.batch-ended.new.self in let e = c.batch-ended.ensures in
    ends_batch (D.faults x.disk) (D.faults y.disk) x.desk y.desk c.args.batch.now c.batch-ended.new.batch c.batch-ended.result e.ends e.answers e.waits

pub returns-clause-made : goal.returns-clause-made
returns-clause-made g c =
    let D = g.D.Disk in let x = c.args.desk.now in let y = c.batch-ended.new.self in let e = c.batch-ended.ensures in let s = e.serves in
    let ends = ends_batch (D.faults x.disk) (D.faults y.disk) x.desk y.desk c.args.batch.now c.batch-ended.new.batch c.batch-ended.result e.ends e.answers e.waits in
    made_all (D.faults x.disk) (D.faults y.disk) x y c.args.batch.now c.batch-ended.new.batch (record { at = c.as_it_is-at.result; ended = c.batch-ended.result }) c.as_it_is-at.ensures.value
    (let v = c.len.ensures.value in let f = c.len.ensures.few in omega arith) ends e.ends c.as_it_is-at.ensures.faults s.terms s.since s.history s.same
