use Rattle.std.proofs.Common.{◌++◌, take, sym, arith}
use Rattle.outbox.proofs.Followed.{day_more, follows_all, follows_front, stands_first, stands_more}
use Rattle.outbox.proofs.outbox.Outbox.follow.Goals as goal

pub loop-entry-init : goal.loop-entry-init
loop-entry-init c = λ terms history followed day. stands_first history c.args.entries.now c.args.self.now followed

pub loop-entry-preserved : goal.loop-entry-preserved
loop-entry-preserved c = λ terms history followed day.
    stands_more history c.args.entries.now c.loop-entry.entry-index c.entry-item.result tt c.args.self.now c.loop-entry.self c.follow_one.new.self (omega arith) (sym c.entry-item.is)
    (c.loop-entry.invariant terms history followed day)
    (c.in-Ok.ensures terms (history ++ take c.loop-entry.entry-index c.args.entries.now) (c.loop-entry.invariant terms history followed day).followed
    (day_more terms history c.args.entries.now c.loop-entry.entry-index c.entry-item.result (omega arith) (sym c.entry-item.is) day))

pub returns-in-Err : goal.returns-in-Err
returns-in-Err c = λ terms history followed day.
    follows_front history c.args.entries.now c.loop-entry.entry-index c.entry-item.result c.in-Err.wanting c.args.self.now c.loop-entry.self c.follow_one.new.self (omega arith)
    (c.loop-entry.invariant terms history followed day)
    (c.in-Err.ensures terms (history ++ take c.loop-entry.entry-index c.args.entries.now) (c.loop-entry.invariant terms history followed day).followed
    (day_more terms history c.args.entries.now c.loop-entry.entry-index c.entry-item.result (omega arith) (sym c.entry-item.is) day))

pub returns : goal.returns
returns c = λ terms history followed day. follows_all history c.args.entries.now c.loop-entry.entry-index tt c.args.self.now c.loop-entry.self (omega arith) (c.loop-entry.invariant terms history followed day)
