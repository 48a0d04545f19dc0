-- A write that was done, one that was lost, and one for which there was no memory.
use Rattle.std.proofs.Common.{true, rules, length}
use Rattle.day_journal.proofs.MemoryDisks.{after_write, elapses_lost, follows_lost, follows_none}
use Rattle.day_journal.proofs.memory_disk.MemoryDiskDisk.write_at.Goals as goal

pub returns-in-Ok-note_write-clause-written : goal.returns-in-Ok-note_write-clause-written
returns-in-Ok-note_write-clause-written c =
    let after = after_write c.args.at c.args.piece.now true c.args.self.now.start c.note_write.new.self.start c.args.self.now.changes c.note_write.new.self.changes (search rules) (search rules) in
    after.written

pub returns-in-Ok-note_write-clause-crash : goal.returns-in-Ok-note_write-clause-crash
returns-in-Ok-note_write-clause-crash c =
    let after = after_write c.args.at c.args.piece.now true c.args.self.now.start c.note_write.new.self.start c.args.self.now.changes c.note_write.new.self.changes (search rules) (search rules) in
    after.crash

pub returns-in-Err-note_write-clause-crash : goal.returns-in-Err-note_write-clause-crash
returns-in-Err-note_write-clause-crash c = follows_none c.args.at (length c.args.piece.now) c.args.self.now.start c.refused.new.self.start c.args.self.now.changes c.refused.new.self.changes (search rules) (search rules)

pub returns-in-Err-clause-crash : goal.returns-in-Err-clause-crash
returns-in-Err-clause-crash c = follows_lost c.note_lost.result c.args.at c.args.piece.now c.args.self.now.start c.note_lost.new.self.start c.args.self.now.changes c.begin.new.self.changes c.note_lost.new.self.changes (search rules) (search rules) c.note_lost.ensures.ok c.note_lost.ensures.err

pub returns-in-Err-clause-time : goal.returns-in-Err-clause-time
returns-in-Err-clause-time c = elapses_lost c.note_lost.result c.args.at c.args.piece.now c.args.self.now.start c.note_lost.new.self.start c.args.self.now.changes c.begin.new.self.changes c.note_lost.new.self.changes (search rules) (search rules) c.note_lost.ensures.ok c.note_lost.ensures.err
