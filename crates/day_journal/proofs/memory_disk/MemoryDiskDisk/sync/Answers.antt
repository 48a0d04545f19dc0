-- A sync makes what is read the one image.
use Rattle.std.proofs.Common.{rules}
use Rattle.day_journal.proofs.MemoryDisks.{after_sync}
use Rattle.day_journal.proofs.memory_disk.MemoryDiskDisk.sync.Goals as goal

pub returns-in-Ok-clause-durable : goal.returns-in-Ok-clause-durable
returns-in-Ok-clause-durable c =
    let after = after_sync c.begin.new.self.start c.note_sync.new.self.start c.begin.new.self.changes c.note_sync.new.self.changes c.in-Ok.ensures.start c.in-Ok.ensures.ok in
    after.durable

pub returns-in-Ok-clause-same : goal.returns-in-Ok-clause-same
returns-in-Ok-clause-same c =
    let after = after_sync c.args.self.now.start c.note_sync.new.self.start c.args.self.now.changes c.note_sync.new.self.changes (search rules) (search rules) in
    after.same

pub returns-in-Ok-clause-crash : goal.returns-in-Ok-clause-crash
returns-in-Ok-clause-crash c =
    let after = after_sync c.args.self.now.start c.note_sync.new.self.start c.args.self.now.changes c.note_sync.new.self.changes (search rules) (search rules) in
    after.crash
