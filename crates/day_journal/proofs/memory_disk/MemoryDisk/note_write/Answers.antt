-- The bytes go with the changes.
use Rattle.std.proofs.Common.{rules}
use Rattle.day_journal.proofs.MemoryDisks.{kept_by_write}
use Rattle.day_journal.proofs.memory_disk.MemoryDisk.note_write.Goals as goal

pub invariant_of-self-2 : goal.invariant_of-self-2
invariant_of-self-2 c = kept_by_write c.self.inside.bytes.items c.overwrite.new.bytes.items _ c.args.at c.args.piece.now c.args.piece.now c.self.inside.changes.items c.add_within.new.changes.items c.self.invariant c.in_ok-overwrite.ensures.ok (λ i. c.args.piece.now) (search rules)
