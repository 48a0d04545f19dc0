-- A lost write changes nothing that is read.
use Rattle.day_journal.proofs.MemoryDisks.{kept_by_lost}
use Rattle.day_journal.proofs.memory_disk.MemoryDisk.note_lost.Goals as goal

pub invariant_of-self : goal.invariant_of-self
invariant_of-self c = kept_by_lost c.add.result _ _ _ _ _ _ c.self.invariant c.add.ensures.ok c.add.ensures.err
