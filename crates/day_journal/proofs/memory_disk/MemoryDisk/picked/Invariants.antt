-- What the changes so far come to.
use Rattle.std.proofs.Common.{◌≡◌, ◌≤◌, drop}
use Rattle.day_journal.specs.MemoryDisks.{picked, image_of}
use Rattle.day_journal.proofs.memory_disk.MemoryDisk.picked.Given as goal

abbrev pub invariant-loop-change : goal.invariant-loop-change
invariant-loop-change l = record {
  number : l.developing.number ≤ l.change-index;
  same : picked l.fn.pick l.fn.fill l.developing.number l.developing.read.items l.developing.image.items (drop l.change-index l.change-items) ≡ image_of l.fn.pick l.fn.fill l.fn.self;
}
