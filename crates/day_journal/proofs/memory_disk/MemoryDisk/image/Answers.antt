-- A picked image is one of the images.
use Rattle.std.proofs.Common.{◌∙◌, ap, sym, subst}
use Rattle.day_journal.specs.MemoryDisks.{IsImage, reads_of}
use Rattle.day_journal.specs.MemoryDiskLaws.{picked_is_image}
use Rattle.day_journal.proofs.memory_disk.MemoryDisk.image.Goals as goal

pub returns-clause-is_image : goal.returns-clause-is_image
returns-clause-is_image c =
    let s = c.args.self.now in
    subst (IsImage s.start s.changes) (sym (ap reads_of c.in_ok-disk.ensures ∙ c.deref.ensures.value ∙ c.in_ok-image.ensures)) (picked_is_image s.start s.changes c.args.pick.now c.args.fill)
