-- A write is one change more, or none.
use Rattle.std.proofs.Common.{rules, length}
use Rattle.day_journal.specs.Disks.{written}
use Rattle.day_journal.proofs.ByteDisks.{elapses_put, follows_none}
use Rattle.day_journal.proofs.write_only_disk.WriteOnlyDiskDisk.write_at.Goals as goal

pub returns-in-Ok-clause-time : goal.returns-in-Ok-clause-time
returns-in-Ok-clause-time c = elapses_put c.args.self.now c.put.new.self (written c.args.at c.args.piece.now c.args.self.now.bytes) c.in-Ok.ensures.ok

pub returns-in-Err-clause-crash : goal.returns-in-Err-clause-crash
returns-in-Err-clause-crash c = follows_none c.args.at (length c.args.piece.now) c.args.self.now.bytes _ (search rules)
