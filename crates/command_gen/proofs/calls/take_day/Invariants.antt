-- The calls of the first asks were taken.
use Rattle.std.proofs.Common.{◌≡◌, ◌*◌}
use Rattle.command_gen.specs.Generated.{state_before}
use Rattle.command_gen.specs.Taking.{TookFirst}
use Rattle.command_gen.proofs.calls.take_day.Given as goal

abbrev pub invariant-asks : goal.invariant-asks
invariant-asks g l = record {
  took : TookFirst g.D.Disk.faults g.D.Disk.may_leave g.D.Disk.moment g.D.Disk.left_since l.fn.desk l.desk l.fn.generator.seed l.number;
  words : l.words ≡ state_before l.fn.generator.seed (9 * l.number);
  terms : l.desk.desk.terms ≡ l.fn.desk.desk.terms;
  lasts : g.D.Disk.lasts l.fn.desk.disk l.desk.disk;
}
