-- What is said of the steps of one who owns a desk. This project's own.
use Rattle.std.specs.Prelude.{◌≡◌, List, [], Err}
use Rattle.adx_desk.specs.Desks.{OnDisk}
use Rattle.adx_desk.specs.Endings.{FailsDisk}
use Rattle.adx_desk.specs.Serving.{ServesAll}
use Rattle.adx_desk.specs.declared.fault.DeskFault.{DeskFault}
use Rattle.day_journal.specs.declared.disk.Disk.{Ghosts}
use Rattle.day_rules.specs.Laws.{Arrival}
use Rattle.day_rules.specs.Legal.{IsLegal}
use Rattle.adx_desk.specs.Steps.{AreSteps, Step, alone}
use Rattle.day_machine.specs.Batches.{entries_in_turn}
use Rattle.adx_desk.specs.Records.{RunsOn}
use Rattle.adx_desk.specs.Told.{told_of}

-- These steps were made on a desk that nobody else calls: each at the history that those before it leave, and with all that
-- the disk keeps of their calls.
-- Example: a tick and a bill after it, both done: the bill is at the history that the tick left.
pub record OwnRuns {D : Type 0} (d : Ghosts D) (old new : OnDisk D) (steps : List Step) : Type 0 where
  pub along : AreSteps alone old.desk.terms old.desk.history steps new.desk.history
  pub terms : new.desk.terms ≡ old.desk.terms
  pub on_disk : IsLegal old.desk.terms.day old.desk.history → RunsOn d.faults d.may_leave d.moment d.left_since old new (told_of steps)
  pub lasts : d.lasts old.disk new.disk

-- the disk's fault gave up the record of these notices
pub record OwnLost {D : Type 0} (d : Ghosts D) (old new : OnDisk D) (notices : List Arrival) : Type 0 where
  pub serves : ServesAll {T = Unit {0}} d.may_leave d.moment d.left_since old new (entries_in_turn old.desk.history notices) (Err DeskFault.DiskFault)
  pub fails : FailsDisk (d.faults old.disk) (d.faults new.disk) old.desk new.desk
  -- where they add nothing it isn't touched
  pub unmoved : entries_in_turn old.desk.history notices ≡ [] → new ≡ old
  pub lasts : d.lasts old.disk new.disk
