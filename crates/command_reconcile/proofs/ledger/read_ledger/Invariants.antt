-- Rows were read, and nothing was written.
use Rattle.std.proofs.Common.{◌≡◌, []}
use Rattle.adx_io.specs.Streams.{WhereTold}
use Rattle.adx_io.specs.TalkState.{place_of, state_of}
use Rattle.command_reconcile.specs.Reading.{ReadsRows}
use Rattle.command_reconcile.proofs.ledger.read_ledger.Given as goal

abbrev pub invariant-lines : goal.invariant-lines
invariant-lines g l = record {
  reads : WhereTold (state_of l.fn.talk).tape (state_of l.talk).tape (ReadsRows (state_of l.fn.talk) (state_of l.talk) l.bills.items l.number);
  held : (state_of l.talk).held ≡ (state_of l.fn.talk).held;
  unwritten : (state_of l.talk).out ≡ [];
  read_same : (state_of l.talk).read_faults ≡ (state_of l.fn.talk).read_faults;
  write_same : (state_of l.talk).write_faults ≡ (state_of l.fn.talk).write_faults;
  place : place_of l.talk ≡ place_of l.fn.talk;
}

abbrev pub decreases-lines : goal.decreases-lines
decreases-lines g l = (state_of l.talk).allowed
