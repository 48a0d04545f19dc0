-- The first lines were written after what was, and a front of all that was put.
use Rattle.std.proofs.Common.{◌≡◌, ◌++◌, take}
use Rattle.std.specs.List.{flat_map}
use Rattle.adx_io.specs.TalkState.{place_of, state_of}
use Rattle.formats.specs.Parts.{ended}
use Rattle.history_runs.specs.Putting.{PutsFront}
use Rattle.command_close.proofs.pieces.put_lines.Given as goal

abbrev pub invariant-loop-at : goal.invariant-loop-at
invariant-loop-at g l = record {
  told : PutsFront (state_of l.fn.talk).held (state_of l.talk).held
      ((state_of l.fn.talk).out ++ flat_map ended (take l.at (g.L.Lines.lines l.lines))) (state_of l.talk).out;
  rest : l.talk.source ≡ l.fn.talk.source;
  read_same : (state_of l.talk).read_faults ≡ (state_of l.fn.talk).read_faults;
  write_same : (state_of l.talk).write_faults ≡ (state_of l.fn.talk).write_faults;
  place : place_of l.talk ≡ place_of l.fn.talk;
}
