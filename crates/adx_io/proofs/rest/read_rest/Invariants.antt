-- What was added and what may be added are the limit.
use Rattle.std.proofs.Common.{◌≡◌, ℕ, ◌+◌, ◌++◌, List, length}
use Rattle.adx_io.specs.Rest.{Adds}
use Rattle.adx_io.specs.Streams.{WhereTold}
use Rattle.adx_io.proofs.rest.read_rest.Given as goal

abbrev pub invariant-loop-room : goal.invariant-loop-room
invariant-loop-room g l = record {
  parts : (bytes : List ℕ) × (l.out.items ≡ l.initial.out.items ++ bytes) × (length bytes + l.room ≡ l.fn.limit);
  reads : WhereTold (g.S.Source.tape l.initial.source) (g.S.Source.tape l.source) (Adds l.initial.out.items l.out.items);
  place : g.S.Source.place l.source ≡ g.S.Source.place l.initial.source;
  same : g.S.Source.faults l.source ≡ g.S.Source.faults l.initial.source;
}

abbrev pub decreases-loop-room : goal.decreases-loop-room
decreases-loop-room g l = l.room
