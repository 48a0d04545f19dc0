-- The bytes up to the place are whole lines, which end no head.
use Rattle.http_connection.specs.declared.head.TheConstants.{HEAD_LIMIT}
use Rattle.std.proofs.Common.{◌≡◌, ◌≤◌, ◌-◌, ℕ}
use Rattle.http_connection.specs.BufferState.{Takes}
use Rattle.http_connection.specs.Walks.{count_of}
use Rattle.http_connection.specs.declared.head.Walk.{Walk}
use Rattle.http_connection.proofs.HeadWalk.{IsScanned}
use Rattle.http_connection.proofs.head.head_end.Given as goal

abbrev pub invariant-lines : goal.invariant-lines
invariant-lines g l = record {
  takes : Takes l.fn.buffer l.buffer (g.S.Source.tape l.fn.source) (g.S.Source.tape l.source);
  scanned : IsScanned l.at l.walk l.buffer.pending;
  unfinished : (n : ℕ) → l.walk ≡ Walk.Over n → ⊥;
  counted : count_of l.walk ≤ l.at;
  bounded : l.at ≤ HEAD_LIMIT;
  faults : g.S.Source.faults l.source ≡ g.S.Source.faults l.fn.source;
  place : g.S.Source.place l.source ≡ g.S.Source.place l.fn.source;
}

abbrev pub decreases-lines : goal.decreases-lines
decreases-lines g l = HEAD_LIMIT - l.at
