-- Each place so far is a character of a name.
use Rattle.std.proofs.Common.{ℕ, ◌<◌}
use Rattle.http_grammar.specs.Fields.{IsHostByte}
use Rattle.http_grammar.proofs.host.is_host_name.Given as goal

abbrev pub invariant-loop-k : goal.invariant-loop-k
invariant-loop-k l = (j : ℕ) → j < l.k → IsHostByte l.host j
