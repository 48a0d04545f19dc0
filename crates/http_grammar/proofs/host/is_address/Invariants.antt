-- Each place so far is a character of a name or a colon.
use Rattle.std.proofs.Common.{◌≡◌, ◌⊎◌, ℕ, ◌<◌, get_or}
use Rattle.http_grammar.specs.Fields.{IsHostByte}
use Rattle.http_grammar.proofs.host.is_address.Given as goal

abbrev pub invariant-loop-k : goal.invariant-loop-k
invariant-loop-k l = (j : ℕ) → j < l.k → IsHostByte l.inner j ⊎ (get_or l.inner j 0 ≡ 58)
