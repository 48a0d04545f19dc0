-- Each byte so far is a mark.
use Rattle.std.proofs.Common.{ℕ, ◌<◌, ◌≤◌, ◌-◌, IsTrue, length, get_or}
use Rattle.http_grammar.specs.Fields.{is_mark}
use Rattle.http_grammar.proofs.host.marks_in.Given as goal

abbrev pub invariant-loop-end : goal.invariant-loop-end
invariant-loop-end l = record {
  within : l.end ≤ length l.value;
  marks : (k : ℕ) → k < l.end → IsTrue (is_mark (get_or l.value k 0));
}

abbrev pub decreases-loop-end : goal.decreases-loop-end
decreases-loop-end l = length l.value - l.end
