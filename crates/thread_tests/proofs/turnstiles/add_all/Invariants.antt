use Rattle.turnstile.specs.Passes.{IsSamePass}
use Rattle.thread_tests.proofs.turnstiles.add_all.Given as goal

abbrev pub invariant-loop-k : goal.invariant-loop-k
invariant-loop-k g l = IsSamePass l.initial.pass l.pass
