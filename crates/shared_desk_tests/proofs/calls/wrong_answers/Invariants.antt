-- It stays the same pass of this desk.
use Rattle.turnstile.specs.Passes.{IsSamePass}
use Rattle.shared_desk_tests.proofs.calls.wrong_answers.Given as goal

abbrev pub invariant-loop-call : goal.invariant-loop-call
invariant-loop-call g l = IsSamePass l.fn.pass l.pass
