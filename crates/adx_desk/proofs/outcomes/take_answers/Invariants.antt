-- So many answers were taken.
use Rattle.std.proofs.Common.{◌≡◌, length, vec_capacity}
use Rattle.adx_desk.proofs.TakenAnswers.{AreTaken}
use Rattle.adx_desk.proofs.outcomes.take_answers.Given as goal

abbrev pub invariant-loop-i : goal.invariant-loop-i
invariant-loop-i l = record {
  taken : AreTaken l.batch.answers (length l.batch.calls) l.i l.outcomes.items;
  long : length l.outcomes.items ≡ l.i;
  room : vec_capacity l.outcomes ≡ vec_capacity l.initial.outcomes;
}
