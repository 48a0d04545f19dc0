use Rattle.day_rules.proofs.TextsNeeded.{AreKeptBelow}
use Rattle.day_rules.proofs.needed.are_kept_texts.Given as goal

abbrev pub invariant-loop-place : goal.invariant-loop-place
invariant-loop-place l = AreKeptBelow l.offers l.kept l.place l.next
