use Rattle.thread_tests.proofs.NewPairs.{one_more}
use Rattle.thread_tests.proofs.lobbies.pairs_of.Goals as goal

pub loop-letter-preserved : goal.loop-letter-preserved
loop-letter-preserved c = one_more c.loop-letter.pairs.items _ _ c.in_ok-push.ensures.items c.loop-letter.invariant c.in_ok-pair.ensures
