use Rattle.std.proofs.Common.{arith, sym, ◌∙◌}
use Rattle.outbox.proofs.Parts.{left_in, left_out, left_whole}
use Rattle.outbox.proofs.trying.keep_left.Goals as goal

pub loop-at-preserved : goal.loop-at-preserved
loop-at-preserved c = elim c.if-stays.branch [
  | goal.then-stays w ↦ rw (w.posts-is, w.count-is) (left_in _ _ _ _ _ _ _ c.loop-at.invariant (omega (arith, c.loop-at.invariant.long)) (sym c.stays.ensures ∙ w.if-stays.true) w.swap.ensures.by_index)
  | goal.else-stays w ↦ rw (w.posts-is, w.count-is) (left_out _ _ _ _ _ _ c.loop-at.invariant (omega (arith, c.loop-at.invariant.long)) (sym c.stays.ensures ∙ w.if-stays.false))
]

pub returns : goal.returns
returns c = c.truncate.ensures.items ∙ left_whole _ _ _ _ _ _ c.args.first (omega arith) (omega (arith, c.loop-at.invariant.long)) c.loop-at.invariant
