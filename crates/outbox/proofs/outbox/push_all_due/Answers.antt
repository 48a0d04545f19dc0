use Rattle.std.proofs.Common.{◌++◌, ℕ, List, get_or, ap, take, ◌∙◌, arith}
use Rattle.std.specs.List.{flat_map}
use Rattle.std.proofs.lemmas.List.{get_or_default, take_all}
use Rattle.outbox.specs.declared.post.TheConstants.{OPPORTUNITY_EXPIRED}
use Rattle.outbox.specs.Rows.{row_loss}
use Rattle.outbox.specs.Steps.{post_in}
use Rattle.outbox.proofs.Walks.{flat_more, front_stays}
use Rattle.outbox.proofs.outbox.push_all_due.Goals as goal

pub loop-n-preserved : goal.loop-n-preserved
loop-n-preserved c =
    flat_more (post_in (row_loss c.args.place OPPORTUNITY_EXPIRED) c.args.kept.now) c.args.out.now.items c.args.due.now c.loop-n.n-index (get_or c.args.due.now c.loop-n.n-index 0) c.loop-n.out.items c.push_due.new.out.items (omega arith) (get_or_default c.args.due.now c.loop-n.n-index (get_or c.args.due.now c.loop-n.n-index 0) 0 (omega arith)) c.loop-n.invariant c.in_ok-push_due.ensures.more

pub returns-in_err-push_due-clause-grows : goal.returns-in_err-push_due-clause-grows
returns-in_err-push_due-clause-grows c =
    λ n low. front_stays n c.args.out.now.items (flat_map (post_in (row_loss c.args.place OPPORTUNITY_EXPIRED) c.args.kept.now) (take c.loop-n.n-index c.args.due.now)) c.push_due.new.out.items (c.in_err-push_due.ensures.same ∙ c.loop-n.invariant) low

pub returns-clause-more : goal.returns-clause-more
returns-clause-more c =
    c.loop-n.invariant ∙ ap (λ (ns : List ℕ). c.args.out.now.items ++ flat_map (post_in (row_loss c.args.place OPPORTUNITY_EXPIRED) c.args.kept.now) ns) (take_all c.loop-n.n-index c.args.due.now (omega arith))

pub returns-clause-grows : goal.returns-clause-grows
returns-clause-grows c =
    λ n low. front_stays n c.args.out.now.items (flat_map (post_in (row_loss c.args.place OPPORTUNITY_EXPIRED) c.args.kept.now) (take c.loop-n.n-index c.args.due.now)) c.loop-n.out.items c.loop-n.invariant low
