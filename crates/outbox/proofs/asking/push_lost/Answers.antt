use Rattle.std.proofs.Common.{◌++◌, List, sym, ap, take, ◌∙◌, arith}
use Rattle.std.specs.List.{flat_map}
use Rattle.std.proofs.lemmas.List.{take_all}
use Rattle.day_rules.specs.declared.ask.Kept.{Kept}
use Rattle.outbox.specs.Posts.{lost_post}
use Rattle.outbox.proofs.Walks.{flat_more, front_stays}
use Rattle.outbox.proofs.asking.push_lost.Goals as goal

pub loop-texts-preserved : goal.loop-texts-preserved
loop-texts-preserved c =
    flat_more (lost_post c.args.place c.args.ask.now) c.args.out.now.items c.as_slice-kept.result.now c.loop-texts.texts-index c.texts-item.result c.loop-texts.out.items c.push_lost_bid.new.out.items (omega arith) (sym c.texts-item.is) c.loop-texts.invariant c.in_ok-push_lost_bid.ensures.more

pub returns-in_err-push_lost_bid-clause-grows : goal.returns-in_err-push_lost_bid-clause-grows
returns-in_err-push_lost_bid-clause-grows c =
    λ n low. front_stays n c.args.out.now.items (flat_map (lost_post c.args.place c.args.ask.now) (take c.loop-texts.texts-index c.as_slice-kept.result.now)) c.push_lost_bid.new.out.items (c.in_err-push_lost_bid.ensures.same ∙ c.loop-texts.invariant) low

pub returns-clause-more : goal.returns-clause-more
returns-clause-more c =
    c.loop-texts.invariant
    ∙ ap (λ (ks : List Kept). c.args.out.now.items ++ flat_map (lost_post c.args.place c.args.ask.now) ks) (take_all c.loop-texts.texts-index c.as_slice-kept.result.now (omega arith) ∙ c.as_slice-kept.ensures)

pub returns-clause-grows : goal.returns-clause-grows
returns-clause-grows c =
    λ n low. front_stays n c.args.out.now.items (flat_map (lost_post c.args.place c.args.ask.now) (take c.loop-texts.texts-index c.as_slice-kept.result.now)) c.loop-texts.out.items c.loop-texts.invariant low
