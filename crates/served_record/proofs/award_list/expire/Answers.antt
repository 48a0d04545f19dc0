use Rattle.std.proofs.Common.{◌<◌, List, sym, ap, ◌∙◌, subst}
use Rattle.notice_book.specs.declared.award.Award.{Award}
use Rattle.notice_book.specs.AwardList.{due_count, expired_by}
use Rattle.day_machine.proofs.LedgerKept.{due_falls, expired_all, expired_once}
use Rattle.served_record.proofs.award_list.expire.Goals as goal

pub loop-smaller : goal.loop-smaller
loop-smaller c =
    subst (λ (ws : List Award). due_count c.args.now ws < due_count c.args.now c.loop.awards.awards) (sym c.expire_first.ensures.awards)
    (due_falls c.args.now c.loop.awards.awards (sym c.expire_first.ensures.some ∙ c.loop-test.true))

pub loop-preserved : goal.loop-preserved
loop-preserved c =
    ap (expired_by c.args.now) c.expire_first.ensures.awards ∙ (expired_once c.args.now c.loop.awards.awards ∙ c.loop.invariant)

pub returns : goal.returns
returns c =
    c.expire_first.ensures.awards
    ∙ (expired_all c.args.now c.loop.awards.awards (sym c.expire_first.ensures.some ∙ c.loop-test.false) ∙ c.loop.invariant)
