use Rattle.std.proofs.Common.{◌<◌, List, sym, ap, ◌∙◌, subst}
use Rattle.notice_book.specs.declared.award.Award.{Award}
use Rattle.notice_book.specs.AwardList.{due_count, expired_by}
use Rattle.day_machine.proofs.LedgerKept.{due_falls, expired_all, expired_once}
use Rattle.day_machine.proofs.ledger.Ledger.expire.Goals as goal

pub loop-smaller : goal.loop-smaller
loop-smaller c =
    subst (λ (ws : List Award). due_count c.args.now ws < due_count c.args.now c.loop.self.awards) (sym c.expire_first.ensures.awards)
    (due_falls c.args.now c.loop.self.awards (sym c.expire_first.ensures.some ∙ c.loop-test.true))

pub loop-preserved : goal.loop-preserved
loop-preserved c = record {
  budgets = c.expire_first.ensures.budgets ∙ c.loop.invariant.budgets;
  awards = ap (expired_by c.args.now) c.expire_first.ensures.awards ∙ (expired_once c.args.now c.loop.self.awards ∙ c.loop.invariant.awards);
  places = c.expire_first.ensures.places ∙ c.loop.invariant.places;
  room = c.expire_first.ensures.room ∙ c.loop.invariant.room;
}

pub returns-clause-awards : goal.returns-clause-awards
returns-clause-awards c =
    c.expire_first.ensures.awards
    ∙ (expired_all c.args.now c.loop.self.awards (sym c.expire_first.ensures.some ∙ c.loop-test.false) ∙ c.loop.invariant.awards)
