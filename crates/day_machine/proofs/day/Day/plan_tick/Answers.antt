use Rattle.std.proofs.Common.{◌≡◌, List, ap, ◌∙◌, subst, arith}
use Rattle.notice_book.specs.AwardList.{due_count}
use Rattle.day_rules.specs.declared.entry.Entry.{Entry}
use Rattle.day_rules.specs.DayState.{DayState}
use Rattle.day_rules.specs.Books.{awards_of}
use Rattle.day_rules.specs.Legal.{ExpireMayFollow}
use Rattle.day_rules.proofs.Within.{latest_small}
use Rattle.day_machine.proofs.day.Day.plan_tick.Goals as goal

pub returns-clause-legal : goal.returns-clause-legal
returns-clause-legal c =
    let h : List Entry = c.self.inside.history.items in
    let due : c.due-ended.result ≡ due_count c.max-moment.result (awards_of h) =
    c.due-ended.ensures ∙ ap (due_count c.max-moment.result) (c.sold.ensures ∙ c.self.invariant.awards_are) in
    subst (λ (h : List Entry). ExpireMayFollow h c.max-moment.result) (ap (λ (s : DayState). s.history) c.self.view_is) (record {
      small = omega (arith, c.requires, latest_small _ h c.self.invariant.day.legal, c.self.invariant.totals_are.moment, c.max-moment.ensures);
      latest = omega (arith, c.self.invariant.totals_are.moment, c.max-moment.ensures);
      ends = omega (arith, c.if-ended-eq0.false);
    })
