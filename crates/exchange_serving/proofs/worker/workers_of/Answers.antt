use Rattle.std.proofs.Common.{◌≡◌, Some, arith, length, sym}
use Rattle.std.proofs.lemmas.Grind.{common_steps}
use Rattle.std.proofs.lemmas.List.Elements.{All-pop}
use Rattle.exchange_messages.specs.Floors.{IsMomentOf}
use Rattle.meter_board.specs.Words.{list_read, seen}
use Rattle.exchange_serving.proofs.Workers.{popped, popped_lanes, popped_own}
use Rattle.exchange_serving.proofs.worker.workers_of.Goals as goal

pub invariant_of-push : goal.invariant_of-push
invariant_of-push g c =
    let reader = c.in-Some-pop.reader in let before = c.lists.lists.items in let left = c.pop.new.self.items in (
      record {
        of = c.requires.of;
        opened = c.requires.opened;
        roster_is = c.requires.roster;
        moment_is = sym c.requires.clock;
        named = (All-pop (λ r. list_read r ≡ g.J.DayNames.book) c.lists.readers.items c.pop-in-Some.new.self.items (Some reader) c.in-Some-pop.ensures.items c.lists.invariant.2).1;
        own = popped_own g.L.Link (IsMomentOf g.J.DayNames.moment) c.args.roster.now g.J.DayNames.workers g.J.DayNames.first.seen (length (seen reader)) before left c.in-Some.lanes c.in-Some.ensures.items c.lists.invariant.0 c.lists.invariant.1;
      },
      c.requires.ready,
    )

pub lists-preserved : goal.lists-preserved
lists-preserved g c =
    let reader = c.in-Some-pop.reader in let before = c.lists.lists.items in let left = c.pop.new.self.items in (
      popped g.L.Link (IsMomentOf g.J.DayNames.moment) c.args.roster.now g.J.DayNames.workers before left (Some c.in-Some.lanes) c.in-Some.ensures.items c.lists.invariant.0,
      (popped_lanes g.L.Link (IsMomentOf g.J.DayNames.moment) c.args.roster.now g.J.DayNames.workers before left c.in-Some.lanes c.in-Some.ensures.items c.lists.invariant.1).0,
      (All-pop (λ r. list_read r ≡ g.J.DayNames.book) c.lists.readers.items c.pop-in-Some.new.self.items (Some reader) c.in-Some-pop.ensures.items c.lists.invariant.2).0,
      grind (arith, common_steps, c.lists.invariant.3, c.in-Some.ensures.items),
    )
