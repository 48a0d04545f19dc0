use Rattle.std.proofs.Common.{◌++◌, List}
use Rattle.day_rules.specs.declared.entry.Entry.{Entry}
use Rattle.day_rules.specs.DayState.{IsDay}
use Rattle.day_rules.specs.Terms.{Terms}
use Rattle.outbox.specs.Following.{HasFollowed}
use Rattle.outbox.proofs.Followed.{Stands}
use Rattle.outbox.proofs.outbox.Outbox.follow.Given as goal

abbrev pub invariant-loop-entry : goal.invariant-loop-entry
invariant-loop-entry l =
    (terms : Terms) (history : List Entry) → HasFollowed history l.fn.self → IsDay terms (history ++ l.entries) → Stands history l.entries l.entry-index l.fn.self l.self
