-- The table, in an empty text.
use Rattle.std.proofs.Common.{ap₂, refl}
use Rattle.exchange_messages.proofs.Requested.{floor_on}
use Rattle.exchange_messages.specs.Courses.{reply_of}
use Rattle.exchange_messages.proofs.floor.Floor.show_books.Goals as goal

pub returns-clause-looks : goal.returns-clause-looks
returns-clause-looks g c = let look = c.in_ok-push_books.ensures.looks in (look.0, look.1, ap₂ reply_of c.plain.ensures look.2)

pub returns-clause-floor : goal.returns-clause-floor
returns-clause-floor g c = let look = c.push_books.ensures.looks in floor_on g.Y.DayDesk g.met.Y.DayDesk.same c.args.self.now _ _ refl c.requires.floor look.1 c.requires.floor.lanes_are
