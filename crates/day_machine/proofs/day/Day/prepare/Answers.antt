use Rattle.day_machine.proofs.DayKept.{other_room}
use Rattle.day_machine.proofs.day.Day.prepare.Goals as goal

pub returns-in-Win-clause-room : goal.returns-in-Win-clause-room
returns-in-Win-clause-room c =
    other_room c.args.self.now c.args.entry.now c.in-Win.is
