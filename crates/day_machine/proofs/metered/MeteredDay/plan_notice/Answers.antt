-- There is room for a notice.
use Rattle.std.proofs.Common.{sym, subst}
use Rattle.std.specs.Prelude.{IfSome, Option}
use Rattle.day_rules.specs.declared.entry.Entry.{Entry}
use Rattle.day_rules.specs.DayState.{HasRoomFor}
use Rattle.day_machine.proofs.MetersKept.{notice_room}
use Rattle.day_machine.proofs.metered.MeteredDay.plan_notice.Goals as goal

pub returns-clause-room : goal.returns-clause-room
returns-clause-room c =
    subst (λ (o : Option Entry). IfSome o (HasRoomFor c.args.self.now)) (sym c.plan_notice.ensures.entry)
    (notice_room c.args.self.now c.self.inside.day.history c.args.kind c.args.auction.now c.args.award)
