use Rattle.std.proofs.Common.{◌≡◌, arith}
use Rattle.day_rules.specs.DayMeters.{steps_of}
use Rattle.desk_board.proofs.Meeting.{if_done, met_faults}
use Rattle.meter_board.specs.Words.{published}
use Rattle.desk_board.proofs.Boards.{met_again, own_later}
use Rattle.desk_board.proofs.shared_board.publish.Goals as goal

pub returns-clause-published : goal.returns-clause-published
returns-clause-published g c =
    let shown = published c.publish.new.self.board in
    if_done (shown ≡ steps_of c.meet.new.b.seen) c.meet.result
    (met_again c.publish.new.self.pass c.publish.new.pass c.meet.new.b shown c.in_ok-publish.ensures.published c.in_ok-publish.ensures.met c.meet.ensures.b)

pub returns-clause-own_later : goal.returns-clause-own_later
returns-clause-own_later g c =
    own_later c.args.board.now.pass c.publish.new.self.pass c.publish.new.pass c.meet.new.a c.publish.ensures.later c.meet.ensures.one c.meet.ensures.a

pub returns-clause-faults : goal.returns-clause-faults
returns-clause-faults g c =
    let more = met_faults c.publish.new.pass c.publish.new.self.pass c.meet.new.b c.meet.ensures.b in
    omega (arith, c.publish.ensures.pass_faults, more)
