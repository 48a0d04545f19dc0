use Rattle.desk_board.proofs.Rooms.{follows_up}
use Rattle.desk_board.proofs.mail.Mail.follow.Goals as goal

pub returns : goal.returns
returns g c = λ terms history link day h.
    follows_up g.L.Link history c.args.entries.now link c.args.self.now c.follow.new.self c.follow.result (c.follow.ensures terms history h.followed day) h
