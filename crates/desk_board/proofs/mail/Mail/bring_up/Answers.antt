use Rattle.std.proofs.Common.{Ok, Err, OnErr, sym, subst}
use Rattle.desk_board.proofs.Rooms.{brings_up}
use Rattle.desk_board.proofs.mail.Mail.bring_up.Goals as goal

pub returns-in-Ok-pumped : goal.returns-in-Ok-pumped
returns-in-Ok-pumped g c = λ terms history link day h.
    brings_up g.L.Link history c.args.entries.now link c.args.self.now (record { outbox = c.pump-pumped.new.self; link = c.pump-pumped.new.link }) c.follow-followed.new.self
    c.follow-followed.result c.pump-pumped.result (Ok tt)
    (c.follow-followed.ensures terms history h.followed day) c.pump-pumped.ensures
    (subst (λ r. OnErr r ⊥) (sym c.in-Ok.is) tt, subst (λ r. OnErr r ⊥) (sym c.in-Ok-pumped.is) tt) h

pub returns-in-Err-pumped : goal.returns-in-Err-pumped
returns-in-Err-pumped g c = λ terms history link day h.
    brings_up g.L.Link history c.args.entries.now link c.args.self.now (record { outbox = c.pump-pumped.new.self; link = c.pump-pumped.new.link }) c.follow-followed.new.self
    c.follow-followed.result c.pump-pumped.result (Err c.in-Err-pumped.wanting)
    (c.follow-followed.ensures terms history h.followed day) c.pump-pumped.ensures tt h

pub returns-in-Err : goal.returns-in-Err
returns-in-Err g c = λ terms history link day h.
    brings_up g.L.Link history c.args.entries.now link c.args.self.now (record { outbox = c.pump-pumped.new.self; link = c.pump-pumped.new.link }) c.follow-followed.new.self
    c.follow-followed.result c.pump-pumped.result (Err c.in-Err.wanting)
    (c.follow-followed.ensures terms history h.followed day) c.pump-pumped.ensures tt h
