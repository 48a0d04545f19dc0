use Rattle.std.proofs.Common.{Ok, Err, OnErr, sym, length, rules, subst}
use Rattle.desk_board.proofs.Rooms.{keeps_up}
use Rattle.desk_board.proofs.mail.Mail.keep_up.Goals as goal

pub returns-in-Ok-tried : goal.returns-in-Ok-tried
returns-in-Ok-tried g c = λ terms history link day h.
    keeps_up g.L.Link history c.args.entries.now link (length c.pending-place.result.now) (length c.pending-all.result.now) c.args.self.now c.follow-followed.new.self c.go_over-tried.new.self
    c.follow-followed.result c.go_over-tried.result (Ok tt) (search rules) (c.follow-followed.ensures terms history link day h) (search rules) c.go_over-tried.ensures
    (subst (λ r. OnErr r ⊥) (sym c.in-Ok.is) tt, subst (λ r. OnErr r ⊥) (sym c.in-Ok-tried.is) tt)

pub returns-in-Err-tried : goal.returns-in-Err-tried
returns-in-Err-tried g c = λ terms history link day h.
    keeps_up g.L.Link history c.args.entries.now link (length c.pending-place.result.now) (length c.pending-all.result.now) c.args.self.now c.follow-followed.new.self c.go_over-tried.new.self
    c.follow-followed.result c.go_over-tried.result (Err c.in-Err-tried.wanting) (search rules) (c.follow-followed.ensures terms history link day h) (search rules) c.go_over-tried.ensures tt

pub returns-in-Err : goal.returns-in-Err
returns-in-Err g c = λ terms history link day h.
    keeps_up g.L.Link history c.args.entries.now link (length c.pending-place.result.now) (length c.pending-all.result.now) c.args.self.now c.follow-followed.new.self c.go_over-tried.new.self
    c.follow-followed.result c.go_over-tried.result (Err c.in-Err.wanting) (search rules) (c.follow-followed.ensures terms history link day h) (search rules) c.go_over-tried.ensures tt
