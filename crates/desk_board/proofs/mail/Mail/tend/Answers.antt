use Rattle.std.proofs.Common.{OnErr, sym, subst}
use Rattle.desk_board.proofs.Rooms.{tends_none, tends_short, tends_told}
use Rattle.desk_board.proofs.mail.Mail.tend.Goals as goal

pub returns-in-Ok-keep_up : goal.returns-in-Ok-keep_up
returns-in-Ok-keep_up g c = λ terms history link day h.
    tends_told g.L.Link history c.args.entries.now link c.args.first c.args.most c.args.self.now c.go_over.new.self c.keep_up.new.self c.go_over.result c.keep_up.result c.in-Ok.report
    c.go_over.ensures c.in-Ok.is (subst (λ r. OnErr r ⊥) (sym c.in-Ok-keep_up.is) tt) h (c.keep_up.ensures terms history link day)

pub returns-in-Err-keep_up : goal.returns-in-Err-keep_up
returns-in-Err-keep_up g c = λ terms history link day h.
    tends_short g.L.Link history c.args.entries.now link c.args.first c.args.most c.args.self.now c.go_over.new.self c.keep_up.new.self c.go_over.result c.keep_up.result c.in-Err-keep_up.wanting
    c.go_over.ensures h (c.keep_up.ensures terms history link day)

pub returns-in-Err : goal.returns-in-Err
returns-in-Err g c = λ terms history link day h. record {
  tends = tends_none g.L.Link history c.args.entries.now link c.args.first c.args.most c.args.self.now c.go_over.new.self c.go_over.result c.in-Err.wanting c.go_over.ensures h;
  report = tt;
}
