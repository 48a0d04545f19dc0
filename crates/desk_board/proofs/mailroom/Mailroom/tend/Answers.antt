use Rattle.std.proofs.Common.{ℕ, ◌≤◌, List, drop, length, Ok, Err, OnErr, sym, ap, ◌∙◌, subst}
use Rattle.outbox.specs.declared.post.Post.{Post}
use Rattle.shared_desk.specs.Callers.{DeskPass}
use Rattle.desk_board.specs.Rooms.{IsTended}
use Rattle.desk_board.specs.declared.mail.Mail.{Mail}
use Rattle.desk_board.specs.declared.mailroom.TheConstants.{PIECE}
use Rattle.desk_board.proofs.Rooms.{is_tended, looked, not_tended, tended_still, told_else}
use Rattle.desk_board.proofs.mailroom.Mailroom.tend.Goals as goal

pub invariant_of-self : goal.invariant_of-self
invariant_of-self g c =
    let s = c.self.inside in let p = c.copy_since.new.pass in let first = g.J.MailNames.first in let link = g.J.MailNames.link in
    tended_still g.L.Link c.args.desk.now.fixed first link c.as_slice.result.now c.piece-piece.result.first c.piece-piece.result.most s.mail c.tend.new.self p c.tend.result
    (c.as_slice.ensures.value ∙ (c.in-Ok.ensures.copies ∙ ap (λ (n : ℕ). drop n p.seen) c.followed-followed.ensures)) c.recall.ensures.right (λ terms history link day h. (c.tend.ensures terms history link day h).tends)
    (looked g.L.Link c.args.desk.now.fixed first link s.mail s.pass p c.copy_since.ensures.turn c.self.invariant)

pub invariant_of-self-in-Err-tend : goal.invariant_of-self-in-Err-tend
invariant_of-self-in-Err-tend g c =
    let s = c.self.inside in let p = c.copy_since.new.pass in let first = g.J.MailNames.first in let link = g.J.MailNames.link in
    tended_still g.L.Link c.args.desk.now.fixed first link c.as_slice.result.now c.piece-piece.result.first c.piece-piece.result.most s.mail c.tend.new.self p c.tend.result
    (c.as_slice.ensures.value ∙ (c.in-Ok.ensures.copies ∙ ap (λ (n : ℕ). drop n p.seen) c.followed-followed.ensures)) c.recall.ensures.right (λ terms history link day h. (c.tend.ensures terms history link day h).tends)
    (looked g.L.Link c.args.desk.now.fixed first link s.mail s.pass p c.copy_since.ensures.turn c.self.invariant)

pub returns-in-Ok-tend-clause-tended : goal.returns-in-Ok-tend-clause-tended
returns-in-Ok-tend-clause-tended g c =
    let s = c.self.inside in let p = c.copy_since.new.pass in let first = g.J.MailNames.first in let link = g.J.MailNames.link in
    subst (λ (m : Mail g.row.L.Denot × DeskPass). IsTended g.L.Link link p.seen m.0 c.tend.new.self (Ok c.may_go_on.result)) c.self.view_is
    (told_else g.L.Link link p.seen s.mail c.tend.new.self c.tend.result (Ok c.may_go_on.result) (subst (λ r. OnErr r ⊥) (sym c.in-Ok-tend.is) tt)
    (is_tended g.L.Link c.args.desk.now.fixed first link c.as_slice.result.now c.piece-piece.result.first c.piece-piece.result.most s.mail c.tend.new.self p c.tend.result
    (c.as_slice.ensures.value ∙ (c.in-Ok.ensures.copies ∙ ap (λ (n : ℕ). drop n p.seen) c.followed-followed.ensures)) c.recall.ensures.right (λ terms history link day h. (c.tend.ensures terms history link day h).tends)
    (λ short. c.piece-piece.ensures (subst (λ (ps : List Post). length ps ≤ PIECE) (sym c.pending-pending.ensures) short))
    (looked g.L.Link c.args.desk.now.fixed first link s.mail s.pass p c.copy_since.ensures.turn c.self.invariant)))

pub returns-in-Ok-clause-tended : goal.returns-in-Ok-clause-tended
returns-in-Ok-clause-tended g c =
    let s = c.self.inside in let p = c.copy_since.new.pass in let first = g.J.MailNames.first in let link = g.J.MailNames.link in
    subst (λ (m : Mail g.row.L.Denot × DeskPass). IsTended g.L.Link link p.seen m.0 c.tend.new.self (Err c.in-Err-tend.wanting)) c.self.view_is
    (told_else g.L.Link link p.seen s.mail c.tend.new.self c.tend.result (Err c.in-Err-tend.wanting) tt
    (is_tended g.L.Link c.args.desk.now.fixed first link c.as_slice.result.now c.piece-piece.result.first c.piece-piece.result.most s.mail c.tend.new.self p c.tend.result
    (c.as_slice.ensures.value ∙ (c.in-Ok.ensures.copies ∙ ap (λ (n : ℕ). drop n p.seen) c.followed-followed.ensures)) c.recall.ensures.right (λ terms history link day h. (c.tend.ensures terms history link day h).tends)
    (λ short. c.piece-piece.ensures (subst (λ (ps : List Post). length ps ≤ PIECE) (sym c.pending-pending.ensures) short))
    (looked g.L.Link c.args.desk.now.fixed first link s.mail s.pass p c.copy_since.ensures.turn c.self.invariant)))

pub returns-clause-tended : goal.returns-clause-tended
returns-clause-tended g c =
    let s = c.self.inside in let p = c.copy_since.new.pass in let first = g.J.MailNames.first in let link = g.J.MailNames.link in
    subst (λ (m : Mail g.row.L.Denot × DeskPass). IsTended g.L.Link link p.seen m.0 s.mail (Err c.in-Err.wanting)) c.self.view_is
    (not_tended g.L.Link c.args.desk.now.fixed first link s.mail s.pass p c.in-Err.wanting c.copy_since.ensures.turn c.self.invariant)
