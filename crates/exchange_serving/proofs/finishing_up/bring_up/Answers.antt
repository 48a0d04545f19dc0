use Rattle.std.proofs.Common.{ℕ, false, true, drop, ap, ◌∙◌}
use Rattle.exchange_serving.proofs.Finished.{brought_in}
use Rattle.exchange_serving.proofs.finishing_up.bring_up.Goals as goal

pub returns-in-Ok : goal.returns-in-Ok
returns-in-Ok g c = record {
  posts = λ history link front has.
      brought_in g.L.Link c.args.desk.now.desk.terms.day history c.args.desk.now.desk.history c.entries_since-entries.result.now link c.args.mail.now c.bring_up.new.self c.bring_up.result false
      front (c.entries_since-entries.ensures ∙ ap (λ (n : ℕ). drop n c.args.desk.now.desk.history) (c.followed-n.ensures ∙ has.followed.count)) (λ e. c.in-Ok.is) c.entries.ensures.legal has c.bring_up.ensures;
}

pub returns-in-Err : goal.returns-in-Err
returns-in-Err g c = record {
  posts = λ history link front has.
      brought_in g.L.Link c.args.desk.now.desk.terms.day history c.args.desk.now.desk.history c.entries_since-entries.result.now link c.args.mail.now c.bring_up.new.self c.bring_up.result true
      front (c.entries_since-entries.ensures ∙ ap (λ (n : ℕ). drop n c.args.desk.now.desk.history) (c.followed-n.ensures ∙ has.followed.count)) (λ e. absurd (cc e)) c.entries.ensures.legal has c.bring_up.ensures;
}
