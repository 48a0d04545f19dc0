use Rattle.exchange_serving.proofs.Begun.{followed_all, followed_link}
use Rattle.exchange_serving.proofs.beginning.mail_of.Goals as goal

pub returns-in-Ok-follow-clause-mail : goal.returns-in-Ok-follow-clause-mail
returns-in-Ok-follow-clause-mail g c =
    let desk = c.args.desk.now.desk in
    followed_all g.L.Link desk.terms.day desk.history c.entries_since.result.now c.args.post c.in-Ok.mail c.follow.new.self c.follow.result c.entries_since.ensures c.entries.ensures.legal c.in-Ok.ensures.first c.in-Ok-follow.is c.follow.ensures

pub returns-in-Ok-follow-clause-link : goal.returns-in-Ok-follow-clause-link
returns-in-Ok-follow-clause-link g c =
    let desk = c.args.desk.now.desk in
    followed_link g.L.Link desk.terms.day desk.history c.entries_since.result.now c.args.post c.in-Ok.mail c.follow.new.self c.follow.result c.entries_since.ensures c.entries.ensures.legal c.in-Ok.ensures.first c.in-Ok.ensures.same c.follow.ensures

pub returns-in-Err-follow-clause-back : goal.returns-in-Err-follow-clause-back
returns-in-Err-follow-clause-back g c =
    let desk = c.args.desk.now.desk in
    followed_link g.L.Link desk.terms.day desk.history c.entries_since.result.now c.args.post c.in-Ok.mail c.follow.new.self c.follow.result c.entries_since.ensures c.entries.ensures.legal c.in-Ok.ensures.first c.in-Ok.ensures.same c.follow.ensures
