-- By the path, the method, and then the query.
use Rattle.std.proofs.Common.{None, Some, ap, ◌∙◌}
use Rattle.std.proofs.lemmas.Result.{IfOk-weaker}
use Rattle.adx_http.specs.Targets.{query_of}
use Rattle.http_connection.specs.Answers.{Shows}
use Rattle.http_connection.specs.Messages.{Request}
use Rattle.exchange_messages.proofs.Wanting.{named_of, no_method, no_path, served, served_of}
use Rattle.exchange_messages.specs.Wants.{Wants}
use Rattle.exchange_messages.proofs.wanted.wanted_by.Goals as goal

pub returns-in-None : goal.returns-in-None
returns-in-None c m shows = no_path m (named_of m _ _ None c.in-None.ensures c.read_target-target.ensures.path shows.target)

pub returns-then-not-is_served : goal.returns-then-not-is_served
returns-then-not-is_served c m shows =
    let p = c.in-Some.path in
    no_method m p (named_of m _ _ (Some p) c.in-Some.ensures c.read_target-target.ensures.path shows.target)
    (served_of m p c.args.message.now.verb c.is_served.result _ c.is_served.ensures shows.verb c.if-not-is_served.true)

pub returns-else-not-is_served : goal.returns-else-not-is_served
returns-else-not-is_served c =
    let p = c.in-Some.path in
    IfOk-weaker _ _ (λ w. (m : Request) → Shows c.args.message.now m → Wants m w)
    (λ w so m shows. served m p _ w (c.read_target-target.ensures.query ∙ ap query_of shows.target) (named_of m _ _ (Some p) c.in-Some.ensures c.read_target-target.ensures.path shows.target)
    (served_of m p c.args.message.now.verb c.is_served.result _ c.is_served.ensures shows.verb c.if-not-is_served.false) so)
    c.wanted_of.ensures
