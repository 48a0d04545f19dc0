-- What was asked, and what was answered after it.
use Rattle.adx_http.proofs.Whole.{asked_ok, failed_front, waits_ok, whole_front, whole_talk}
use Rattle.adx_http.proofs.exchanging.exchange.Goals as goal

pub returns-clause-talk : goal.returns-clause-talk
returns-clause-talk g c =
    let o = g.L.Link.exchanges c.args.link.now in
    let m = g.L.Link.exchanges c.ask.new.link in
    whole_talk c.args.host.now c.args.port c.args.request.now c.hear_answer.ensures.hears.bytes c.hear_answer.result o m (g.L.Link.exchanges c.hear_answer.new.link)
    (asked_ok c.args.host.now c.args.port c.args.request.now c.ask.result o m c.if-is_err.ensures.value c.ask.ensures.talk) c.hear_answer.ensures.hears.talk

pub returns-clause-front : goal.returns-clause-front
returns-clause-front g c =
    let o = g.L.Link.exchanges c.args.link.now in
    let m = g.L.Link.exchanges c.ask.new.link in
    whole_front c.args.host.now c.args.port c.args.request.now c.hear_answer.ensures.hears.bytes o m (g.L.Link.exchanges c.hear_answer.new.link)
    (g.L.Link.course c.args.link.now) (g.L.Link.course c.ask.new.link) (g.L.Link.course c.hear_answer.new.link)
    (asked_ok c.args.host.now c.args.port c.args.request.now c.ask.result o m c.if-is_err.ensures.value c.ask.ensures.talk) c.hear_answer.ensures.hears.talk
    (waits_ok c.ask.result (g.L.Link.course c.args.link.now) (g.L.Link.course c.ask.new.link) c.if-is_err.ensures.value c.ask.ensures.plan) c.hear_answer.ensures.hears.plan

pub returns-then-is_err-clause-front : goal.returns-then-is_err-clause-front
returns-then-is_err-clause-front g c =
    failed_front c.args.host.now c.args.port c.args.request.now c.ask.result (g.L.Link.exchanges c.args.link.now) (g.L.Link.exchanges c.ask.new.link) (g.L.Link.course c.args.link.now)
    c.if-is_err.ensures.value c.ask.ensures.talk
