-- The start, and what is asked then.
use Rattle.adx_http.proofs.Asked.{asked_whole}
use Rattle.adx_http.proofs.asking.ask.Goals as goal

pub returns-clause-talk : goal.returns-clause-talk
returns-clause-talk g c =
    asked_whole (g.L.Link.exchanges c.args.link.now) (g.L.Link.exchanges c.start.new.self) (g.L.Link.exchanges c.put_whole.new.link)
    c.args.host.now c.args.port c.args.request.now c.put_whole.result c.in_ok-start.ensures.begins c.put_whole.ensures.asks
