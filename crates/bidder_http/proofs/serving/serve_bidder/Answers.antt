-- The bidder is lent while the connection is served, and is then what it was left as.
use Rattle.std.proofs.Common.{rules}
use Rattle.bidder_http.proofs.Served.{served_end}
use Rattle.bidder_http.proofs.serving.serve_bidder.Goals as goal
use Rattle.http_service.specs.declared.limits.TheConstants.{REQUEST_LIMIT}

pub returns-clause-ends : goal.returns-clause-ends
returns-clause-ends g c =
    served_end REQUEST_LIMIT (g.S.Source.tape c.args.source.now) (g.S.Source.tape c.serve_messages.new.source) (g.K.Sink.held c.args.sink.now) (g.K.Sink.held c.serve_messages.new.sink) _ c.serve_messages.new.service _ c.serve_messages.result (search rules) c.serve_messages.ensures.ends
