-- The reply is the one to the message that is shown.
use Rattle.std.proofs.Common.{not, refl}
use Rattle.adx_http.specs.Written.{Writes}
use Rattle.adx_io.specs.Streams.{Took}
use Rattle.http_service.specs.Connections.{TookFront}
use Rattle.http_service.specs.Replies.{answer_bytes}
use Rattle.http_service.proofs.Written.{front_of, took_reply}
use Rattle.exchange_http.proofs.Along.{on_err_by, on_ok_by}
use Rattle.exchange_http.proofs.others.gather_reply.Goals as goal

pub returns-clause-whole : goal.returns-clause-whole
returns-clause-whole g c =
    on_ok_by (Writes (g.O.Outlet.held c.args.outlet.now) (g.O.Outlet.held c.answer.new.self) (answer_bytes (not c.args.message.now.keep) c.asks_no_body.result c.args.answer c.args.body.now)) c.answer.result c.answer.ensures.written
    (λ done written m shows. took_reply Took (g.O.Outlet.held c.args.outlet.now) (g.O.Outlet.held c.answer.new.self) c.args.message.now m c.args.answer c.args.body.now c.args.body.now c.asks_no_body.result shows c.asks_no_body.ensures refl written)

pub returns-clause-front : goal.returns-clause-front
returns-clause-front g c =
    on_err_by (Writes (g.O.Outlet.held c.args.outlet.now) (g.O.Outlet.held c.answer.new.self) (answer_bytes (not c.args.message.now.keep) c.asks_no_body.result c.args.answer c.args.body.now)) c.answer.result c.answer.ensures.written
    (λ fault written m shows.
    took_reply TookFront (g.O.Outlet.held c.args.outlet.now) (g.O.Outlet.held c.answer.new.self) c.args.message.now m c.args.answer c.args.body.now c.args.body.now c.asks_no_body.result shows c.asks_no_body.ensures refl
    (front_of (g.O.Outlet.held c.args.outlet.now) (g.O.Outlet.held c.answer.new.self) _ written.0 written.2))
