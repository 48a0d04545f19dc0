-- What a request's head and body give is what all bytes give.
use Rattle.std.proofs.Common.{ap, Err}
use Rattle.http_connection.proofs.Told.{advances, advances_both}
use Rattle.http_connection.proofs.Requests.{request_carried, no_head}
use Rattle.http_connection.proofs.request.advance_by_lines.Goals as goal

pub returns-in-Ok-Some-clause-gives : goal.returns-in-Ok-Some-clause-gives
returns-in-Ok-Some-clause-gives g c = request_carried c.args.limit c.args.buffer.now c.read_head.new.buffer c.request_at.new.buffer _ _ _ c.request_at.result c.in-Ok-Some.ensures.takes c.request_at.ensures.gives

pub returns-in-Ok-Some-clause-advances : goal.returns-in-Ok-Some-clause-advances
returns-in-Ok-Some-clause-advances g c = advances_both _ _ _ (advances c.args.buffer.now c.read_head.new.buffer _ _ c.in-Ok-Some.ensures.takes) c.request_at.ensures.advances

pub returns-in-Err-clause-gives : goal.returns-in-Err-clause-gives
returns-in-Err-clause-gives g c = no_head c.args.limit c.args.buffer.now c.read_head.new.buffer _ _ c.in-Err.fault c.in-Err.ensures.takes c.in-Err.ensures.gives (λ e. c.in-Err.ensures.cut (ap Err e))
