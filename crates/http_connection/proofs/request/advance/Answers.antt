-- What the bytes that were taken give is what all bytes give.
use Rattle.std.proofs.Common.{inl}
use Rattle.http_connection.specs.Messages.{IsUnfinishedRequest}
use Rattle.http_connection.proofs.Told.{advances, advances_both, given}
use Rattle.http_connection.proofs.Requests.{request_carried}
use Rattle.http_connection.proofs.request.advance.Goals as goal

pub returns-in-Ok-true-clause-gives : goal.returns-in-Ok-true-clause-gives
returns-in-Ok-true-clause-gives g c = request_carried c.args.limit c.args.buffer.now c.some_pending.new.buffer c.advance_held.new.buffer _ _ _ c.advance_held.result c.in-Ok-true.ensures.takes c.advance_held.ensures.gives

pub returns-in-Ok-true-clause-advances : goal.returns-in-Ok-true-clause-advances
returns-in-Ok-true-clause-advances g c = advances_both _ _ _ (advances c.args.buffer.now c.some_pending.new.buffer _ _ c.in-Ok-true.ensures.takes) c.advance_held.ensures.advances

pub returns-in-Err-clause-gives : goal.returns-in-Err-clause-gives
returns-in-Err-clause-gives g c = given c.args.buffer.now c.some_pending.new.buffer _ _ (IsUnfinishedRequest c.args.limit) c.in-Err.ensures.takes (inl c.in-Err.ensures.unread)
