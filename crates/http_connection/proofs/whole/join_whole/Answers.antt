-- A body that is whole is read without a fault.
use Rattle.std.proofs.Common.{Option, Result, Some, subst}
use Rattle.http_grammar.specs.declared.fault.HttpFault.{HttpFault}
use Rattle.http_connection.specs.Found.{RequestGives}
use Rattle.http_connection.specs.declared.conn.Found.{Found}
use Rattle.http_connection.proofs.Readies.{at_end, no_fault, whole_has}
use Rattle.http_connection.proofs.whole.join_whole.Goals as goal

pub unreachable-requires-in-Err : goal.unreachable-requires-in-Err
unreachable-requires-in-Err c =
    no_fault c.args.limit c.args.buffer.now c.in-Err.field-0 (whole_has c.args.limit c.args.buffer.now.pending c.args.whole c.requires.whole)
    (subst (λ (r : Result (Option Found) HttpFault). RequestGives c.args.limit c.args.buffer.now c.request_behind.new.buffer (Some at_end) (Some at_end) r) c.in-Err.is c.request_behind.ensures.gives)
