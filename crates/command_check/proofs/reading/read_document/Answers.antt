-- The certificate begins within the bytes.
use Rattle.std.proofs.Common.{drop}
use Rattle.command_check.proofs.LineNumbers.{start_within}
use Rattle.command_check.proofs.reading.read_document.Goals as goal

pub read_behind-requires-clause-within : goal.read_behind-requires-clause-within
read_behind-requires-clause-within c =
    start_within c.args.bytes.now c.in-Ok.rec c.in-Ok.start c.in-Ok.ensures.found (c.in-Ok.ensures.only c.in-Ok.rec (drop c.in-Ok.start c.args.bytes.now) c.in-Ok.ensures.found).1

pub returns-in-Err : goal.returns-in-Err
returns-in-Err c = c.without_record.ensures c.args.bytes.now c.in-Err.ensures.fault
