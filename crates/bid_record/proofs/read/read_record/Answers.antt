use Rattle.bid_record.proofs.ReadLines.{only_given, only_refused}
use Rattle.bid_record.proofs.read.read_record.Goals as goal

pub returns-in-Err-clause-only : goal.returns-in-Err-clause-only
returns-in-Err-clause-only c = λ r rest e. only_refused c.args.bytes.now r rest c.in-Err.fault c.in-Err.ensures r.sound e

pub returns-in-Ok-second_line-clause-only : goal.returns-in-Ok-second_line-clause-only
returns-in-Ok-second_line-clause-only c = only_given c.args.bytes.now c.read_rows.result c.read_rows.ensures.found c.read_rows.ensures.fault

pub returns-in-Err-second_line-clause-only : goal.returns-in-Err-second_line-clause-only
returns-in-Err-second_line-clause-only c = λ r rest e. only_refused c.args.bytes.now r rest c.in-Err-second_line.fault c.in-Err-second_line.ensures r.sound e
