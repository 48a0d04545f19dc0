use Rattle.dual_cert.proofs.Documents.{only_given, only_refused}
use Rattle.dual_cert.proofs.read.read_cert.Goals as goal

pub returns-in-Ok-clause-only : goal.returns-in-Ok-clause-only
returns-in-Ok-clause-only c = only_given c.args.bytes.now c.read_rows.result c.read_rows.ensures.found c.read_rows.ensures.fault

pub returns-in-Err-clause-only : goal.returns-in-Err-clause-only
returns-in-Err-clause-only c = λ d. only_refused c.args.bytes.now d c.in-Err.fault c.in-Err.ensures
