-- A history has one line.
use Rattle.command_close.proofs.OneGuarantee.{one_guarantee}
use Rattle.command_close.proofs.measuring.measure_journal.Goals as goal

pub returns-clause-one_line : goal.returns-clause-one_line
returns-clause-one_line g c = one_guarantee
