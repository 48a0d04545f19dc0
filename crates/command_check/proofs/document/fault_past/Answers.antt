-- A document, or the first fault of the part.
use Rattle.std.proofs.Common.{inl, inr}
use Rattle.command_check.proofs.document.fault_past.Goals as goal

pub returns-in-Ok : goal.returns-in-Ok
returns-in-Ok c = inl (c.in-Ok.parts.rec, c.in-Ok.parts.cert, c.in-Ok.ensures, c.too_long.ensures)

pub returns-in-Err-Fault : goal.returns-in-Err-Fault
returns-in-Err-Fault c = inr (c.in-Err-Fault.fault, rw c.in-Err-Fault.field-0-is at c.in-Err-Fault.ensures, c.past_limit.ensures)
