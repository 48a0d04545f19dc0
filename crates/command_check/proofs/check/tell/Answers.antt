-- The line of an accepted certificate was written.
use Rattle.std.proofs.Common.{string_bytes}
use Rattle.command_check.proofs.Judged.{accepted_so}
use Rattle.command_check.proofs.check.tell.Goals as goal

pub returns-in-Ok-Accepted : goal.returns-in-Ok-Accepted
returns-in-Ok-Accepted c =
    accepted_so c.args.rest c.args.document.now (string_bytes c.check_document.new.out) (string_bytes c.push_verdict.new.out) c.in-Ok-Accepted.field-0-0 c.in-Ok-Accepted.bound
    (rw c.in-Ok-Accepted.field-0-is at c.in-Ok-Accepted.ensures) c.in_ok-push_verdict-in-Ok-Accepted.ensures
