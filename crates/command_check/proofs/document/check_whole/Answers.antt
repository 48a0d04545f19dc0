-- The document was judged, or its first fault told.
use Rattle.std.proofs.lemmas.Result.{IfOk-weaker}
use Rattle.std.proofs.Common.{string_bytes}
use Rattle.adx_io.specs.declared.rest.Rest.{Rest}
use Rattle.command_check.specs.Checks.{IsChecked}
use Rattle.command_check.specs.Readings.{IsRefused}
use Rattle.command_check.proofs.Judged.{refused_whole}
use Rattle.command_check.proofs.document.check_whole.Goals as goal

pub returns-in-Ok : goal.returns-in-Ok
returns-in-Ok c = IfOk-weaker c.accepted.result _ (IsChecked Rest.Whole c.args.document.now (string_bytes c.accepted.new.out)) (λ checked says. says c.args.document.now c.in-Ok.ensures) c.accepted.ensures

pub returns-in-Err-Fault : goal.returns-in-Err-Fault
returns-in-Err-Fault c =
    IfOk-weaker c.refuse.result (IsRefused c.in-Err-Fault.fault (string_bytes c.refuse.new.out)) (IsChecked Rest.Whole c.args.document.now (string_bytes c.refuse.new.out))
    (λ checked refused. refused_whole c.args.document.now (string_bytes c.refuse.new.out) c.in-Err-Fault.fault checked (rw c.in-Err-Fault.field-0-is at c.in-Err-Fault.ensures) refused) c.refuse.ensures
