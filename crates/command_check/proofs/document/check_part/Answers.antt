-- The part was a document, or its first fault is told.
use Rattle.std.proofs.Common.{string_bytes}
use Rattle.std.proofs.lemmas.Result.{IfOk-weaker}
use Rattle.adx_io.specs.declared.rest.Rest.{Rest}
use Rattle.command_check.specs.Checks.{IsChecked}
use Rattle.command_check.specs.Readings.{IsRefused}
use Rattle.command_check.proofs.Judged.{refused_past}
use Rattle.command_check.proofs.document.check_part.Goals as goal

pub returns : goal.returns
returns c =
    IfOk-weaker c.refuse.result (IsRefused c.in_ok-fault.fault (string_bytes c.refuse.new.out)) (IsChecked Rest.PastLimit c.args.part.now (string_bytes c.refuse.new.out))
    (λ checked refused. refused_past c.args.part.now (string_bytes c.refuse.new.out) c.in_ok-fault.fault checked c.in_ok-fault.ensures refused) c.refuse.ensures
