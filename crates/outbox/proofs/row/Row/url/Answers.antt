use Rattle.std.proofs.Common.{◌≡◌, ℕ, List, subst}
use Rattle.std.specs.Result.{IfOk}
use Rattle.outbox.proofs.Shown.{row_expansion}
use Rattle.outbox.proofs.row.Row.url.Goals as goal

pub returns : goal.returns
returns c =
    subst (λ (u : List ℕ). IfOk c.expand_url.result (λ t. t ≡ u)) (row_expansion c.values.result c.args.self.now c.args.price c.args.loss c.args.template.now c.values.ensures) c.expand_url.ensures
