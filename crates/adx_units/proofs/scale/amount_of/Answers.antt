use Rattle.std.proofs.Common.{◌++◌, ◌∙◌, ap₂}
use Rattle.std.specs.List.{list_all}
use Rattle.adx_units.specs.Number.{is_digit}
use Rattle.adx_units.proofs.Parts.{number_digits}
use Rattle.adx_units.proofs.scale.amount_of.Goals as goal

pub shifted-requires-clause-digits : goal.shifted-requires-clause-digits
shifted-requires-clause-digits c =
    let parts = c.in_ok-numeral.ensures in
    ap₂ (λ a b. list_all is_digit (a ++ b)) parts.2 parts.3 ∙ number_digits c.args.text.now parts.0
