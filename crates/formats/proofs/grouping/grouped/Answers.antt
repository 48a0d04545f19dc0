use Rattle.std.proofs.Common.{Some, List, ℕ, ◌^◌, ◌∙◌, ap, sym, arith}
use Rattle.formats.specs.Numbers.{groups_below}
use Rattle.formats.proofs.SevenBits.{last_group}
use Rattle.formats.proofs.grouping.grouped.Goals as goal

pub returns-then-first-lt128 : goal.returns-then-first-lt128
returns-then-first-lt128 c =
    ap (λ (l : List ℕ). groups_below 10 (2 ^ 64) l) c.in-Some.ensures.cases.0
    ∙ last_group 10 c.in-Some.first.now (2 ^ 64) c.in-Some.rest.now (omega arith) c.if-first-lt128.true (omega (arith, c.if-first-lt128.true))
    ∙ ap (λ (n : ℕ). Some (n, c.in-Some.rest.now)) (sym c.from.ensures)
