-- Private, cited by the rows of a book alone: where the next slab begins, so that a charge is weighed
-- without a division. This project's own.
use Rattle.std.specs.Prelude.{ℕ, suc, ◌+◌, ◌*◌, ◌/◌}

-- the least committed money of the slab after that one: the least c with slab + 1 ≤ 100 c / budget
abbrev pub next_threshold : ℕ → ℕ → ℕ
next_threshold slab budget = (suc slab * budget + 99) / 100
