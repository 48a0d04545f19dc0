use Rattle.std.proofs.Common.{◌≡◌, ℕ, List, ◌||◌, length}
use Rattle.adx_units.specs.Among.{is_among}
use Rattle.adx_units.proofs.name_set.NameSet.of.Given as goal

-- the names that were put in and those that are left are all
abbrev pub invariant-texts : goal.invariant-texts
invariant-texts l = (q : List ℕ) → (is_among l.left q || is_among l.set q) ≡ is_among l.fn.texts q

abbrev pub decreases-texts : goal.decreases-texts
decreases-texts l = length l.left
