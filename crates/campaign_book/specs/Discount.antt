-- The discount table: this project's own whole numbers, after the discount 1 - e^(x-1) of Mehta,
-- Saberi, Vazirani and Vazirani, "AdWords and Generalized Online Matching", JACM 2007.
use Rattle.std.specs.Prelude.{ℕ, zero, suc, ◌+◌, ◌-◌, ◌*◌, ◌/◌}

-- the discount of an unused budget, of which the other discounts are parts
abbrev pub full_discount : ℕ
full_discount = 1000000000

-- what each slab takes off, times 100
abbrev pub decline : ℕ
decline = 1586575000

-- each slab's discount is the greater of 0 and (101 * the one before - decline) / 100 rounded up
unfoldable pub discount : ℕ → ℕ
discount zero = full_discount
discount (suc slab) = (101 * discount slab - decline + 99) / 100

-- the slab of committed money under a budget: the whole part of its hundredths
-- Example: 2,500,000 of 10,000,000 is slab 25; slab 1 has the discount 994,134,250.
abbrev pub slab_of : ℕ → ℕ → ℕ
slab_of committed budget = 100 * committed / budget
