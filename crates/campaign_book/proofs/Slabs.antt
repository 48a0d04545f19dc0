-- What the discount table says by computation and by induction.
use Rattle.std.proofs.Common.{◌≡◌, ℕ, zero, suc, ◌+◌, ◌-◌, ◌*◌, ◌/◌, ◌<◌, ◌≤◌, refl, arith, map, get_or, List, ap, subst, ◌∙◌}
use Rattle.std.specs.List.{range_with_len}
use Rattle.std.proofs.lemmas.List.FromFn.{get_or-map-range_with_len}
use Rattle.campaign_book.specs.declared.table.TheConstants.{DISCOUNTS}
use Rattle.campaign_book.specs.Discount.{discount, decline, full_discount}

pub discount-zero : discount 0 ≡ full_discount
unfolding discount
discount-zero = refl

pub discount-suc : (slab : ℕ) → discount (suc slab) ≡ (101 * discount slab - decline + 99) / 100
unfolding discount
discount-suc slab = refl

pub covers : (slab : ℕ) → 101 * discount slab ≤ 100 * discount (suc slab) + decline
covers slab = omega (arith, discount-suc slab)

pub bounded : (slab : ℕ) → discount slab ≤ full_discount
bounded zero = omega (arith, discount-zero)
bounded (suc slab) = omega (arith, discount-suc slab, bounded slab)

pub never_rises : (slab : ℕ) → discount (suc slab) ≤ discount slab
never_rises slab = omega (arith, discount-suc slab, bounded slab)

discount_99 : 0 < discount 99
unfolding discount
discount_99 = omega arith

-- the discount of a slab below 100 is no less than that of 99
falls : (steps slab : ℕ) → discount (steps + slab) ≤ discount slab
falls zero slab = let e : 0 + slab ≡ slab = omega arith in let same : discount (0 + slab) ≡ discount slab = ap discount e in omega arith
falls (suc steps) slab =
    let e : suc steps + slab ≡ suc (steps + slab) = omega arith in
    let same : discount (suc steps + slab) ≡ discount (suc (steps + slab)) = ap discount e in
    omega (arith, never_rises (steps + slab), falls steps slab)

pub positive : (slab : ℕ) → slab < 100 → 0 < discount slab
positive slab below =
    let rest : 99 - slab + slab ≡ 99 = omega arith in
    let less : discount 99 ≤ discount slab = subst (λ (n : ℕ). discount n ≤ discount slab) rest (falls (99 - slab) slab) in
    omega (arith, discount_99)

pub used_up : discount 100 ≡ 0
unfolding discount
used_up = refl

pub table_is : DISCOUNTS ≡ map discount (range_with_len 0 101)
unfolding discount
table_is = refl

pub at_slab : (place slab : ℕ) → place ≡ slab → slab ≤ 100 → get_or DISCOUNTS place 0 ≡ discount slab
at_slab place slab same within =
    ap (λ (t : List ℕ). get_or t place 0) table_is
    ∙ (get_or-map-range_with_len discount 0 101 place place 0 (omega arith) (omega arith) ∙ ap discount same)

-- the slab after that one, as clauses write it
pub discount-next : (slab : ℕ) → discount (slab + 1) ≡ discount (suc slab)
discount-next slab = let e : slab + 1 ≡ suc slab = omega arith in ap discount e

pub covers_next : (slab : ℕ) → 101 * discount slab ≤ 100 * discount (slab + 1) + decline
covers_next slab = omega (arith, covers slab, discount-next slab)

pub never_rises_next : (slab : ℕ) → discount (slab + 1) ≤ discount slab
never_rises_next slab = omega (arith, never_rises slab, discount-next slab)
