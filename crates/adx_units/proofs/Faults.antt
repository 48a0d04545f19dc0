-- The first fault that holds: a chain of tests, and what an amount says of each.
use Rattle.std.proofs.Common.{◌≡◌, ℕ, ◌+◌, ◌*◌, ◌/◌, ◌%◌, ◌^◌, ◌<◌, ◌≤◌, Bool, true, false, not, cond, ◌&&◌, min, eqb, ltb, List, length, sym, ap, refl, ◌∙◌, arith, lt-ltb}
use Rattle.std.proofs.Math.Nat.{one-le-pow}
use Rattle.std.proofs.lemmas.Bool.{ltb-false}
use Rattle.adx_units.specs.Number.{numerator, denominator, fraction_digits, lowered}
use Rattle.adx_units.specs.Money.{floor_units}
use Rattle.adx_units.specs.declared.scale.TheConstants.{CAP}
use Rattle.adx_units.proofs.Amounts.{Counts, zero_is, up_is}

pub second_holds : {A : Type 0} (p q : Bool) (v w x : A) → p ≡ true → q ≡ true → w ≡ cond (not p) v (cond q w x)
second_holds p q v w x h k = rw (h, k) refl

pub third_holds : {A : Type 0} (p q r : Bool) (v w x y : A) → p ≡ true → q ≡ false → r ≡ true → x ≡ cond (not p) v (cond q w (cond r x y))
third_holds p q r v w x y h k l = rw (h, k, l) refl

pub fourth_holds : {A : Type 0} (p q r s : Bool) (v w x y z : A) → p ≡ true → q ≡ false → r ≡ false → s ≡ true → y ≡ cond (not p) v (cond q w (cond r x (cond s y z)))
fourth_holds p q r s v w x y z h k l m = rw (h, k, l, m) refl

pub three_fail : {A : Type 0} (p q r : Bool) (v w x y z : A) → p ≡ true → q ≡ false → r ≡ false → y ≡ z → y ≡ cond (not p) v (cond q w (cond r x z))
three_fail p q r v w x y z h k l e = rw (h, k, l) e

pub four_fail : {A : Type 0} (p q r s : Bool) (u v w x y z : A) → p ≡ true → q ≡ false → r ≡ false → s ≡ false → y ≡ z → y ≡ cond (not p) u (cond q v (cond r w (cond s x z)))
four_fail p q r s u v w x y z h k l m e = rw (h, k, l, m) e

-- an amount of a text's value
pub counted : (t : List ℕ) (m u : ℕ) (rest : Bool) → u ≡ min (numerator t * m / denominator t) CAP → rest ≡ not (eqb (numerator t * m % denominator t) 0) → Counts (numerator t * m) (denominator t) u CAP rest
counted t m u rest units part = record { positive = one-le-pow (length (fraction_digits t) + lowered t) 10 (omega arith); units = units; part = part }

pub zero_numerator : (t : List ℕ) (m u : ℕ) (rest : Bool) → 0 < m → Counts (numerator t * m) (denominator t) u CAP rest → (eqb u 0 && not rest) ≡ eqb (numerator t) 0
zero_numerator t m u rest some counts = zero_is (numerator t) m (numerator t * m) (denominator t) u CAP rest some (omega arith) refl counts

-- below the cap the units are the quotient
pub exact_units : (n d u limit : ℕ) (rest : Bool) → limit < CAP → Counts n d u CAP rest → (ltb limit u ≡ false) → u ≡ n / d
exact_units n d u limit rest below counts h =
    let units = counts.units in
    let small = ltb-false limit u h in
    omega arith

pub floor_counts : (t : List ℕ) (u : ℕ) (rest : Bool) → Counts (numerator t * 10 ^ 6) (denominator t) u CAP rest → floor_units t ≡ numerator t * 10 ^ 6 / denominator t + cond {A = ℕ} rest 1 0
floor_counts t u rest counts = up_is (numerator t * 10 ^ 6) (denominator t) counts.positive ∙ ap (λ b. numerator t * 10 ^ 6 / denominator t + cond {A = ℕ} b 1 0) (sym counts.part)

pub floor_passes : (t : List ℕ) (u limit up : ℕ) (rest : Bool) → limit < CAP → up ≡ u + cond {A = ℕ} rest 1 0 → Counts (numerator t * 10 ^ 6) (denominator t) u CAP rest → limit < up → ltb limit (floor_units t) ≡ true
floor_passes t u limit up rest below at counts more =
    let floor = floor_counts t u rest counts in
    let units = counts.units in
    lt-ltb limit (floor_units t) (omega arith)

pub floor_exact : (t : List ℕ) (u limit up : ℕ) (rest : Bool) → limit < CAP → up ≡ u + cond {A = ℕ} rest 1 0 → Counts (numerator t * 10 ^ 6) (denominator t) u CAP rest → up ≤ limit → up ≡ floor_units t
floor_exact t u limit up rest below at counts few =
    let floor = floor_counts t u rest counts in
    let units = counts.units in
    omega arith
