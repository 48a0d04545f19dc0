-- Amounts that are counted up to a cap.
use Rattle.std.proofs.Common.{◌≡◌, ℕ, ◌+◌, ◌-◌, ◌*◌, ◌^◌, ◌<◌, ◌≤◌, inl, inr, min, List, [], ◌∷◌, ◌++◌, sym, ap, refl, ◌∙◌, arith, pow-suc, mul-le-mul_right, mul_assoc, mul_comm, zero-mul, eq-zero-or-pos, add-one}
use Rattle.std.proofs.Math.Nat.{pow-le-pow_right, le-mul_of_pos_right}
use Rattle.std.proofs.lemmas.List.Sums.{fold-append}
use Rattle.std.proofs.lemmas.Bool.{cases_lt}
use Rattle.adx_units.specs.Number.{digits_value, digits_after}

pub capped_more : (v a d cap : ℕ) → v ≡ min a cap → min (10 * v + d) cap ≡ min (10 * a + d) cap
capped_more v a d cap e = omega arith

-- digits after a capped number
pub capped_after : (a : ℕ) (ds : List ℕ) (cap : ℕ) → min (digits_after (min a cap) ds) cap ≡ min (digits_after a ds) cap
capped_after a [] cap = omega arith
capped_after a (d ∷ ds) cap =
    let here = capped_after (10 * min a cap + (d - 48)) ds cap in
    let there = capped_after (10 * a + (d - 48)) ds cap in
    let same : min (10 * min a cap + (d - 48)) cap ≡ min (10 * a + (d - 48)) cap = capped_more (min a cap) a (d - 48) cap refl in
    sym here ∙ ap (λ n. min (digits_after n ds) cap) same ∙ there

pub capped_parts : (v : ℕ) (first second : List ℕ) (cap : ℕ) → v ≡ min (digits_value first) cap → min (digits_after v second) cap ≡ min (digits_value (first ++ second)) cap
capped_parts v first second cap e =
    ap (λ n. min (digits_after n second) cap) e ∙ capped_after (digits_value first) second cap ∙ ap (λ n. min n cap) (sym (fold-append (λ m b. 10 * m + (b - 48)) 0 first second))

pub capped_times : (v a p cap : ℕ) → v ≡ min a cap → 0 < p → min (v * p) cap ≡ min (a * p) cap
capped_times v a p cap e pos =
    elim (cases_lt a cap) [
      | inl below ↦ (let same : v ≡ a = omega arith in ap (λ n. min (n * p) cap) same)
      | inr above ↦
          (let full : v ≡ cap = omega arith in
          let one : cap ≤ cap * p = le-mul_of_pos_right cap pos in
          let two : cap * p ≤ a * p = mul-le-mul_right p above in
          ap (λ n. min (n * p) cap) full ∙ omega arith)
    ]

-- one more zero
pub capped_zero : (v a i cap : ℕ) → v ≡ min (a * 10 ^ i) cap → min (10 * v) cap ≡ min (a * 10 ^ (i + 1)) cap
capped_zero v a i cap e =
    let more : 10 ^ (i + 1) ≡ 10 ^ i * 10 = rw add-one (pow-suc 10 i) in
    let times : a * 10 ^ (i + 1) ≡ 10 * (a * 10 ^ i) = ap (λ p. a * p) more ∙ sym (mul_assoc a (10 ^ i) 10) ∙ mul_comm (a * 10 ^ i) 10 in
    omega arith

-- k zeros after a digit other than 0 reach the cap
pub enough_zeros : (v k y z cap : ℕ) → cap ≤ 10 ^ k → k ≤ y → k ≤ z → min (v * 10 ^ y) cap ≡ min (v * 10 ^ z) cap
enough_zeros v k y z cap reach one two =
    elim (eq-zero-or-pos v) [
      | inl none ↦ ap (λ n. min n cap) (ap (λ n. n * 10 ^ y) none ∙ zero-mul (10 ^ y) ∙ sym (zero-mul (10 ^ z)) ∙ ap (λ n. n * 10 ^ z) (sym none))
      | inr some ↦
          (let first : 10 ^ k ≤ 10 ^ y = pow-le-pow_right (omega arith) one in
          let second : 10 ^ k ≤ 10 ^ z = pow-le-pow_right (omega arith) two in
          let least : 10 ^ y ≤ 10 ^ y * v = le-mul_of_pos_right (10 ^ y) some in
          let most : 10 ^ z ≤ 10 ^ z * v = le-mul_of_pos_right (10 ^ z) some in
          omega arith)
    ]
