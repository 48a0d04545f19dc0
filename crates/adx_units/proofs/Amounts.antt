-- What the whole units up to a cap, and whether a part is left, say of a quotient.
use Rattle.std.proofs.Common.{◌≡◌, ℕ, ◌+◌, ◌-◌, ◌*◌, ◌/◌, ◌%◌, ◌<◌, ◌≤◌, inl, inr, Bool, true, false, not, cond, ◌&&◌, ◌||◌, min, eqb, ltb, sym, ap, ap₂, ◌∙◌, arith, eq-eqb, ne_eqb, lt-ltb, le-ltb, zero-mul, eq-zero-or-pos, mod-lt, div-add-mod', mul-le-mul_right, le-mul_of_pos_right}
use Rattle.std.proofs.Math.Nat.{zero-mod, zero-div}
use Rattle.std.proofs.lemmas.Bool.{cases_order}
use Rattle.std.proofs.lemmas.Nat.{div-mul-add}

-- the numerator of the scaled value, its denominator, its units up to the cap, and whether a part is left
pub record Counts (n d u cap : ℕ) (rest : Bool) : Type 0 where
  pub positive : 0 < d
  pub units : u ≡ min (n / d) cap
  pub part : rest ≡ not (eqb (n % d) 0)

pub zero_is : (x m n d u cap : ℕ) (rest : Bool) → 0 < m → 0 < cap → n ≡ x * m → Counts n d u cap rest → (eqb u 0 && not rest) ≡ eqb x 0
zero_is x m n d u cap rest some room at counts =
    let positive = counts.positive in
    let units = counts.units in
    elim (eq-zero-or-pos x) [
      | inl none ↦
          (let nothing : n ≡ 0 = at ∙ ap (λ k. k * m) none ∙ zero-mul m in
          let whole : n / d ≡ 0 = ap (λ k. k / d) nothing ∙ zero-div d in
          let part : n % d ≡ 0 = ap (λ k. k % d) nothing ∙ zero-mod d in
          let first : eqb u 0 ≡ true = eq-eqb u 0 (omega arith) in
          let second : rest ≡ false = counts.part ∙ ap not (eq-eqb (n % d) 0 part) in
          ap₂ (λ a b. a && not b) first second ∙ sym (eq-eqb x 0 none))
      | inr more ↦
          (let larger : x ≤ x * m = le-mul_of_pos_right x some in
          let split : n / d * d + n % d ≡ n = div-add-mod' n d in
          let right : eqb x 0 ≡ false = ne_eqb x 0 (λ e. absurd (omega arith)) in
          elim (eq-zero-or-pos (n / d)) [
            | inl low ↦
                (let gone : n / d * d ≡ 0 = ap (λ k. k * d) low ∙ zero-mul d in
                let part : rest ≡ true = counts.part ∙ ap not (ne_eqb (n % d) 0 (λ e. absurd (omega arith))) in
                let first : eqb u 0 ≡ true = eq-eqb u 0 (omega arith) in
                ap₂ (λ a b. a && not b) first part ∙ sym right)
            | inr high ↦
                (let first : eqb u 0 ≡ false = ne_eqb u 0 (λ e. absurd (omega arith)) in
                ap (λ a. a && not rest) first ∙ sym right)
          ])
    ]

-- the quotient, rounded up
pub up_is : (n d : ℕ) → 0 < d → (n + (d - 1)) / d ≡ n / d + cond {A = ℕ} (not (eqb (n % d) 0)) 1 0
up_is n d positive =
    let split : n / d * d + n % d ≡ n = div-add-mod' n d in
    let small : n % d < d = mod-lt n positive in
    elim (eq-zero-or-pos (n % d)) [
      | inl none ↦
          (let test : cond {A = ℕ} (not (eqb (n % d) 0)) 1 0 ≡ 0 = ap (λ b. cond {A = ℕ} (not b) 1 0) (eq-eqb (n % d) 0 none) in
          let same : n + (d - 1) ≡ n / d * d + (d - 1) = omega arith in
          let answer : (n / d * d + (d - 1)) / d ≡ n / d = div-mul-add (n / d) d (d - 1) (omega arith) in
          ap (λ k. k / d) same ∙ answer ∙ omega arith)
      | inr some ↦
          (let test : cond {A = ℕ} (not (eqb (n % d) 0)) 1 0 ≡ 1 = ap (λ b. cond {A = ℕ} (not b) 1 0) (ne_eqb (n % d) 0 (λ e. absurd (omega arith))) in
          let same : n + (d - 1) ≡ (n / d + 1) * d + (n % d - 1) = omega arith in
          let answer : ((n / d + 1) * d + (n % d - 1)) / d ≡ n / d + 1 = div-mul-add (n / d + 1) d (n % d - 1) (omega arith) in
          ap (λ k. k / d) same ∙ answer ∙ omega arith)
    ]

-- the quotient, with its part, is above a limit below the cap
pub passes_is : (n d u cap limit : ℕ) (rest : Bool) → limit < cap → Counts n d u cap rest → (ltb limit u || (eqb u limit && rest)) ≡ ltb (limit * d) n
passes_is n d u cap limit rest below counts =
    let positive = counts.positive in
    let units = counts.units in
    let split : n / d * d + n % d ≡ n = div-add-mod' n d in
    let small : n % d < d = mod-lt n positive in
    elim (cases_order (n / d) limit) [
      | inl same ↦
          (let first : ltb limit u ≡ false = le-ltb limit u (omega arith) in
          let second : eqb u limit ≡ true = eq-eqb u limit (omega arith) in
          let line : n / d * d ≡ limit * d = ap (λ k. k * d) same in
          elim (eq-zero-or-pos (n % d)) [
            | inl none ↦
                (let part : rest ≡ false = counts.part ∙ ap not (eq-eqb (n % d) 0 none) in
                ap₂ (λ a b. a || (b && rest)) first second ∙ part ∙ sym (le-ltb (limit * d) n (omega arith)))
            | inr some ↦
                (let part : rest ≡ true = counts.part ∙ ap not (ne_eqb (n % d) 0 (λ e. absurd (omega arith))) in
                ap₂ (λ a b. a || (b && rest)) first second ∙ part ∙ sym (lt-ltb (limit * d) n (omega arith)))
          ])
      | inr order ↦
          (elim order [
            | inl less ↦
                (let first : ltb limit u ≡ false = le-ltb limit u (omega arith) in
                let second : eqb u limit ≡ false = ne_eqb u limit (λ e. absurd (omega arith)) in
                let line : (n / d + 1) * d ≤ limit * d = mul-le-mul_right d (omega arith) in
                ap₂ (λ a b. a || (b && rest)) first second ∙ sym (le-ltb (limit * d) n (omega arith)))
            | inr more ↦
                (let first : ltb limit u ≡ true = lt-ltb limit u (omega arith) in
                let line : (limit + 1) * d ≤ n / d * d = mul-le-mul_right d (omega arith) in
                ap (λ a. a || (eqb u limit && rest)) first ∙ sym (lt-ltb (limit * d) n (omega arith)))
          ])
    ]
