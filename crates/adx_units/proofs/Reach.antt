-- An exponent that is counted up to a cap cuts the digits as the whole exponent does.
use Rattle.std.proofs.Common.{◌≡◌, ℕ, ◌+◌, ◌-◌, ◌*◌, ◌/◌, ◌%◌, ◌^◌, ◌<◌, ◌≤◌, ◌⊎◌, inl, inr, min, true, false, Bool, List, ◌++◌, take, drop, length, sym, ap, refl, ◌∙◌, arith, length-append, length-take, length-drop, cond, zero-mul, eqb, eq-zero-or-pos}
use Rattle.std.specs.List.{list_all}
use Rattle.std.proofs.Math.Nat.{one-le-pow, le-mul_of_pos_right}
use Rattle.std.proofs.lemmas.Bool.{cases_lt, eq-eqb, ne_eqb}
use Rattle.adx_units.specs.Number.{is_digit, digits_value}
use Rattle.adx_units.proofs.Point.{Moved, parts_join, shifted_whole, shifted_rest}
use Rattle.adx_units.proofs.Capped.{capped_times, enough_zeros}

-- an exponent e moves the point s places right, and e further to the right or to the left: counted up to
-- `far`, it is to be at `reach`, with kw and kf digits of the two parts before it, and z zeros
pub record Reaches (w f up s down far reach kw kf z : ℕ) : Type 0 where
  pub way : ((up ≡ 0) × (reach ≡ (w + s) - min down far)) ⊎ ((down ≡ 0) × (reach ≡ w + s + min up far))
  pub room : w + f + s + 16 ≤ far
  pub whole : kw ≡ min reach w
  pub fraction : kf ≡ min (reach - kw) f
  pub zeros : z ≡ (reach - kw) - kf

pub kept_is : (w f up s down far reach kw kf z : ℕ) → Reaches w f up s down far reach kw kf z → kw + kf ≡ min ((w + s + up) - down) (w + f)
kept_is w f up s down far reach kw kf z r =
    let room = r.room in
    let whole = r.whole in
    let fraction = r.fraction in
    elim r.way [
      | inl left ↦ (let none = left.0 in let at = left.1 in omega arith)
      | inr right ↦ (let none = right.0 in let at = right.1 in omega arith)
    ]

pub zeros_are : (w f up s down far reach kw kf z : ℕ) → Reaches w f up s down far reach kw kf z → (((w + s + up) - down) - (kw + kf) ≡ z) ⊎ ((16 ≤ ((w + s + up) - down) - (kw + kf)) × (16 ≤ z))
zeros_are w f up s down far reach kw kf z r =
    let room = r.room in
    let whole = r.whole in
    let fraction = r.fraction in
    let zeros = r.zeros in
    elim r.way [
      | inl left ↦ (let none = left.0 in let at = left.1 in inl (omega arith))
      | inr right ↦
          (let none = right.0 in
          let at = right.1 in
          elim (cases_lt far up) [
            | inl past ↦ inr (omega arith, omega arith)
            | inr near ↦ inl (omega arith)
          ])
    ]

pub one_is_whole : (w f up s down far reach kw kf z : ℕ) → Reaches w f up s down far reach kw kf z → (w ≤ kw) ⊎ (kf ≡ 0)
one_is_whole w f up s down far reach kw kf z r =
    let whole = r.whole in
    let fraction = r.fraction in
    elim (cases_lt reach w) [
      | inl below ↦ inr (omega arith)
      | inr above ↦ inl (omega arith)
    ]

pub moved_to : (whole fraction : List ℕ) (up s down far reach kw kf z : ℕ) → list_all is_digit (whole ++ fraction) ≡ true → Reaches (length whole) (length fraction) up s down far reach kw kf z → Moved (take kw whole ++ take kf fraction) (drop kw whole ++ drop kf fraction) (length whole) (length fraction) up s down (((length whole + s + up) - down) - (kw + kf))
moved_to whole fraction up s down far reach kw kf z digits r =
    let kept = kept_is (length whole) (length fraction) up s down far reach kw kf z r in
    let first = r.whole in
    let second = r.fraction in
    let join = parts_join whole fraction kw kf (one_is_whole (length whole) (length fraction) up s down far reach kw kf z r) in
    let before : length (take kw whole ++ take kf fraction) ≡ kw + kf = simp (length-append, length-take) (omega arith) in
    let after : length (drop kw whole ++ drop kf fraction) ≡ (length whole - kw) + (length fraction - kf) = simp (length-append, length-drop) in
    record {
      digits = ap (list_all is_digit) join ∙ digits;
      whole = omega arith;
      kept = before ∙ kept;
      zeros = omega arith;
    }

pub units_reached : (whole fraction : List ℕ) (up s down far reach kw kf z v cap : ℕ) → list_all is_digit (whole ++ fraction) ≡ true → Reaches (length whole) (length fraction) up s down far reach kw kf z → cap ≤ 10 ^ 16 → v ≡ min (digits_value (take kw whole ++ take kf fraction)) cap → min (v * 10 ^ z) cap ≡ min (digits_value (whole ++ fraction) * 10 ^ up * 10 ^ s / 10 ^ (length fraction + down)) cap
units_reached whole fraction up s down far reach kw kf z v cap digits r reach_cap e =
    let a : List ℕ = take kw whole ++ take kf fraction in
    let b : List ℕ = drop kw whole ++ drop kf fraction in
    let y : ℕ = ((length whole + s + up) - down) - (kw + kf) in
    let join : a ++ b ≡ whole ++ fraction = parts_join whole fraction kw kf (one_is_whole (length whole) (length fraction) up s down far reach kw kf z r) in
    let value = shifted_whole a b (length whole) (length fraction) up s down y (moved_to whole fraction up s down far reach kw kf z digits r) in
    let there : digits_value (whole ++ fraction) * 10 ^ up * 10 ^ s / 10 ^ (length fraction + down) ≡ digits_value a * 10 ^ y = ap (λ l. digits_value l * 10 ^ up * 10 ^ s / 10 ^ (length fraction + down)) (sym join) ∙ value in
    let first = capped_times v (digits_value a) (10 ^ z) cap e (one-le-pow z 10 (omega arith)) in
    let zeros : min (digits_value a * 10 ^ z) cap ≡ min (digits_value a * 10 ^ y) cap = elim (zeros_are (length whole) (length fraction) up s down far reach kw kf z r) [
      | inl same ↦ ap (λ k. min (digits_value a * 10 ^ k) cap) (sym same)
      | inr many ↦ enough_zeros (digits_value a) 16 z y cap reach_cap many.1 many.0
    ] in
    first ∙ zeros ∙ ap (λ n. min n cap) (sym there)

pub rest_reached : (whole fraction : List ℕ) (up s down far reach kw kf z v cap : ℕ) → list_all is_digit (whole ++ fraction) ≡ true → Reaches (length whole) (length fraction) up s down far reach kw kf z → 0 < cap → v ≡ min (digits_value (drop kw whole ++ drop kf fraction)) cap → eqb v 0 ≡ eqb (digits_value (whole ++ fraction) * 10 ^ up * 10 ^ s % 10 ^ (length fraction + down)) 0
rest_reached whole fraction up s down far reach kw kf z v cap digits r some e =
    let a : List ℕ = take kw whole ++ take kf fraction in
    let b : List ℕ = drop kw whole ++ drop kf fraction in
    let y : ℕ = ((length whole + s + up) - down) - (kw + kf) in
    let join : a ++ b ≡ whole ++ fraction = parts_join whole fraction kw kf (one_is_whole (length whole) (length fraction) up s down far reach kw kf z r) in
    let value = shifted_rest a b (length whole) (length fraction) up s down y (moved_to whole fraction up s down far reach kw kf z digits r) in
    let there : digits_value (whole ++ fraction) * 10 ^ up * 10 ^ s % 10 ^ (length fraction + down) ≡ digits_value b * 10 ^ (up + s) = ap (λ l. digits_value l * 10 ^ up * 10 ^ s % 10 ^ (length fraction + down)) (sym join) ∙ value in
    let power : 0 < 10 ^ (up + s) = one-le-pow (up + s) 10 (omega arith) in
    let test : eqb v 0 ≡ eqb (digits_value b * 10 ^ (up + s)) 0 = elim (eq-zero-or-pos (digits_value b)) [
      | inl none ↦
          (let left : v ≡ 0 = omega arith in
          let right : digits_value b * 10 ^ (up + s) ≡ 0 = ap (λ n. n * 10 ^ (up + s)) none ∙ zero-mul (10 ^ (up + s)) in
          eq-eqb v 0 left ∙ sym (eq-eqb (digits_value b * 10 ^ (up + s)) 0 right))
      | inr more ↦
          (let larger : digits_value b ≤ digits_value b * 10 ^ (up + s) = le-mul_of_pos_right (digits_value b) power in
          ne_eqb v 0 (λ left. absurd (omega arith)) ∙ sym (ne_eqb (digits_value b * 10 ^ (up + s)) 0 (λ right. absurd (omega arith))))
    ] in
    test ∙ ap (λ n. eqb n 0) (sym there)

way_of : (w s e far m reach : ℕ) (lowers : Bool) → m ≡ min e far → reach ≡ cond lowers ((w + s) - m) (w + s + m) → ((cond lowers 0 e ≡ 0) × (reach ≡ (w + s) - min (cond lowers e 0) far)) ⊎ ((cond lowers e 0 ≡ 0) × (reach ≡ w + s + min (cond lowers 0 e) far))
way_of w s e far m reach true counted at = inl (refl, at ∙ ap (λ k. (w + s) - k) counted)
way_of w s e far m reach false counted at = inr (refl, at ∙ ap (λ k. w + s + k) counted)

-- an exponent e, counted as m, lowers or raises
pub reaches : (w f s e far m reach kw kf : ℕ) (lowers : Bool) → m ≡ min e far → reach ≡ cond lowers ((w + s) - m) (w + s + m) → w + f + s + 16 ≤ far → kw ≡ min reach w → kf ≡ min (reach - kw) f → Reaches w f (cond lowers 0 e) s (cond lowers e 0) far reach kw kf (reach - kw - kf)
reaches w f s e far m reach kw kf lowers counted at room whole fraction =
    record { way = way_of w s e far m reach lowers counted at; room = room; whole = whole; fraction = fraction; zeros = refl }
