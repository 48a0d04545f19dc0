-- The value of a number times a power of ten, from the digits that come before the moved point.
use Rattle.std.proofs.Common.{◌≡◌, ℕ, ◌+◌, ◌-◌, ◌*◌, ◌/◌, ◌%◌, ◌^◌, ◌<◌, ◌≤◌, ◌⊎◌, inl, inr, min, true, ◌&&◌, List, [], ◌++◌, take, drop, length, sym, ap, ◌∙◌, arith, append_assoc, append-nil, take-append-drop, take_all, zero-mul, mul-one}
use Rattle.std.specs.List.{list_all}
use Rattle.std.proofs.Math.Nat.{pow-zero, div-eq_of_lt, mod-eq_of_lt, pow-le-pow_right}
use Rattle.std.proofs.lemmas.List.{drop_all, nil_from_length}
use Rattle.std.proofs.lemmas.List.Folds.{list_all-append}
use Rattle.std.proofs.lemmas.Bool.{and_parts, cases_lt}
use Rattle.std.proofs.lemmas.Nat.{div-mul-add, mod-mul-add}
use Rattle.adx_units.specs.Number.{is_digit, digits_value}
use Rattle.adx_units.proofs.Digits.{digits_value-append, digits_value-lt, appended_whole, appended_rest, cut_whole, cut_rest}

-- the digits of two parts, cut at a place in the first part or in the second
pub parts_join : (w f : List ℕ) (i j : ℕ) → (length w ≤ i) ⊎ (j ≡ 0) → (take i w ++ take j f) ++ (drop i w ++ drop j f) ≡ w ++ f
parts_join w f i j (inl past) =
    let front : take i w ≡ w = take_all i w past in
    let none : drop i w ≡ [] = drop_all i w past in
    rw (front, none) (append_assoc w (take j f) (drop j f) ∙ ap (λ l. w ++ l) (take-append-drop j f))
parts_join w f i j (inr none) =
    rw none (ap (λ l. l ++ (drop i w ++ f)) (append-nil (take i w)) ∙ sym (append_assoc (take i w) (drop i w) f) ∙ ap (λ l. l ++ f) (take-append-drop i w))

-- digits in two parts: the quotient and the remainder by the second part's power
pub front_part : (a b : List ℕ) → list_all is_digit b ≡ true → digits_value (a ++ b) / 10 ^ length b ≡ digits_value a
front_part a b h = rw (digits_value-append a b) (div-mul-add (digits_value a) (10 ^ length b) (digits_value b) (digits_value-lt b h))

pub back_part : (a b : List ℕ) → list_all is_digit b ≡ true → digits_value (a ++ b) % 10 ^ length b ≡ digits_value b
back_part a b h = rw (digits_value-append a b) (mod-mul-add (digits_value a) (10 ^ length b) (digits_value b) (digits_value-lt b h))

-- more digits are cut off than there are
pub all_cut : (ds : List ℕ) (c : ℕ) → list_all is_digit ds ≡ true → length ds ≤ c → digits_value ds < 10 ^ c
all_cut ds c h le =
    let small = digits_value-lt ds h in
    let power : 10 ^ length ds ≤ 10 ^ c = pow-le-pow_right (omega arith) le in
    omega arith

-- the point is w digits from the left, moves s + up places right and down places left: it leaves the
-- digits `a` before it and `b` after it, and z zeros are appended
pub record Moved (a b : List ℕ) (w f up s down z : ℕ) : Type 0 where
  pub digits : list_all is_digit (a ++ b) ≡ true
  pub whole : length a + length b ≡ w + f
  pub kept : length a ≡ min ((w + s + up) - down) (w + f)
  pub zeros : z ≡ ((w + s + up) - down) - length a

nothing : (ds : List ℕ) → length ds ≡ 0 → ds ≡ []
nothing ds e = nil_from_length ds e

back_digits : (a b : List ℕ) → list_all is_digit (a ++ b) ≡ true → list_all is_digit b ≡ true
back_digits a b h =
    let both : (list_all is_digit a && list_all is_digit b) ≡ true = sym (list_all-append is_digit a b) ∙ h in
    (and_parts (list_all is_digit a) (list_all is_digit b) both).1

pub shifted_whole : (a b : List ℕ) (w f up s down z : ℕ) → Moved a b w f up s down z → digits_value (a ++ b) * 10 ^ up * 10 ^ s / 10 ^ (f + down) ≡ digits_value a * 10 ^ z
shifted_whole a b w f up s down z m =
    let kept = m.kept in
    let zeros = m.zeros in
    let whole = m.whole in
    elim (cases_lt (up + s) (f + down)) [
      | inl left ↦
          (let c : (c : ℕ) × (f + down ≡ c + (up + s)) = (f + down - (up + s), omega arith) in
          let cut = cut_whole 10 (digits_value (a ++ b)) up s f down c.0 (omega arith) c.1 in
          let none : z ≡ 0 = omega arith in
          let digits = back_digits a b m.digits in
          elim (cases_lt (w + s + up) down) [
            | inl far ↦
                (let empty : a ≡ [] = nothing a (omega arith) in
                let long : length b ≤ c.0 = omega arith in
                let small = all_cut b c.0 digits long in
                let same : digits_value (a ++ b) ≡ digits_value b = ap (λ l. digits_value (l ++ b)) empty in
                let gone : digits_value (a ++ b) / 10 ^ c.0 ≡ 0 = ap (λ n. n / 10 ^ c.0) same ∙ div-eq_of_lt small in
                let zero_left : digits_value a * 10 ^ z ≡ 0 = ap (λ l. digits_value l * 10 ^ z) empty ∙ zero-mul (10 ^ z) in
                cut ∙ gone ∙ sym zero_left)
            | inr near ↦
                (let exact : c.0 ≡ length b = omega arith in
                let front : digits_value (a ++ b) / 10 ^ c.0 ≡ digits_value a = ap (λ k. digits_value (a ++ b) / 10 ^ k) exact ∙ front_part a b digits in
                let one : 10 ^ z ≡ 1 = ap (λ k. 10 ^ k) none ∙ pow-zero 10 in
                let times : digits_value a * 10 ^ z ≡ digits_value a = ap (λ p. digits_value a * p) one ∙ mul-one (digits_value a) in
                cut ∙ front ∙ sym times)
          ])
      | inr right ↦
          (let e : up + s ≡ f + down + z = omega arith in
          let empty : b ≡ [] = nothing b (omega arith) in
          let same : a ++ b ≡ a = ap (λ l. a ++ l) empty ∙ append-nil a in
          appended_whole 10 (digits_value (a ++ b)) up s f down z (omega arith) e ∙ ap (λ l. digits_value l * 10 ^ z) same)
    ]

pub shifted_rest : (a b : List ℕ) (w f up s down z : ℕ) → Moved a b w f up s down z → digits_value (a ++ b) * 10 ^ up * 10 ^ s % 10 ^ (f + down) ≡ digits_value b * 10 ^ (up + s)
shifted_rest a b w f up s down z m =
    let kept = m.kept in
    let zeros = m.zeros in
    let whole = m.whole in
    elim (cases_lt (up + s) (f + down)) [
      | inl left ↦
          (let c : (c : ℕ) × (f + down ≡ c + (up + s)) = (f + down - (up + s), omega arith) in
          let cut = cut_rest 10 (digits_value (a ++ b)) up s f down c.0 (omega arith) c.1 in
          let digits = back_digits a b m.digits in
          let part : digits_value (a ++ b) % 10 ^ c.0 ≡ digits_value b = elim (cases_lt (w + s + up) down) [
            | inl far ↦
                (let empty : a ≡ [] = nothing a (omega arith) in
                let long : length b ≤ c.0 = omega arith in
                let small = all_cut b c.0 digits long in
                let same : digits_value (a ++ b) ≡ digits_value b = ap (λ l. digits_value (l ++ b)) empty in
                ap (λ n. n % 10 ^ c.0) same ∙ mod-eq_of_lt small)
            | inr near ↦
                (let exact : c.0 ≡ length b = omega arith in
                ap (λ k. digits_value (a ++ b) % 10 ^ k) exact ∙ back_part a b digits)
          ] in
          cut ∙ ap (λ n. n * 10 ^ (up + s)) part)
      | inr right ↦
          (let e : up + s ≡ f + down + z = omega arith in
          let empty : b ≡ [] = nothing b (omega arith) in
          appended_rest 10 (digits_value (a ++ b)) up s f down z e ∙ sym (ap (λ l. digits_value l * 10 ^ (up + s)) empty ∙ zero-mul (10 ^ (up + s))))
    ]
