-- Decimal digits: the number of a text in two parts, and a bound by its length.
use Rattle.std.proofs.Common.{◌≡◌, ℕ, suc, ◌+◌, ◌-◌, ◌*◌, ◌/◌, ◌%◌, ◌^◌, ◌<◌, ◌≤◌, true, nat_le, List, [], ◌∷◌, ◌++◌, length, fold, sym, ap, ◌∙◌, arith, pow-suc, mul-le-mul_right, pow-add, mul-div_cancel, mul_assoc, mul_comm}
use Rattle.std.specs.List.{list_all}
use Rattle.std.proofs.Math.Nat.{pow-zero, one-le-pow, mul-mod_left, mul-div-mul_right, div-add-mod'}
use Rattle.std.proofs.lemmas.List.Sums.{fold-append}
use Rattle.std.proofs.lemmas.Bool.{and_parts, leb-true}
use Rattle.adx_units.specs.Number.{is_digit, digits_value}

abbrev pub step : ℕ → ℕ → ℕ
step n b = 10 * n + (b - 48)

pub digits_from : (a : ℕ) (ds : List ℕ) → fold step a ds ≡ a * 10 ^ length ds + digits_value ds
digits_from a [] = rw pow-zero (omega arith)
digits_from a (d ∷ ds) =
    let here = digits_from (10 * a + (d - 48)) ds in
    let alone = digits_from (10 * 0 + (d - 48)) ds in
    let more : 10 ^ suc (length ds) ≡ 10 ^ length ds * 10 = pow-suc 10 (length ds) in
    omega (arith, here, alone, more, ap (λ p. a * p) more)

pub digits_value-append : (a b : List ℕ) → digits_value (a ++ b) ≡ digits_value a * 10 ^ length b + digits_value b
digits_value-append a b = fold-append step 0 a b ∙ digits_from (digits_value a) b

pub digits_value-lt : (ds : List ℕ) → list_all is_digit ds ≡ true → digits_value ds < 10 ^ length ds
digits_value-lt [] h = rw pow-zero (omega arith)
digits_value-lt (d ∷ ds) h =
    let both = and_parts (is_digit d) (list_all is_digit ds) h in
    let rest = digits_value-lt ds both.1 in
    let bounds = and_parts (nat_le 48 d) (nat_le d 57) both.0 in
    let top : d ≤ 57 = leb-true d 57 bounds.1 in
    let few : d - 48 ≤ 9 = omega arith in
    let more : 10 ^ suc (length ds) ≡ 10 ^ length ds * 10 = pow-suc 10 (length ds) in
    let most : (d - 48) * 10 ^ length ds ≤ 9 * 10 ^ length ds = mul-le-mul_right (10 ^ length ds) few in
    let alone = digits_from (10 * 0 + (d - 48)) ds in
    omega (arith, alone, more, most, rest)

raised_by : (b x up s f down z : ℕ) → up + s ≡ f + down + z → x * b ^ up * b ^ s ≡ (x * b ^ z) * b ^ (f + down)
raised_by b x up s f down z e =
    mul_assoc x (b ^ up) (b ^ s) ∙ ap (λ p. x * p) (sym (pow-add b up s) ∙ ap (λ k. b ^ k) e ∙ pow-add b (f + down) z ∙ mul_comm (b ^ (f + down)) (b ^ z)) ∙ sym (mul_assoc x (b ^ z) (b ^ (f + down)))

-- the point moves right past the last digit: zeros are appended
pub appended_whole : (b x up s f down z : ℕ) → 0 < b → up + s ≡ f + down + z → x * b ^ up * b ^ s / b ^ (f + down) ≡ x * b ^ z
appended_whole b x up s f down z pos e =
    let whole : x * b ^ up * b ^ s ≡ (x * b ^ z) * b ^ (f + down) = raised_by b x up s f down z e in
    rw whole (mul-div_cancel (x * b ^ z) (one-le-pow (f + down) b pos))

pub appended_rest : (b x up s f down z : ℕ) → up + s ≡ f + down + z → x * b ^ up * b ^ s % b ^ (f + down) ≡ 0
appended_rest b x up s f down z e = ap (λ n. n % b ^ (f + down)) (raised_by b x up s f down z e) ∙ mul-mod_left (x * b ^ z) (b ^ (f + down))

-- the point moves left: c digits are cut off
cut_by : (b up s f down c : ℕ) → f + down ≡ c + (up + s) → b ^ (f + down) ≡ b ^ c * b ^ (up + s)
cut_by b up s f down c e = ap (λ k. b ^ k) e ∙ pow-add b c (up + s)

both_powers : (b x up s : ℕ) → x * b ^ up * b ^ s ≡ x * b ^ (up + s)
both_powers b x up s = mul_assoc x (b ^ up) (b ^ s) ∙ ap (λ p. x * p) (sym (pow-add b up s))

pub cut_whole : (b x up s f down c : ℕ) → 0 < b → f + down ≡ c + (up + s) → x * b ^ up * b ^ s / b ^ (f + down) ≡ x / b ^ c
cut_whole b x up s f down c pos e =
    rw (both_powers b x up s, cut_by b up s f down c e) (mul-div-mul_right x (b ^ c) (one-le-pow (up + s) b pos))

mul-mod-mul : (x c m : ℕ) → 0 < c → 0 < m → (x * m) % (c * m) ≡ (x % c) * m
mul-mod-mul x c m some many =
    let whole = div-add-mod' (x * m) (c * m) in
    let part = div-add-mod' x c in
    let same : x * m / (c * m) ≡ x / c = mul-div-mul_right x c many in
    let line : (x * m / (c * m)) * (c * m) ≡ (x / c) * (c * m) = ap (λ q. q * (c * m)) same in
    let times : (x / c * c + x % c) * m ≡ x * m = ap (λ n. n * m) part in
    omega (arith, whole, line, times)

pub cut_rest : (b x up s f down c : ℕ) → 0 < b → f + down ≡ c + (up + s) → x * b ^ up * b ^ s % b ^ (f + down) ≡ (x % b ^ c) * b ^ (up + s)
cut_rest b x up s f down c pos e =
    rw (both_powers b x up s, cut_by b up s f down c e) (mul-mod-mul x (b ^ c) (b ^ (up + s)) (one-le-pow c b pos) (one-le-pow (up + s) b pos))
