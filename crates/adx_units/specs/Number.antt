-- The text of a JSON number (RFC 8259, section 6): number = [ minus ] int [ frac ] [ exp ], and the
-- fraction of whole numbers that it represents.
-- Example: `1.5e2` has the whole digits `1` and the fraction's digits `5`, and is raised by 2: its value is 1,500
-- / 10, which as a price is 150,000,000 units. `0.0000001` comes to no unit as a price, and to one as a floor.
use Rattle.std.specs.Prelude.{ℕ, ◌+◌, ◌-◌, ◌*◌, ◌^◌, List, [], ◌∷◌, ◌++◌, Bool, false, ◌||◌, ◌&&◌, not, length, nat_le, ◌==◌, if◌then◌else◌, fold, Option, Some, None}
use Rattle.std.specs.List.{list_all, list_any, before_first, after_first}

-- the byte is a decimal digit
abbrev pub is_digit : ℕ → Bool
is_digit b = nat_le 48 b && nat_le b 57

-- at least one digit, and nothing else
abbrev pub is_digits : List ℕ → Bool
is_digits ds = nat_le 1 (length ds) && list_all is_digit ds

-- the text's first byte is this one
abbrev pub begins_with : ℕ → List ℕ → Bool
begins_with c [] = false
begins_with c (b ∷ bs) = b == c

-- int: the one digit 0, or digits that don't begin with 0
abbrev pub is_whole : List ℕ → Bool
is_whole ds = is_digits ds && (length ds == 1 || not (begins_with 48 ds))

-- the byte is the point
abbrev pub is_point : ℕ → Bool
is_point b = b == 46

-- int [ frac ]: a whole number, and then optionally a point and at least one digit
abbrev pub is_decimal : List ℕ → Bool
is_decimal t =
    is_whole (before_first is_point t) && (not (list_any is_point t) || is_digits (after_first is_point t))

-- the text begins with a minus
abbrev pub has_minus : List ℕ → Bool
has_minus t = begins_with 45 t

-- the text without a minus at its front
abbrev pub without_minus : List ℕ → List ℕ
without_minus [] = []
without_minus (b ∷ bs) = if b == 45 then bs else b ∷ bs

-- 'e' or 'E'
abbrev pub is_exponent_mark : ℕ → Bool
is_exponent_mark b = b == 101 || b == 69

-- the text without a minus or plus at its front
abbrev pub without_sign : List ℕ → List ℕ
without_sign [] = []
without_sign (b ∷ bs) = if b == 45 || b == 43 then bs else b ∷ bs

-- what comes before the exponent's mark, without the minus
abbrev pub decimal_part : List ℕ → List ℕ
decimal_part t = without_minus (before_first is_exponent_mark t)

-- what comes after the exponent's mark
abbrev pub exponent_part : List ℕ → List ℕ
exponent_part t = after_first is_exponent_mark t

-- the text is a JSON number
abbrev pub is_number : List ℕ → Bool
is_number t =
    is_decimal (decimal_part t) && (not (list_any is_exponent_mark t) || is_digits (without_sign (exponent_part t)))

-- the number that decimal digits represent after those of n
abbrev pub digits_after : ℕ → List ℕ → ℕ
digits_after n ds = fold (λ m b. 10 * m + (b - 48)) n ds

-- the number that decimal digits represent
abbrev pub digits_value : List ℕ → ℕ
digits_value ds = fold (λ n b. 10 * n + (b - 48)) 0 ds

-- a whole number that is at most a bound
abbrev pub is_whole_up_to : ℕ → List ℕ → Bool
is_whole_up_to most ds = is_whole ds && nat_le (digits_value ds) most

-- the number that a whole number of at most a bound represents
abbrev pub whole_up_to : ℕ → List ℕ → Option ℕ
whole_up_to most ds = if is_whole_up_to most ds then Some (digits_value ds) else None

-- the digits before the point
abbrev pub whole_digits : List ℕ → List ℕ
whole_digits t = before_first is_point (decimal_part t)

-- the digits after the point
abbrev pub fraction_digits : List ℕ → List ℕ
fraction_digits t = after_first is_point (decimal_part t)

-- by how many places the exponent moves the point to the right
abbrev pub raised : List ℕ → ℕ
raised t = if has_minus (exponent_part t) then 0 else digits_value (without_sign (exponent_part t))

-- by how many places the exponent moves the point to the left
abbrev pub lowered : List ℕ → ℕ
lowered t = if has_minus (exponent_part t) then digits_value (without_sign (exponent_part t)) else 0

-- the value of the number without its sign is numerator / denominator
abbrev pub numerator : List ℕ → ℕ
numerator t = digits_value (whole_digits t ++ fraction_digits t) * 10 ^ raised t

-- the denominator of that value
abbrev pub denominator : List ℕ → ℕ
denominator t = 10 ^ (length (fraction_digits t) + lowered t)

-- the numerator and the denominator from a text's parts: its whole digits, its fraction's digits, whether its
-- exponent has a minus, and its exponent's digits
abbrev pub numerator_of : List ℕ → List ℕ → Bool → List ℕ → ℕ
numerator_of whole fraction lowers exponent =
    digits_value (whole ++ fraction) * 10 ^ (if lowers then 0 else digits_value exponent)

-- the denominator from the same parts
abbrev pub denominator_of : List ℕ → Bool → List ℕ → ℕ
denominator_of fraction lowers exponent = 10 ^ (length fraction + (if lowers then digits_value exponent else 0))
