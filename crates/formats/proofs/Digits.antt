-- The number of digits read from the left.
use Rattle.std.proofs.Common.{◌≡◌, ℕ, ◌+◌, ◌-◌, ◌*◌, ◌^◌, ◌<◌, ◌≤◌, List, [], ◌∷◌, ◌++◌, length, get_or, take, drop, ap, ◌∙◌, arith}
use Rattle.std.proofs.lemmas.List.{take_more, take-append-drop}
use Rattle.std.proofs.lemmas.List.Sums.{fold-append}
use Rattle.std.proofs.Math.Nat.{one-le-pow, mul-le-mul_left}
use Rattle.adx_units.specs.Number.{digits_value}
use Rattle.adx_units.proofs.Digits.{step, digits_value-append}

pub value_more : (ds : List ℕ) (i : ℕ) → i < length ds → digits_value (take (i + 1) ds) ≡ 10 * digits_value (take i ds) + (get_or ds i 0 - 48)
value_more ds i h = ap digits_value (take_more ds i 0 h) ∙ fold-append step 0 (take i ds) (get_or ds i 0 ∷ [])

pub value_front : (ds : List ℕ) (i : ℕ) → digits_value (take i ds) ≤ digits_value ds
value_front ds i =
    let whole : digits_value (take i ds ++ drop i ds) ≡ digits_value ds = ap digits_value (take-append-drop i ds) in
    let parts = digits_value-append (take i ds) (drop i ds) in
    let ten : 0 < 10 = omega arith in
    let one : 1 ≤ 10 ^ length (drop i ds) = one-le-pow (length (drop i ds)) 10 ten in
    let more : digits_value (take i ds) * 1 ≤ digits_value (take i ds) * 10 ^ length (drop i ds) = mul-le-mul_left (digits_value (take i ds)) one in
    omega (arith, whole, parts, more)

-- digits whose front passes a limit pass it
pub passes : (ds : List ℕ) (i limit value : ℕ) → i < length ds → value ≡ digits_value (take i ds) → (10 * value + (get_or ds i 0 - 48) < limit → ⊥) → limit ≤ digits_value ds
passes ds i limit value h e le =
    let more = value_more ds i h in let front = value_front ds (i + 1) in omega (arith, more, front, e, le)
