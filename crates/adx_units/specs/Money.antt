-- Money of a JSON number's text: a price, a floor and a budget in units, or the first fault that holds.
-- A unit is one millionth of a CPM dollar; a dollar of budget is 10^9 units. This project's own.
use Rattle.std.specs.Prelude.{ℕ, take, length, [], ◌∷◌, ◌++◌, ◌+◌, ◌-◌, ◌*◌, ◌/◌, ◌%◌, ◌^◌, List, ◌||◌, ◌&&◌, not, nat_lt, ◌==◌, if◌then◌else◌, Result, Ok, Err}
use Rattle.std.specs.List.{suffix_len}
use Rattle.std.specs.Fmt.{decimal}
use Rattle.adx_units.specs.Number.{is_number, has_minus, numerator, denominator}
use Rattle.adx_units.specs.declared.units.Units.{Units}
use Rattle.adx_units.specs.declared.price.PriceFault.{PriceFault}
use Rattle.adx_units.specs.declared.price.PriceFault.TheVariants.{NotNumber, NotPositive, TooLarge, TooFine}

-- an amount of so many units
abbrev pub units : ℕ → Units
units n = record { 0 = n }

-- the whole part of the value times 10^6
abbrev pub price_units : List ℕ → ℕ
price_units t = numerator t * 10 ^ 6 / denominator t

-- the value times 10^6, rounded up
abbrev pub floor_units : List ℕ → ℕ
floor_units t = (numerator t * 10 ^ 6 + (denominator t - 1)) / denominator t

-- the price of a text, or the first fault: no number, not positive, above 10^12 units
abbrev pub price_of : List ℕ → Result Units PriceFault
price_of t =
    if not (is_number t) then Err NotNumber
    else (if has_minus t || price_units t == 0 then Err NotPositive
    else (if nat_lt (10 ^ 12) (price_units t) then Err TooLarge
    else Ok (units (price_units t))))

-- a floor may be 0
abbrev pub floor_of : List ℕ → Result Units PriceFault
floor_of t =
    if not (is_number t) then Err NotNumber
    else (if has_minus t && not (numerator t == 0) then Err NotPositive
    else (if nat_lt (10 ^ 12) (floor_units t) then Err TooLarge
    else Ok (units (floor_units t))))

-- a budget is exact: the value times 10^9 has to be whole
abbrev pub budget_of : List ℕ → Result Units PriceFault
budget_of t =
    if not (is_number t) then Err NotNumber
    else (if has_minus t || numerator t == 0 then Err NotPositive
    else (if nat_lt (10 ^ 15 * denominator t) (numerator t * 10 ^ 9) then Err TooLarge
    else (if not (numerator t * 10 ^ 9 % denominator t == 0) then Err TooFine
    else Ok (units (numerator t * 10 ^ 9 / denominator t)))))

-- the six decimals of u / 10^6
abbrev pub six_decimals : ℕ → List ℕ
six_decimals u =
    (48 + u / 100000 % 10) ∷ ((48 + u / 10000 % 10) ∷ ((48 + u / 1000 % 10) ∷ ((48 + u / 100 % 10) ∷ ((48 + u / 10 % 10) ∷ ((48 + u % 10) ∷ [])))))

-- digits without the zeros at their end
abbrev pub without_last_zeros : List ℕ → List ℕ
without_last_zeros ds = take (length ds - suffix_len (λ b. b == 48) ds) ds

-- the text of a price of u units: u / 10^6 in decimal, with no point where it is whole
abbrev pub price_text : ℕ → List ℕ
price_text u = decimal (u / 10 ^ 6) ++ (if u % 10 ^ 6 == 0 then [] else 46 ∷ without_last_zeros (six_decimals u))
