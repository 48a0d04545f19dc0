-- The forms of a roster's members. A member that is null is there, and isn't of its form. This project's own.
use Rattle.std.specs.Prelude.{ℕ, List, length, Bool, true, false, ◌&&◌, ◌||◌, ◌==◌, if◌then◌else◌, is_some, Option, Some, None, Result, Err}
use Rattle.std.specs.List.{list_all, enumerate_from, position}
use Rattle.std.specs.Option.{unwrap_or}
use Rattle.std.specs.Str.{bytes_eq}
use Rattle.adx_json.specs.Tree.{Tree}
use Rattle.adx_units.specs.Number.{is_digit, begins_with}
use Rattle.adx_units.specs.Money.{budget_of}
use Rattle.adx_units.specs.declared.units.Units.{Units}
use Rattle.adx_units.specs.declared.price.PriceFault.{PriceFault}
use Rattle.adx_units.specs.declared.price.PriceFault.TheVariants.{NotNumber}
use Rattle.adx_json.specs.Values.{text_in, number_in, whole_by}

-- a byte of a date by its place: `-` behind the year and behind the month, and else a digit
abbrev pub is_date_byte : ℕ → ℕ → Bool
is_date_byte place byte = if place == 4 || place == 7 then byte == 45 else is_digit byte

-- a date as 2025-03-01; the month and the day may be any two digits
abbrev pub is_date : List ℕ → Bool
is_date t = length t == 10 && list_all (λ (p : ℕ × ℕ). is_date_byte p.0 p.1) (enumerate_from 0 t)

-- the text is a date
abbrev pub is_date_text : Option (List ℕ) → Bool
is_date_text None = false
is_date_text (Some t) = is_date t

-- a text, or another where there is none
abbrev pub text_or : List ℕ → Option Tree → List ℕ
text_or absent v = unwrap_or (text_in v) absent

-- the whole number of at most a bound that a value is
abbrev pub whole_in : ℕ → Option Tree → Option ℕ
whole_in most v = whole_by most (number_in v)

-- absent, or a whole number of at most this
abbrev pub is_whole_if_given : ℕ → Option Tree → Bool
is_whole_if_given most None = true
is_whole_if_given most (Some t) = is_some (whole_in most (Some t))

-- that number, or another where there is none
abbrev pub whole_or : ℕ → ℕ → Option Tree → ℕ
whole_or absent most v = unwrap_or (whole_in most v) absent

-- a text that begins with a slash
abbrev pub is_path : Option (List ℕ) → Bool
is_path None = false
is_path (Some p) = begins_with 47 p

-- absent, or a text that begins with a slash
abbrev pub is_path_if_given : Option Tree → Bool
is_path_if_given None = true
is_path_if_given (Some t) = is_path (text_in (Some t))

-- the budget of a number's text; without one it isn't a number
abbrev pub budget_by : Option (List ℕ) → Result Units PriceFault
budget_by None = Err NotNumber
budget_by (Some n) = budget_of n

-- the budget that a value is
abbrev pub budget_in : Option Tree → Result Units PriceFault
budget_in v = budget_by (number_in v)

-- the place of the name that a text is
abbrev pub place_by_name : List (List ℕ) → Option (List ℕ) → Option ℕ
place_by_name names None = None
place_by_name names (Some name) = position (λ n. bytes_eq n name) names

-- the place of the name that a value is
abbrev pub place_in : List (List ℕ) → Option Tree → Option ℕ
place_in names v = place_by_name names (text_in v)
