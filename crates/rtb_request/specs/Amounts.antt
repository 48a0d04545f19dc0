-- The forms of floors, seconds and ids of a request's objects.
-- This project's own: the limits, and that a number of seconds that is none counts as not given.
use Rattle.std.specs.Prelude.{ℕ, List, length, Bool, false, ◌&&◌, nat_le, is_ok, Option, Some, None, Result, Ok, Err}
use Rattle.adx_json.specs.Tree.{Tree}
use Rattle.adx_units.specs.declared.id.TheConstants.{LONGEST_ID}
use Rattle.adx_units.specs.Money.{units, floor_of}
use Rattle.adx_units.specs.declared.units.Units.{Units}
use Rattle.adx_units.specs.declared.price.PriceFault.{PriceFault}
use Rattle.adx_units.specs.declared.price.PriceFault.TheVariants.{NotNumber}
use Rattle.adx_json.specs.Rows.{Form, form}
use Rattle.adx_json.specs.Values.{text_in, text_or_empty, number_in, whole_or_zero}
use Rattle.rtb_request.specs.declared.imp.TheConstants.{MOST_SECONDS}

-- the floor of a number's text; without one it isn't a number
abbrev pub floor_by : Option (List ℕ) → Result Units PriceFault
floor_by None = Err NotNumber
floor_by (Some n) = floor_of n

-- the floor that a value is; where it is absent the floor is 0
abbrev pub floor_in : Option Tree → Result Units PriceFault
floor_in None = Ok (units 0)
floor_in (Some t) = floor_by (number_in (Some t))

-- the units of an amount; none are 0
abbrev pub units_or_zero : Result Units PriceFault → Units
units_or_zero (Ok u) = u
units_or_zero (Err e) = units 0

-- a floor, which is 0 where it is absent
abbrev pub a_floor : Form Units
a_floor = form (λ v. is_ok (floor_in v)) (λ v. units_or_zero (floor_in v))

-- the seconds that a value is, a whole number below 2^31; all else counts as not given, which is 0
abbrev pub seconds_in : Option Tree → ℕ
seconds_in v = whole_or_zero MOST_SECONDS v

-- a text of 1 to 128 bytes
abbrev pub is_id_text : Option (List ℕ) → Bool
is_id_text None = false
is_id_text (Some t) = nat_le 1 (length t) && nat_le (length t) LONGEST_ID

-- a value that is such a text
abbrev pub is_id : Option Tree → Bool
is_id v = is_id_text (text_in v)

-- an id that has to be there
abbrev pub an_id : Form (List ℕ)
an_id = form is_id text_or_empty
