-- A bid's price (OpenRTB 2.6, section 4.2.3, Bid, `price`), or why it is none. This project's own.
use Rattle.std.specs.Prelude.{ℕ, List, Bool, true, ◌&&◌, nat_le, Option, Some, None, Result, Ok, Err}
use Rattle.adx_json.specs.Tree.{Tree}
use Rattle.adx_units.specs.Money.{price_of}
use Rattle.adx_units.specs.declared.units.Units.{Units}
use Rattle.adx_units.specs.declared.price.PriceFault.{PriceFault}
use Rattle.adx_units.specs.declared.price.PriceFault.TheVariants.{NotNumber}
use Rattle.adx_units.specs.declared.price.TheConstants.{PRICE_LIMIT}
use Rattle.adx_json.specs.Values.{number_in}

-- the price of a number's text; without one it isn't a number
abbrev pub price_by : Option (List ℕ) → Result Units PriceFault
price_by None = Err NotNumber
price_by (Some n) = price_of n

-- the price that a value is; one that is absent or no number is the fault of that name
abbrev pub price_in : Option Tree → Result Units PriceFault
price_in v = price_by (number_in v)

-- a price is 1 to 10^12 units
abbrev pub is_in_range : Result Units PriceFault → Bool
is_in_range (Ok u) = nat_le 1 u.0 && nat_le u.0 PRICE_LIMIT
is_in_range (Err e) = true
