-- The price line of a bidder: what its object has to be, and the line that it is. A member that is null is there, and
-- isn't of its form. This project's own.
use Rattle.std.specs.Prelude.{◌≡◌, ℕ, List, [], ◌∷◌, map, length, Bool, true, false, not, nat_le, is_ok, codes, Option, Some, None, Result, Err}
use Rattle.adx_json.specs.Tree.{Tree}
use Rattle.adx_json.specs.FoundMembers.{member_within}
use Rattle.adx_units.specs.Money.{price_of}
use Rattle.adx_units.specs.declared.units.Units.{Units}
use Rattle.adx_units.specs.declared.price.PriceFault.{PriceFault}
use Rattle.adx_units.specs.declared.price.PriceFault.TheVariants.{NotNumber}
use Rattle.adx_json.specs.Values.{text_in, number_in, text_or_empty, items_in}
use Rattle.adx_json.specs.Rows.{Form, form, Row, row, test, test_whole, each, all_count, first_fault, Says}
use Rattle.rtb_request.specs.Amounts.{an_id, units_or_zero}
use Rattle.adx_units.specs.Among.{is_among}
use Rattle.deal_floor.specs.Forms.{text_or}
use Rattle.deal_floor.specs.declared.fault.RosterFault.{RosterFault}
use Rattle.deal_floor.specs.declared.fault.RosterFault.TheVariants.{BadField, Repeated, TooMany}
use Rattle.deal_floor.specs.declared.fault.Field.TheVariants as fields
use Rattle.bidder_core.specs.Forms.{is_plain_base}
use Rattle.bidder_core.specs.declared.price_line.Price.{Price}
use Rattle.bidder_core.specs.declared.price_line.PriceLine.{PriceLine}
use Rattle.bidder_core.specs.declared.price_line.TheConstants.{MOST_PRICES}

-- a base is given, without `?` and `#`
abbrev pub is_base : Option (List ℕ) → Bool
is_base None = false
is_base (Some t) = is_plain_base t

-- absent, or a text without a query or a fragment
abbrev pub is_base_if_given : Option Tree → Bool
is_base_if_given None = true
is_base_if_given (Some t) = is_base (text_in (Some t))

-- the base where none is given
abbrev pub usual_base : List ℕ
usual_base = codes "http://127.0.0.1"

-- the price of a number's text; without one it isn't a number
abbrev pub price_by : Option (List ℕ) → Result Units PriceFault
price_by None = Err NotNumber
price_by (Some n) = price_of n

-- the price that a value is
abbrev pub price_told : Option Tree → Result Units PriceFault
price_told v = price_by (number_in v)

-- the price of a number
abbrev pub a_price : Form Units
a_price = form (λ v. is_ok (price_told v)) (λ v. units_or_zero (price_told v))

-- the campaign of a price, empty if it is absent
abbrev pub cid_in : Option Tree → List ℕ
cid_in o = text_or_empty (member_within (codes "cid") o)

-- what the object of a price after those for these campaigns has to be, and the price that it is
abbrev pub price_rows : List (List ℕ) → List (Row Price RosterFault)
price_rows cids =
    row member_within (codes "cid") an_id (λ (p : Price). p.cid) (BadField fields.PriceCid)
    ∷ row member_within (codes "price") a_price (λ (p : Price). p.price) (BadField fields.PricePrice)
    ∷ test_whole (λ o. not (is_among cids (cid_in o))) (λ o. Repeated (length cids))
    ∷ []

-- what the object of a price line has to be, and the line that it is: 1 to 64 prices
abbrev pub line_rows : List (Row PriceLine RosterFault)
line_rows =
    row member_within (codes "seat") an_id (λ (l : PriceLine). l.seat) (BadField fields.Seat)
    ∷ row member_within (codes "base") (form is_base_if_given (text_or usual_base)) (λ (l : PriceLine). l.base) (BadField fields.Base)
    ∷ test member_within (codes "prices") (λ v. nat_le 1 (length (items_in v))) (BadField fields.Prices)
    ∷ test member_within (codes "prices") (λ v. nat_le (length (items_in v)) MOST_PRICES) TooMany
    ∷ each member_within (codes "prices") (λ before. price_rows (map (λ t. cid_in (Some t)) before)) all_count (λ (l : PriceLine). l.prices)
    ∷ []

-- the first fault of a price line's tree
abbrev pub line_fault : Tree → Option RosterFault
line_fault t = first_fault line_rows (Some t)

-- the tree has no fault, and is this price line
abbrev pub IsLine : Tree → PriceLine → Type 0
IsLine t l = (line_fault t ≡ None) × Says line_rows (Some t) l
