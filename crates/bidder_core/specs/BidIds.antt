-- The ids that a bidder gives its bids: the place of the impression and that of the price, each from 0 and in decimal,
-- with a dash between them. This project's own.
use Rattle.std.specs.Prelude.{ℕ, List, ◌∷◌, ◌++◌, Bool, ◌&&◌, nat_lt, ◌==◌}
use Rattle.std.specs.Fmt.{decimal}
use Rattle.std.specs.List.{list_any, before_first, after_first}
use Rattle.adx_units.specs.Number.{is_whole, digits_value}
use Rattle.rtb_request.specs.declared.bid_request.TheConstants.{MOST_IMPS}

-- the id of the bid for an impression at a price
-- Example: `1-0` is the bid for the second impression at the first price
abbrev pub bid_id : ℕ → ℕ → List ℕ
bid_id imp price = decimal imp ++ 45 ∷ decimal price

-- the byte `-`, between the two places of a bid's id
abbrev pub is_dash : ℕ → Bool
is_dash b = b == 45

-- a whole number below a bound, in decimal without a sign or a leading zero
abbrev pub is_below : ℕ → List ℕ → Bool
is_below bound text = is_whole text && nat_lt (digits_value text) bound

-- one of the ids of a bidder with so many prices: the first dash stands between the places of an impression and of a
-- price
abbrev pub is_made : ℕ → List ℕ → Bool
is_made prices id =
    list_any is_dash id && (is_below MOST_IMPS (before_first is_dash id) && is_below prices (after_first is_dash id))

-- the place of its price
abbrev pub price_in : List ℕ → ℕ
price_in id = digits_value (after_first is_dash id)
