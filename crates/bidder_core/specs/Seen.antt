-- What a contract sees of a bidder; the first fault of a list of prices, and prices by their campaign, which the reader of
-- price lines alone cites.
use Rattle.std.specs.Prelude.{ℕ, List, [], map, length, Bool, nat_le, Option, Some, None}
use Rattle.std.specs.Str.{bytes_eq}
use Rattle.adx_json.specs.Rows.{first_among, or_else, unless}
use Rattle.adx_json.specs.Tree.{Tree}
use Rattle.adx_json.specs.Values.{items_in}
use Rattle.deal_floor.specs.declared.fault.Field.TheVariants as fields
use Rattle.deal_floor.specs.declared.fault.RosterFault.{RosterFault}
use Rattle.deal_floor.specs.declared.fault.RosterFault.TheVariants.{BadField, TooMany}
use Rattle.bidder_core.specs.PriceLines.{cid_in, price_rows}
use Rattle.bidder_core.specs.declared.ledger.LedgerRow.{LedgerRow}
use Rattle.bidder_core.specs.declared.price_line.Price.{Price}
use Rattle.bidder_core.specs.declared.price_line.PriceLine.{PriceLine}
use Rattle.bidder_core.specs.declared.price_line.TheConstants.{MOST_PRICES}

-- the campaigns of prices
abbrev pub campaigns_of : List Price → List (List ℕ)
campaigns_of prices = map (λ p. p.cid) prices

-- the first fault of the prices that a value is
abbrev pub price_list_fault : Option Tree → Option RosterFault
price_list_fault value =
    or_else (unless (nat_le 1 (length (items_in value))) (BadField fields.Prices))
    (or_else (unless (nat_le (length (items_in value)) MOST_PRICES) TooMany)
    (or_else (first_among (λ before. price_rows (map (λ t. cid_in (Some t)) before)) [] (items_in value)) None))

-- a price is for this campaign
abbrev pub price_has_cid : List ℕ → Price → Bool
price_has_cid cid p = bytes_eq p.cid cid

-- a bidder: what it bids with, and the notices that were counted
pub record BidderState : Type 0 where
  pub line : PriceLine
  pub rows : List LedgerRow
