-- The reconciliation of the bills of two sides, an exchange and a bidder: for each auction and price, how many bills each
-- side has, where these numbers differ. This project's own; its lines are JSON (RFC 8259) in its one compact spelling.
use Rattle.std.specs.Prelude.{◌≡◌, ℕ, List, ◌++◌, not, Bool, ◌&&◌, ◌==◌, codes, decimal}
use Rattle.std.specs.Cmp.Lexicographic.{slice_cmp}
use Rattle.std.specs.List.{count_by, flat_map, list_any, sum_by}
use Rattle.std.specs.List.Sorted.{IsStrictlySortedBy}
use Rattle.std.specs.Ordering.{nat_cmp, on, then_cmp}
use Rattle.std.specs.Str.{bytes_eq}
use Rattle.std.specs.declared.cmp.Ordering.{Ordering}
use Rattle.adx_units.specs.JsonTexts.{text_spelling}
use Rattle.command_reconcile.specs.declared.bill.Bill.{Bill}

-- the auction of a bill
abbrev pub auction_of : Bill → List ℕ
auction_of b = b.auction

-- in units
abbrev pub price_of : Bill → ℕ
price_of b = b.price.0

-- the same auction and price
abbrev pub is_same : Bill → Bill → Bool
is_same a b = bytes_eq a.auction b.auction && a.price.0 == b.price.0

-- how many bills of that auction and price there are
abbrev pub number_of : Bill → List Bill → ℕ
number_of b bills = count_by (is_same b) bills

-- by the bytes of the auction, and then by the price
abbrev pub bill_cmp : Bill → Bill → Ordering
bill_cmp = then_cmp (on auction_of (slice_cmp nat_cmp)) (on price_of nat_cmp)

-- just the auctions and prices of which the two sides have different numbers of bills, in order
-- Example: an exchange with the bills (a, 5) and (a, 5) and a bidder with (a, 5) and (b, 7) differ in (a, 5), two
-- to one, and in (b, 7), none to one.
pub record AreDifferences (exchange bidder differences : List Bill) : Type 0 where
  pub sorted : IsStrictlySortedBy bill_cmp differences
  pub just : (b : Bill) → list_any (is_same b) differences ≡ not (number_of b exchange == number_of b bidder)

-- an auction and a price, and the two numbers
abbrev pub difference_line : List Bill → List Bill → Bill → List ℕ
difference_line exchange bidder b =
    codes "{\"auction\":" ++ text_spelling b.auction ++ codes ",\"price\":" ++ decimal b.price.0
    ++ codes ",\"exchange\":" ++ decimal (number_of b exchange) ++ codes ",\"bidder\":" ++ decimal (number_of b bidder) ++ codes "}\n"

-- what bills come to, in units
abbrev pub sum_of : List Bill → ℕ
sum_of bills = sum_by price_of bills

abbrev pub sums_line : List Bill → List Bill → List ℕ
sums_line exchange bidder = codes "{\"exchange\":" ++ decimal (sum_of exchange) ++ codes ",\"bidder\":" ++ decimal (sum_of bidder) ++ codes "}\n"

-- the whole output: a line for each difference, and the two sums
pub record IsReconciliation (exchange bidder : List Bill) (out : List ℕ) : Type 0 where
  pub differences : List Bill
  pub are_those : AreDifferences exchange bidder differences
  pub spelled : out ≡ flat_map (difference_line exchange bidder) differences ++ sums_line exchange bidder
