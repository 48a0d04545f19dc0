-- The substitution macros of a notice or a markup (OpenRTB 2.6, section 4.4) and what each becomes.
-- Where this project narrows the standard: the market bid ratio and the minimum to win are never known, so nothing
-- comes in their place; the currency is always USD; `B64` is the one coding that sides may agree on. The two names that
-- later releases of 2.6 add for several impressions at once (`AUCTION_MULTIPLIER`, `AUCTION_IMP_TS`) are no macros
-- here: this project sells single impressions.
use Rattle.std.specs.Prelude.{ℕ, List, [], Bool, ◌==◌, codes, decimal, Option, Some, None, if◌then◌else◌}
use Rattle.std.specs.List.{list_any, before_first, after_first}
use Rattle.std.specs.Str.{bytes_eq}
use Rattle.adx_units.specs.Money.{price_text}
use Rattle.adx_units.specs.declared.units.Units.{Units}
use Rattle.notice_macros.specs.declared.macros.Name.{Name}
use Rattle.notice_macros.specs.declared.macros.Name.TheVariants.{AuctionId, BidId, ImpId, SeatId, AdId, Price, Currency, MarketBidRatio, Loss, MinToWin}
use Rattle.notice_macros.specs.declared.macros.Form.{Form}
use Rattle.notice_macros.specs.declared.macros.Form.TheVariants.{Plain, Base64}
use Rattle.notice_macros.specs.declared.macros.Macro.{Macro}
use Rattle.notice_macros.specs.declared.values.Values.{Values}

-- the row of the table with this name; any other name is no macro
abbrev pub name_of : List ℕ → Option Name
name_of t =
    if bytes_eq t (codes "AUCTION_ID") then Some AuctionId
    else (if bytes_eq t (codes "AUCTION_BID_ID") then Some BidId
    else (if bytes_eq t (codes "AUCTION_IMP_ID") then Some ImpId
    else (if bytes_eq t (codes "AUCTION_SEAT_ID") then Some SeatId
    else (if bytes_eq t (codes "AUCTION_AD_ID") then Some AdId
    else (if bytes_eq t (codes "AUCTION_PRICE") then Some Price
    else (if bytes_eq t (codes "AUCTION_CURRENCY") then Some Currency
    else (if bytes_eq t (codes "AUCTION_MBR") then Some MarketBidRatio
    else (if bytes_eq t (codes "AUCTION_LOSS") then Some Loss
    else (if bytes_eq t (codes "AUCTION_MIN_TO_WIN") then Some MinToWin
    else None)))))))))

-- the text of a price; nothing where there is none
abbrev pub charge_text : Option Units → List ℕ
charge_text None = []
charge_text (Some price) = price_text price.0

-- what a macro becomes: nothing for a text that is empty
abbrev pub value_of : Values → Name → List ℕ
value_of v AuctionId = v.auction.now
value_of v BidId = v.bidid.now
value_of v ImpId = v.imp.now
value_of v SeatId = v.seat.now
value_of v AdId = v.adid.now
value_of v Price = charge_text v.price
value_of v Currency = codes "USD"
value_of v MarketBidRatio = []
value_of v Loss = decimal v.loss
value_of v MinToWin = []

-- ':'
abbrev pub colon : ℕ
colon = 58

-- the byte before a macro's encoding
abbrev pub is_colon : ℕ → Bool
is_colon b = b == colon

-- a name in a form
abbrev pub in_form : Form → Option Name → Option Macro
in_form form None = None
in_form form (Some name) = Some (record { name = name; form = form })

-- the macro that is written so between the braces: NAME, or NAME:B64, where no other coding is known
abbrev pub macro_of : List ℕ → Option Macro
macro_of t =
    if list_any is_colon t
    then (if bytes_eq (after_first is_colon t) (codes "B64") then in_form Base64 (name_of (before_first is_colon t)) else None)
    else in_form Plain (name_of t)
