-- What becomes of a bidder's own notice URLs. The exchange fills the macros of the bidder's template in, and the bidder
-- reads the auction, the bid and the price of the query. This project's own; the macros are those of OpenRTB 2.6, section
-- 4.4, and URLs and the pairs of a query those of the URL Standard (sections 4 and 5).
use Rattle.std.specs.Prelude.{◌≡◌, ◌≢◌, ℕ, ◌≤◌, ◌<◌, List, [], ◌∷◌, ◌++◌, codes, length, All, Option, Some, None, Ok, IsUtf8, true, ⊤}
use Rattle.std.specs.List.{flat_map}
use Rattle.url.specs.Parser.{parse_url}
use Rattle.url.specs.Parts.{Parts}
use Rattle.adx_units.specs.Money.{price_text, units}
use Rattle.adx_units.specs.declared.id.TheConstants.{LONGEST_ID}
use Rattle.adx_units.specs.declared.price.TheConstants.{PRICE_LIMIT}
use Rattle.adx_units.specs.declared.units.Units.{Units}
use Rattle.notice_book.specs.declared.kind.NoticeKind.{NoticeKind}
use Rattle.notice_macros.specs.Escaped.{url_byte}
use Rattle.notice_macros.specs.Expansion.{url_expansion}
use Rattle.notice_macros.specs.declared.values.Values.{Values}
use Rattle.bidder_core.specs.Answers.{notice_url}
use Rattle.bidder_core.specs.BidIds.{is_made}
use Rattle.bidder_core.specs.declared.price_line.TheConstants.{MOST_PRICES}
use Rattle.bidder_http.specs.Notices.{notice_in}

-- a value as it is in a URL
-- Example: a bill of the bid `0-0` of auction `a 1` at 2,500,000 units has the query `a=a%201&b=0-0&p=2.5`.
abbrev pub escaped : List ℕ → List ℕ
escaped text = flat_map url_byte text

-- the path of a notice after the bidder's base
abbrev pub page_path : NoticeKind → List ℕ
page_path NoticeKind.Win = codes "/n/win"
page_path NoticeKind.Bill = codes "/n/bill"
page_path NoticeKind.Loss = codes "/n/loss"

-- what a notice says of the price; a loss reports none
abbrev pub price_pair : NoticeKind → ℕ → List ℕ
price_pair NoticeKind.Win price = codes "&p=" ++ escaped (price_text price)
price_pair NoticeKind.Bill price = codes "&p=" ++ escaped (price_text price)
price_pair NoticeKind.Loss price = []

-- the query of a notice: the auction, the bid and the price
abbrev pub notice_query : NoticeKind → List ℕ → List ℕ → ℕ → List ℕ
notice_query kind auction bid price = codes "a=" ++ (escaped auction ++ (codes "&b=" ++ (bid ++ price_pair kind price)))

-- the price that a notice of that kind reports: a loss reports none, which counts as 0
abbrev pub told_price : NoticeKind → ℕ → ℕ
told_price NoticeKind.Win price = price
told_price NoticeKind.Bill price = price
told_price NoticeKind.Loss price = 0

-- the price that the exchange has for a notice of that kind; a loss needs none
abbrev pub HasPrice : NoticeKind → Option Units → ℕ → Type 0
HasPrice NoticeKind.Win paid price = paid ≡ Some (units price)
HasPrice NoticeKind.Bill paid price = paid ≡ Some (units price)
HasPrice NoticeKind.Loss paid price = ⊤

-- no `#` and no `?`
abbrev pub IsUnmarked : ℕ → Type 0
IsUnmarked b = (b ≢ 35) × (b ≢ 63)

-- The exchange makes of a bidder's template the base, with what macros it may hold filled in too, the page, and the query.
abbrev pub TemplatesBecomeUrls : Type 0
TemplatesBecomeUrls =
    (values : Values) (base bid : List ℕ) (kind : NoticeKind) (price : ℕ)
    → HasPrice kind values.price price
    → is_made MOST_PRICES bid ≡ true
    → url_expansion values (notice_url base bid kind)
    ≡ url_expansion values base ++ (page_path kind ++ 63 ∷ notice_query kind values.auction.now bid price)

-- A URL with that query after a front without `?` and `#` has just that query, whatever else the parser makes of it.
abbrev pub UrlsKeepQueries : Type 0
UrlsKeepQueries =
    (front : List ℕ) (kind : NoticeKind) (auction bid : List ℕ) (price : ℕ) (parts : Parts)
    → All IsUnmarked front
    → is_made MOST_PRICES bid ≡ true
    → parse_url None (front ++ 63 ∷ notice_query kind auction bid price) ≡ Ok parts
    → parts.query ≡ Some (notice_query kind auction bid price)

-- The bidder reads of that query the auction, the bid and the price that the exchange put there.
abbrev pub QueriesAreReadBack : Type 0
QueriesAreReadBack =
    (kind : NoticeKind) (auction bid : List ℕ) (price : ℕ)
    → All (λ b. b < 256) auction → IsUtf8 auction → 1 ≤ length auction → length auction ≤ LONGEST_ID
    → is_made MOST_PRICES bid ≡ true
    → 1 ≤ price → price ≤ PRICE_LIMIT
    → notice_in kind (notice_query kind auction bid price)
    ≡ Some (record { auction = auction; bid = bid; kind = kind; price = units (told_price kind price) })
