-- What a bidder hears of a message that fetches a notice's URL. The bytes of a message are those of a call that an outbox
-- makes; the notice of a request is what a bidder's pages read of it. This project's own; requests are those of RFC 9112.
use Rattle.std.specs.Prelude.{◌≡◌, ◌⊎◌, ℕ, ◌<◌, ◌≤◌, List, [], ◌∷◌, codes, length, All, Bool, Option, Some, None, Ok, IsUtf8, true, if◌then◌else◌}
use Rattle.url.specs.Parser.{parse_url}
use Rattle.url.specs.Parts.{Parts}
use Rattle.adx_units.specs.Money.{units}
use Rattle.adx_units.specs.declared.id.TheConstants.{LONGEST_ID}
use Rattle.adx_units.specs.declared.price.TheConstants.{PRICE_LIMIT}
use Rattle.adx_http.specs.Targets.{path_of, query_of}
use Rattle.http_connection.specs.Messages.{AreRequests, Request}
use Rattle.http_grammar.specs.Requests.{verb_of_method}
use Rattle.http_service.specs.declared.limits.TheConstants.{REQUEST_LIMIT}
use Rattle.notice_book.specs.declared.kind.NoticeKind.{NoticeKind}
use Rattle.notice_macros.specs.Expansion.{url_expansion}
use Rattle.notice_macros.specs.declared.values.Values.{Values}
use Rattle.bidder_core.specs.Answers.{notice_url}
use Rattle.bidder_core.specs.BidIds.{is_made}
use Rattle.bidder_core.specs.declared.ledger.LedgerRow.{LedgerRow}
use Rattle.bidder_core.specs.declared.price_line.TheConstants.{MOST_PRICES}
use Rattle.bidder_http.specs.Notices.{notice_in}
use Rattle.bidder_http.specs.Pages.{is_get, page_at}
use Rattle.bidder_http.specs.declared.page.Page.{Page}
use Rattle.outbox.specs.Calls.{IsValidAs, call_of, target_of}
use Rattle.outbox.specs.declared.calling.Call.{Call}
use Rattle.two_books.specs.OwnNotices.{HasPrice, IsUnmarked, told_price}

-- the notice that a request reports: one that is got at a page of notices, and whose query reports it
-- Example: a GET of `/n/bill?a=a1&b=0-0&p=2.5` reports the bill of the bid `0-0` of auction `a1` at 2,500,000 units,
-- and a POST of it reports none.
abbrev pub notice_at : Option Page → Bool → List ℕ → Option LedgerRow
notice_at None got query = None
notice_at (Some Page.Offers) got query = None
notice_at (Some (Page.Notices kind)) got query = if got then notice_in kind query else None
notice_at (Some Page.Books) got query = None
notice_at (Some Page.Ledger) got query = None

-- the notice that a request has, if it has one
abbrev pub notice_of : Request → Option LedgerRow
notice_of m =
    notice_at (page_at (path_of m.head.target)) (is_get (verb_of_method m.head.method)) (query_of m.head.target)

-- the bytes begin with these requests
abbrev pub BeginWith : List ℕ → List Request → Type 0
BeginWith bytes ms = (rest : List ℕ) × AreRequests REQUEST_LIMIT bytes ms rest

-- a GET of that target
pub record IsGet (target : List ℕ) (m : Request) : Type 0 where
  pub method : m.head.method ≡ codes "GET"
  pub target_is : m.head.target ≡ target

-- The bytes of a call of a valid URL begin with no request, where they are too long for one, or with just one, a GET of the
-- URL's path and query: no second request comes after it.
abbrev pub CallsAreOneRequest : Type 0
CallsAreOneRequest =
    (url : List ℕ) (c : Call) (ms : List Request)
    → call_of url ≡ Some c → IsValidAs url → BeginWith c.request ms
    → (ms ≡ []) ⊎ ((m : Request) × (ms ≡ m ∷ []) × (p : Parts) × (parse_url None url ≡ Ok p) × IsGet (target_of p) m)

-- the notice that the exchange put into a URL
abbrev pub notice_put : NoticeKind → List ℕ → List ℕ → ℕ → LedgerRow
notice_put kind auction bid price =
    record { auction = auction; bid = bid; kind = kind; price = units (told_price kind price) }

-- So a bidder reads of a message of its own notice just what the exchange put there, or nothing: where its base has a path
-- of its own, the page isn't one of the bidder's.
abbrev pub OwnMessagesAreRead : Type 0
OwnMessagesAreRead =
    (values : Values) (base bid : List ℕ) (kind : NoticeKind) (price : ℕ) (c : Call) (ms : List Request)
    → All IsUnmarked base
    → All (λ b. b < 256) values.auction.now → IsUtf8 values.auction.now
    → 1 ≤ length values.auction.now → length values.auction.now ≤ LONGEST_ID
    → HasPrice kind values.price price → 1 ≤ price → price ≤ PRICE_LIMIT
    → is_made MOST_PRICES bid ≡ true
    → call_of (url_expansion values (notice_url base bid kind)) ≡ Some c
    → IsValidAs (url_expansion values (notice_url base bid kind))
    → BeginWith c.request ms
    → All (λ (m : Request). (notice_of m ≡ None) ⊎ (notice_of m ≡ Some (notice_put kind values.auction.now bid price))) ms
