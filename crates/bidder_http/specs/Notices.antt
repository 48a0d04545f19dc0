-- What a bidder answers to a notice: by the query's auction, bid and price, and by the ledger. This project's own; the
-- notices are nurl, burl and lurl of OpenRTB 2.6 (Bid).
use Rattle.std.specs.Prelude.{◌≡◌, ℕ, List, [], codes, length, Option, Some, None, Result, Ok, Err, if◌then◌else◌}
use Rattle.adx_http.specs.Targets.{value_of}
use Rattle.adx_units.specs.Money.{price_of, units}
use Rattle.adx_units.specs.declared.price.PriceFault.{PriceFault}
use Rattle.adx_units.specs.declared.units.Units.{Units}
use Rattle.rtb_request.specs.Amounts.{is_id_text}
use Rattle.notice_book.specs.declared.kind.NoticeKind.{NoticeKind}
use Rattle.answer_lines.specs.Answers.{conflict_line}
use Rattle.bidder_core.specs.Ledger.{bidder_ruling, rows_after}
use Rattle.bidder_core.specs.Seen.{BidderState}
use Rattle.bidder_core.specs.declared.ledger.LedgerRow.{LedgerRow}
use Rattle.bidder_core.specs.declared.ruling.BidderRuling.{BidderRuling}
use Rattle.http_service.specs.declared.answer.Answer.{Answer}
use Rattle.http_service.specs.Bodies.{plain, refused_body}

-- a text of 1 to 128 bytes names an auction
abbrev pub auction_by : Option (List ℕ) → Option (List ℕ)
auction_by None = None
auction_by (Some text) = if is_id_text (Some text) then Some text else None

-- the auction that a query names, of 1 to 128 bytes
-- Example: `a=a1&b=0-0&p=2.5` at `/n/bill` is a bill of 2,500,000 units.
abbrev pub auction_in : List ℕ → Option (List ℕ)
auction_in query = auction_by (value_of (codes "a") query)

-- the price, if there is no fault
abbrev pub priced : Result Units PriceFault → Option Units
priced (Ok price) = Some price
priced (Err fault) = None

-- a price in CPM dollars, in units; a loss may have none, which is 0
abbrev pub price_by : Option (List ℕ) → NoticeKind → Option Units
price_by (Some text) kind = priced (price_of text)
price_by None NoticeKind.Win = None
price_by None NoticeKind.Bill = None
price_by None NoticeKind.Loss = Some (units 0)

-- the price that a query says, in units; 0 for a loss without one
abbrev pub price_in : NoticeKind → List ℕ → Option Units
price_in kind query = price_by (value_of (codes "p") query) kind

-- the notice that these three are, if none of them is missing
abbrev pub notice_by : NoticeKind → Option (List ℕ) → Option (List ℕ) → Option Units → Option LedgerRow
notice_by kind None bid price = None
notice_by kind (Some auction) None price = None
notice_by kind (Some auction) (Some bid) None = None
notice_by kind (Some auction) (Some bid) (Some price) = Some (record { auction = auction; bid = bid; kind = kind; price = price })

-- the notice that a query says: an auction, a bid and a price; none where one of them is missing
abbrev pub notice_in : NoticeKind → List ℕ → Option LedgerRow
notice_in kind query = notice_by kind (auction_in query) (value_of (codes "b") query) (price_in kind query)

-- a notice that counts and one that came before are answered alike
abbrev pub ruled_answer : BidderRuling → Answer
ruled_answer BidderRuling.Counted = plain 204
ruled_answer BidderRuling.Repeat = plain 204
ruled_answer (BidderRuling.Conflict end) = plain 409
ruled_answer BidderRuling.Unknown = plain 404

-- the body of the answer to a notice: empty where it counts or came before, and else a line that says why it doesn't
-- count
abbrev pub ruled_body : BidderRuling → List ℕ
ruled_body BidderRuling.Counted = []
ruled_body BidderRuling.Repeat = []
ruled_body (BidderRuling.Conflict end) = conflict_line end
ruled_body BidderRuling.Unknown = codes "{\"answer\":\"unknown\"}"

-- a notice is answered by its ruling, and counted where it is new
abbrev pub ruling_on : BidderState → LedgerRow → BidderRuling
ruling_on b row = bidder_ruling (length b.line.prices) row.kind row.auction row.bid b.rows

-- what is answered to the notice, and the ledger then
abbrev pub TellsNotice : Option LedgerRow → BidderState → Answer → List ℕ → List LedgerRow → Type 0
TellsNotice None b a body rows = (a ≡ plain 400) × (body ≡ refused_body (codes "call")) × (rows ≡ b.rows)
TellsNotice (Some row) b a body rows =
    (a ≡ ruled_answer (ruling_on b row)) × (body ≡ ruled_body (ruling_on b row)) × (rows ≡ rows_after (ruling_on b row) row b.rows)

-- what a notice is answered, and the ledger after it
abbrev pub AnswersNotice : NoticeKind → List ℕ → BidderState → Answer → List ℕ → List LedgerRow → Type 0
AnswersNotice kind query b a body rows = TellsNotice (notice_in kind query) b a body rows
