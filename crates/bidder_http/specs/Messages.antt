-- What a message means to a bidder: what it is answered, and the bidder's ledger then. The path is looked at first, then
-- the method, then the query or the body. This project's own.
use Rattle.std.specs.Prelude.{◌≡◌, ℕ, List, codes, Bool, true, false, Option, Some, None}
use Rattle.adx_http.specs.Targets.{path_of, query_of}
use Rattle.bidder_core.specs.Seen.{BidderState}
use Rattle.bidder_core.specs.declared.ledger.LedgerRow.{LedgerRow}
use Rattle.http_connection.specs.Messages.{Request}
use Rattle.http_grammar.specs.Requests.{verb_of_method}
use Rattle.http_grammar.specs.declared.verb.Verb.{Verb}
use Rattle.http_service.specs.declared.answer.Answer.{Answer}
use Rattle.http_service.specs.Bodies.{disallowed, plain, refused_body}
use Rattle.bidder_http.specs.Books.{books_text, ledger_text}
use Rattle.bidder_http.specs.Notices.{AnswersNotice}
use Rattle.bidder_http.specs.Offers.{AnswersOffer}
use Rattle.bidder_http.specs.Pages.{is_served, methods_of, page_at}
use Rattle.bidder_http.specs.declared.page.Page.{Page}

-- what a page that is served answers, by the query and the body, and the ledger then
abbrev pub AnswersPage : Page → BidderState → List ℕ → List ℕ → Answer → List ℕ → List LedgerRow → Type 0
AnswersPage Page.Offers b query bytes a body rows = AnswersOffer b.line bytes a body × (rows ≡ b.rows)
AnswersPage (Page.Notices kind) b query bytes a body rows = AnswersNotice kind query b a body rows
AnswersPage Page.Books b query bytes a body rows = (a ≡ plain 200) × (body ≡ books_text b.line b.rows) × (rows ≡ b.rows)
AnswersPage Page.Ledger b query bytes a body rows = (a ≡ plain 200) × (body ≡ ledger_text b.rows) × (rows ≡ b.rows)

-- a page is served by its method alone
abbrev pub AnswersMethod : Bool → Page → BidderState → List ℕ → List ℕ → Answer → List ℕ → List LedgerRow → Type 0
AnswersMethod true page b query bytes a body rows = AnswersPage page b query bytes a body rows
AnswersMethod false page b query bytes a body rows = (a ≡ disallowed (methods_of page)) × (body ≡ refused_body (codes "method")) × (rows ≡ b.rows)

-- how a bidder answers a message of this page and method: status, body and the ledger after it
abbrev pub AnswersAt : Option Page → Verb → BidderState → List ℕ → List ℕ → Answer → List ℕ → List LedgerRow → Type 0
AnswersAt None verb b query bytes a body rows = (a ≡ plain 404) × (body ≡ refused_body (codes "path")) × (rows ≡ b.rows)
AnswersAt (Some page) verb b query bytes a body rows = AnswersMethod (is_served page verb) page b query bytes a body rows

-- what a target answers by its path and its query
abbrev pub AnswersTarget : List ℕ → Verb → BidderState → List ℕ → Answer → List ℕ → List LedgerRow → Type 0
AnswersTarget target verb b bytes a body rows = AnswersAt (page_at (path_of target)) verb b (query_of target) bytes a body rows

-- what a bidder answers to a message; what it bids with stays
abbrev pub BidderAnswers : BidderState → Request → Answer → List ℕ → BidderState → Type 0
BidderAnswers b m a body now = (now.line ≡ b.line) × AnswersTarget m.head.target (verb_of_method m.head.method) b m.body a body now.rows

-- a message that isn't answered for lack of memory changes nothing
abbrev pub BidderGivesUp : BidderState → Request → BidderState → Type 0
BidderGivesUp b m now = (now.line ≡ b.line) × (now.rows ≡ b.rows)
