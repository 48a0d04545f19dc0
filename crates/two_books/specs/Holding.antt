-- What holds of a world at every moment, whatever steps it took: the invariant of its type. Private: a caller is reported what
-- follows of it, `BillsAgree`. This project's own.
use Rattle.std.specs.Prelude.{◌≡◌, ◌⊎◌, ℕ, ◌≤◌, List, [], ◌∷◌, ◌++◌, length, All, true, Some, IfSome}
use Rattle.adx_units.specs.declared.price.TheConstants.{PRICE_LIMIT}
use Rattle.day_rules.specs.DayState.{IsDay}
use Rattle.day_rules.specs.Entries.{asked}
use Rattle.day_rules.specs.declared.ask.Ask.{Ask}
use Rattle.day_rules.specs.declared.ask.Kept.{Kept}
use Rattle.day_rules.specs.declared.entry.Entry.{Entry}
use Rattle.notice_book.specs.declared.kind.NoticeKind.{NoticeKind}
use Rattle.bidder_core.specs.Answers.{notice_url}
use Rattle.bidder_core.specs.BidIds.{is_made}
use Rattle.bidder_core.specs.Ledger.{AreOnce}
use Rattle.bidder_core.specs.declared.ledger.LedgerRow.{LedgerRow}
use Rattle.outbox.specs.Bids.{Bid}
use Rattle.outbox.specs.Calls.{IsValidAs}
use Rattle.outbox.specs.Posts.{posts_of}
use Rattle.outbox.specs.declared.calling.Call.{Call}
use Rattle.outbox.specs.declared.post.Post.{Post}
use Rattle.two_books.specs.Names.{IsName}
use Rattle.two_books.specs.TwoBooks.{IsBillAt, bills_in}
use Rattle.two_books.specs.Worlds.{WorldState, message_of}

-- a URL for a notice of that kind, under an id that the bidder makes, or none
abbrev pub IsOwnUrl : List ℕ → ℕ → NoticeKind → List ℕ → Type 0
IsOwnUrl base prices kind url = (url ≡ []) ⊎ ((id : List ℕ) × (is_made prices id ≡ true) × (url ≡ notice_url base id kind))

-- texts of a bid of the bidder's own; of a lost bid the URLs of its win and its bill are gone
pub record AreOwnTexts (base : List ℕ) (prices : ℕ) (k : Kept) : Type 0 where
  pub nurl : IsOwnUrl base prices NoticeKind.Win k.nurl
  pub burl : IsOwnUrl base prices NoticeKind.Bill k.burl
  pub lurl : IsOwnUrl base prices NoticeKind.Loss k.lurl

-- an ask of which the bidder alone made bids
pub record IsOwnAsk (base : List ℕ) (prices : ℕ) (a : Ask) : Type 0 where
  pub texts : All (AreOwnTexts base prices) a.kept
  pub auction : IsName a.auction

abbrev pub IsOwnEntry : List ℕ → ℕ → Entry → Type 0
IsOwnEntry base prices e = IfSome (asked e) (IsOwnAsk base prices)

-- the charge of an award
abbrev pub IsCharge : Bid → Type 0
IsCharge b = (1 ≤ b.charge.0) × (b.charge.0 ≤ PRICE_LIMIT)

-- a post that the history asks for
abbrev pub IsAsked : List Entry → Post → Type 0
IsAsked history p = (front back : List Post) × (posts_of history ≡ front ++ p ∷ back)

-- a message that such a post is sent as, of a valid URL
abbrev pub IsSent : List Entry → Call → Type 0
IsSent history c = (p : Post) × IsAsked history p × (message_of p ≡ Some c) × IsValidAs p.url

-- what is pending and what was sent are posts of the history
pub record AreOfHistory (w : WorldState) : Type 0 where
  pub pending : All (IsAsked w.exchange.day.history) w.exchange.outbox.pending
  pub messages : All (IsSent w.exchange.day.history) w.messages

-- a counted bill is in the history, under the bid's id
pub record IsBilled (base : List ℕ) (history : List Entry) (r : LedgerRow) : Type 0 where
  pub place : ℕ
  pub at : IsBillAt history place r
  pub url : (IsBillAt.bid at).texts.burl ≡ notice_url base r.bid NoticeKind.Bill

-- what was counted is in the history, each notice once
pub record IsLedgerOf (base : List ℕ) (history : List Entry) (rows : List LedgerRow) : Type 0 where
  pub once : AreOnce rows
  pub billed : All (IsBilled base history) (bills_in rows)

pub record Holds (w : WorldState) : Type 0 where
  pub day : IsDay w.exchange.day.terms w.exchange.day.history
  pub own : All (IsOwnEntry w.bidder.line.base (length w.bidder.line.prices)) w.exchange.day.history
  pub posts : AreOfHistory w
  pub ledger : IsLedgerOf w.bidder.line.base w.exchange.day.history w.bidder.rows
