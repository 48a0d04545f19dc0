-- That the two sums are one where nothing of a bill is left over. This project's own.
use Rattle.std.specs.Prelude.{◌≡◌, ◌≢◌, ◌≤◌, ◌⊎◌, ℕ, List, [], length, All, false, true, Some, slice_get}
use Rattle.notice_book.specs.Rules.{is_billed}
use Rattle.notice_book.specs.declared.award.Award.{Award}
use Rattle.bidder_core.specs.declared.ledger.LedgerRow.{LedgerRow}
use Rattle.day_rules.specs.Books.{awards_of}
use Rattle.day_rules.specs.declared.entry.Entry.{Entry}
use Rattle.outbox.specs.Bids.{Bid, awarded, awarded_bids}
use Rattle.outbox.specs.declared.post.Post.{Post}
use Rattle.outbox.specs.declared.post.PostKind.{PostKind}
use Rattle.two_books.specs.TwoBooks.{bills_in, day_sum, ledger_sum}
use Rattle.two_books.specs.Worlds.{WorldState}

-- no post of a bill is pending
abbrev pub HasNoBill : List Post → Type 0
HasNoBill posts = All (λ (p : Post). p.kind ≢ PostKind.Burl) posts

-- an award that was billed has a URL for its bill
abbrev pub HasBurl : Bid × Award → Type 0
HasBurl p = (is_billed p.1.end ≡ false) ⊎ (p.0.texts.burl ≢ [])

-- Nothing of a bill is left over: the outbox followed the whole history, no bill is pending, no post was given up, and each
-- billed award has a URL for its bill.
pub record HasNothingLeft (w : WorldState) : Type 0 where
  pub followed : w.exchange.outbox.followed ≡ length w.exchange.day.history
  pub pending : HasNoBill w.exchange.outbox.pending
  pub none_given_up : w.exchange.outbox.undeliverable ≡ 0
  pub urls : All HasBurl (awarded_bids w.exchange.day.history)

-- the award with this number has its row among these bills: one of the same auction at the same charge
pub record HasRowIn (history : List Entry) (bills : List LedgerRow) (n : ℕ) : Type 0 where
  pub place : ℕ
  pub row : LedgerRow
  pub listed : slice_get bills place ≡ Some row
  pub bid : Bid
  pub awarded_as : slice_get (awarded history) n ≡ Some bid
  pub auction : bid.auction ≡ row.auction
  pub charge : bid.charge ≡ row.price

-- each billed award of the history has its row among the ledger's bills
abbrev pub HasEachBill : List Entry → List LedgerRow → Type 0
HasEachBill history rows =
    (n : ℕ) (a : Award) → slice_get (awards_of history) n ≡ Some a → is_billed a.end ≡ true → HasRowIn history (bills_in rows) n

-- What the two sums of a world say at every moment: that of the bills that the bidder counted is at most that of the
-- exchange; where nothing of a bill is left over they are equal; and where they are equal no bill is missing.
pub record HasSums (w : WorldState) : Type 0 where
  pub below : ledger_sum w.bidder.rows ≤ day_sum w.exchange.day.history
  pub equal : HasNothingLeft w → ledger_sum w.bidder.rows ≡ day_sum w.exchange.day.history
  pub whole : ledger_sum w.bidder.rows ≡ day_sum w.exchange.day.history → HasEachBill w.exchange.day.history w.bidder.rows
