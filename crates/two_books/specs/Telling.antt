-- Private, cited by lemmas alone: what a post of a history reports, where all bids are a bidder's own.
use Rattle.std.specs.Prelude.{◌≡◌, ◌⊎◌, ℕ, List, Some, None, true, slice_get}
use Rattle.bidder_core.specs.Answers.{notice_url}
use Rattle.bidder_core.specs.BidIds.{is_made}
use Rattle.day_rules.specs.declared.entry.Entry.{Entry}
use Rattle.notice_book.specs.declared.kind.NoticeKind.{NoticeKind}
use Rattle.notice_macros.specs.Expansion.{url_expansion}
use Rattle.outbox.specs.Bids.{Bid, awarded}
use Rattle.outbox.specs.Posts.{values_of}
use Rattle.outbox.specs.declared.post.Post.{Post}
use Rattle.two_books.specs.Holding.{IsCharge}
use Rattle.two_books.specs.Names.{IsName}

-- it says of a win, with the charge
pub record TellsWin (base : List ℕ) (prices : ℕ) (p : Post) : Type 0 where
  pub bid : Bid
  pub id : List ℕ
  pub made : is_made prices id ≡ true
  pub auction : IsName bid.auction
  pub charge : IsCharge bid
  pub url : p.url ≡ url_expansion (values_of bid (Some bid.charge) 0) (notice_url base id NoticeKind.Win)

-- it says of the bill at a place of the history
pub record TellsBill (base : List ℕ) (prices : ℕ) (history : List Entry) (p : Post) : Type 0 where
  pub place : ℕ
  pub award : ℕ
  pub bid : Bid
  pub id : List ℕ
  pub made : is_made prices id ≡ true
  pub auction : IsName bid.auction
  pub charge : IsCharge bid
  pub entry : slice_get history place ≡ Some (Entry.Bill award)
  pub awarded_as : slice_get (awarded history) award ≡ Some bid
  pub template : bid.texts.burl ≡ notice_url base id NoticeKind.Bill
  pub url : p.url ≡ url_expansion (values_of bid (Some bid.charge) 0) (notice_url base id NoticeKind.Bill)

-- it says of a loss
pub record TellsLoss (base : List ℕ) (prices : ℕ) (p : Post) : Type 0 where
  pub bid : Bid
  pub id : List ℕ
  pub loss : ℕ
  pub made : is_made prices id ≡ true
  pub auction : IsName bid.auction
  pub url : p.url ≡ url_expansion (values_of bid None loss) (notice_url base id NoticeKind.Loss)

abbrev pub Tells : List ℕ → ℕ → List Entry → Post → Type 0
Tells base prices history p = TellsWin base prices p ⊎ (TellsBill base prices history p ⊎ TellsLoss base prices p)
