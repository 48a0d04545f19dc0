-- Private: what holds of a world at every moment beside the invariant of its type, and makes the two sums one. This
-- project's own.
use Rattle.std.specs.Prelude.{◌≡◌, ◌⊎◌, ℕ, ◌<◌, ◌≤◌, List, [], ◌∷◌, length, map, take, All, true, Some, IfSome, ⊤}
use Rattle.bidder_core.specs.Answers.{notice_url}
use Rattle.bidder_core.specs.BidIds.{is_made}
use Rattle.bidder_core.specs.Ledger.{was_counted}
use Rattle.bidder_core.specs.declared.ledger.LedgerRow.{LedgerRow}
use Rattle.bidder_core.specs.declared.price_line.PriceLine.{PriceLine}
use Rattle.day_rules.specs.Entries.{asked}
use Rattle.day_rules.specs.declared.ask.Ask.{Ask}
use Rattle.day_rules.specs.declared.ask.Kept.{Kept}
use Rattle.day_rules.specs.declared.entry.Entry.{Entry}
use Rattle.notice_book.specs.declared.kind.NoticeKind.{NoticeKind}
use Rattle.notice_macros.specs.Expansion.{url_expansion}
use Rattle.outbox.specs.Bids.{Bid}
use Rattle.outbox.specs.Posts.{posts_of, values_of}
use Rattle.outbox.specs.declared.post.Post.{Post}
use Rattle.two_books.specs.Holding.{IsCharge}
use Rattle.two_books.specs.Names.{IsName}
use Rattle.outbox.specs.Calls.{IsValidAs}
use Rattle.outbox.specs.Pumping.{ComesTo}
use Rattle.outbox.specs.declared.outbox.TheConstants.{ANSWER_LIMIT}
use Rattle.outbox.specs.declared.report.Outcome.{Outcome}
use Rattle.two_books.specs.LateReplies.{is_sent_as}
use Rattle.two_books.specs.Worlds.{WorldState}
use Rattle.two_books.specs.declared.late.Late.{Late}

-- each item is so beside every later one
abbrev pub Distinct : {X : Type 0} → (X → X → Type 0) → List X → Type 0
Distinct R [] = ⊤
Distinct R (x ∷ xs) = All (R x) xs × Distinct R xs

-- two URLs are one only where there is none
abbrev pub AreApart : List ℕ → List ℕ → Type 0
AreApart u v = u ≡ v → u ≡ []

abbrev pub burls : List Kept → List (List ℕ)
burls kept = map (λ (k : Kept). k.burl) kept

-- no two bids of an ask have one URL for their bills
abbrev pub IsApartEntry : Entry → Type 0
IsApartEntry e = IfSome (asked e) (λ (a : Ask). Distinct AreApart (burls a.kept))

-- a post that reports a bill of a bid of the bidder's own
pub record NamesBill (line : PriceLine) (p : Post) : Type 0 where
  pub bid : Bid
  pub id : List ℕ
  pub made : is_made (length line.prices) id ≡ true
  pub auction : IsName bid.auction
  pub charge : IsCharge bid
  pub url : p.url ≡ url_expansion (values_of bid (Some bid.charge) 0) (notice_url line.base id NoticeKind.Bill)

-- a bill that the post reports was counted
abbrev pub IsCounted : PriceLine → List LedgerRow → Post → Type 0
IsCounted line rows p = (t : NamesBill line p) → was_counted NoticeKind.Bill (NamesBill.bid t).auction (NamesBill.id t) rows ≡ true

abbrev pub Among : Post → List Post → Type 0
Among p [] = ⊥
Among p (q ∷ qs) = (p ≡ q) ⊎ Among p qs

-- what became of a post that was asked for: it is pending, or some post was given up, or its bill was counted
abbrev pub IsSettled : PriceLine → List Post → ℕ → List LedgerRow → Post → Type 0
IsSettled line pending given_up rows p = Among p pending ⊎ ((0 < given_up) ⊎ IsCounted line rows p)

-- a success that a reply tells of a post was counted
abbrev pub IsLateCounted : PriceLine → List LedgerRow → Late → Type 0
IsLateCounted line rows late =
    (p : Post) → IsValidAs p.url → is_sent_as late.request p ≡ true → ComesTo ANSWER_LIMIT late.bytes Outcome.Delivered → IsCounted line rows p

pub record Settles (w : WorldState) : Type 0 where
  pub front : w.exchange.outbox.followed ≤ length w.exchange.day.history
  pub apart : All IsApartEntry w.exchange.day.history
  pub told :
      All (IsSettled w.bidder.line w.exchange.outbox.pending w.exchange.outbox.undeliverable w.bidder.rows)
      (posts_of (take w.exchange.outbox.followed w.exchange.day.history))
  pub late : All (IsLateCounted w.bidder.line w.bidder.rows) w.replies
