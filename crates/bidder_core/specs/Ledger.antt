-- A bidder's ledger: the notices that were counted, in their order. An award is an auction and the id of the bid that
-- won it, and is known from its first notice. This project's own; the kinds are the notices nurl, burl and lurl of
-- OpenRTB 2.6 (Bid).
use Rattle.std.specs.Prelude.{◌≡◌, ℕ, List, [], ◌∷◌, ◌++◌, Bool, true, false, ◌&&◌, ◌==◌, if◌then◌else◌, AllPairs, Option, Some, None}
use Rattle.std.specs.List.{list_any, sum_by, count_by}
use Rattle.std.specs.Str.{bytes_eq}
use Rattle.notice_book.specs.Rules.{ruling}
use Rattle.notice_book.specs.declared.award.End.{End}
use Rattle.notice_book.specs.declared.kind.NoticeKind.{NoticeKind}
use Rattle.notice_book.specs.declared.ruling.Ruling.{Ruling}
use Rattle.adx_units.specs.declared.units.Units.{Units}
use Rattle.bidder_core.specs.BidIds.{is_made, price_in}
use Rattle.bidder_core.specs.declared.ledger.LedgerRow.{LedgerRow}
use Rattle.bidder_core.specs.declared.ruling.BidderRuling.{BidderRuling}

-- two kinds of notice are the same
abbrev pub is_kind : NoticeKind → NoticeKind → Bool
is_kind NoticeKind.Win NoticeKind.Win = true
is_kind NoticeKind.Win NoticeKind.Bill = false
is_kind NoticeKind.Win NoticeKind.Loss = false
is_kind NoticeKind.Bill NoticeKind.Win = false
is_kind NoticeKind.Bill NoticeKind.Bill = true
is_kind NoticeKind.Bill NoticeKind.Loss = false
is_kind NoticeKind.Loss NoticeKind.Win = false
is_kind NoticeKind.Loss NoticeKind.Bill = false
is_kind NoticeKind.Loss NoticeKind.Loss = true

-- a notice of that award
abbrev pub is_of : List ℕ → List ℕ → LedgerRow → Bool
is_of auction bid r = bytes_eq r.auction auction && bytes_eq r.bid bid

-- a notice of that kind was counted for that award
abbrev pub was_counted : NoticeKind → List ℕ → List ℕ → List LedgerRow → Bool
was_counted kind auction bid rows = list_any (λ (r : LedgerRow). is_kind kind r.kind && is_of auction bid r) rows

-- how an award ended, by whether a bill and a loss of it were counted
abbrev pub end_of : Bool → Bool → Option End
end_of true loss = Some End.Billed
end_of false true = Some End.Lost
end_of false false = None

-- a bill ends it, else a loss does
abbrev pub end_in : List ℕ → List ℕ → List LedgerRow → Option End
end_in auction bid rows =
    end_of (was_counted NoticeKind.Bill auction bid rows) (was_counted NoticeKind.Loss auction bid rows)

-- the ruling of the notices' table on a notice, by what was counted for its award
abbrev pub ruling_in : NoticeKind → List ℕ → List ℕ → List LedgerRow → Ruling
ruling_in kind auction bid rows = ruling kind (was_counted NoticeKind.Win auction bid rows) (end_in auction bid rows)

abbrev pub known_ruling : Ruling → BidderRuling
known_ruling Ruling.Counted = BidderRuling.Counted
known_ruling Ruling.Repeat = BidderRuling.Repeat
known_ruling (Ruling.Conflict e) = BidderRuling.Conflict e

-- what a notice comes to at a bidder with so many prices: unknown where the bidder makes no such id
-- Example: a bill, the same bill with another price: counted, repeat, and one row with the first price
abbrev pub bidder_ruling : ℕ → NoticeKind → List ℕ → List ℕ → List LedgerRow → BidderRuling
bidder_ruling prices kind auction bid rows =
    if is_made prices bid then known_ruling (ruling_in kind auction bid rows) else BidderRuling.Unknown

-- the row of a notice of an auction's bid
abbrev pub row_of : (auction bid : List ℕ) → NoticeKind → Units → LedgerRow
row_of auction bid kind price = record { auction = auction; bid = bid; kind = kind; price = price }

-- the ledger after a notice: one that counts is added at its end, and any other changes nothing
abbrev pub rows_after : BidderRuling → LedgerRow → List LedgerRow → List LedgerRow
rows_after BidderRuling.Counted r rows = rows ++ r ∷ []
rows_after BidderRuling.Repeat r rows = rows
rows_after (BidderRuling.Conflict e) r rows = rows
rows_after BidderRuling.Unknown r rows = rows

-- a bill of a bid at the price in that place
abbrev pub is_bill_at : ℕ → LedgerRow → Bool
is_bill_at price r = is_kind NoticeKind.Bill r.kind && price_in r.bid == price

-- the sum of the bills at a price, and their number
abbrev pub billed_in : ℕ → List LedgerRow → ℕ
billed_in price rows = sum_by (λ (r : LedgerRow). if is_bill_at price r then r.price.0 else 0) rows

-- how many bills there are at a price
abbrev pub bill_count : ℕ → List LedgerRow → ℕ
bill_count price rows = count_by (is_bill_at price) rows

-- two notices of one kind and of one award
abbrev pub is_same_notice : LedgerRow → LedgerRow → Bool
is_same_notice r s = is_kind s.kind r.kind && is_of s.auction s.bid r

-- each notice is counted once
abbrev pub AreOnce : List LedgerRow → Type 0
AreOnce rows = AllPairs (λ r s. is_same_notice r s ≡ false) rows
