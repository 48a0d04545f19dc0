-- Private, cited by the ledger alone: its value, and what its fields keep of the rows.
use Rattle.std.specs.Prelude.{◌≡◌, ℕ, ◌+◌, ◌*◌, ◌<◌, ◌≤◌, ◌-◌, ◌^◌, List, ◌∷◌, ◌++◌, length, All, Bool, true, false, ◌==◌, slice_index_or, unwrap_or, Some, None, String}
use Rattle.std.specs.Global.{Global}
use Rattle.std.specs.List.{list_any}
use Rattle.indexmap.specs.IndexMap.{IndexMap, get_by_text}
use Rattle.notice_book.specs.declared.award.End.{End}
use Rattle.notice_book.specs.declared.kind.NoticeKind.{NoticeKind}
use Rattle.bidder_core.specs.BidIds.{is_made}
use Rattle.bidder_core.specs.Ledger.{AreOnce, bill_count, billed_in, end_in, was_counted}
use Rattle.bidder_core.specs.declared.ledger.LedgerRow.{LedgerRow}
use Rattle.bidder_core.specs.declared.award.Noticed.{Noticed}
use Rattle.bidder_core.specs.declared.sums.BillSum.{BillSum}

-- the counted notices, and how many prices the bidder has
pub record LedgerState : Type 0 where
  pub rows : List LedgerRow
  pub prices : ℕ

-- what was counted for an award
abbrev pub noticed_in : List ℕ → List ℕ → List LedgerRow → Noticed
noticed_in auction bid rows = record { won = was_counted NoticeKind.Win auction bid rows; end = end_in auction bid rows }

-- an award of which nothing was counted
abbrev pub unnoticed : Noticed
unnoticed = record { won = false; end = None }

-- the award after a notice that counts
abbrev pub noticed_by : NoticeKind → Noticed → Noticed
noticed_by NoticeKind.Win n = record n { won = true }
noticed_by NoticeKind.Bill n = record n { end = Some End.Billed }
noticed_by NoticeKind.Loss n = record n { end = Some End.Lost }

-- the key of an award: its bid's id, which has no slash, a slash, and its auction
abbrev pub key_of : List ℕ → List ℕ → List ℕ
key_of auction bid = bid ++ 47 ∷ auction

abbrev pub has_slash : List ℕ → Bool
has_slash bid = list_any (λ b. b == 47) bid

abbrev pub noticed_at : {S : Type 0} → IndexMap (String Global) Noticed S → List ℕ → Noticed
noticed_at known key = unwrap_or (get_by_text known key) unnoticed

-- the sum of the bills at a price
abbrev pub sum_in : ℕ → List LedgerRow → BillSum
sum_in price rows = record { billed = billed_in price rows; count = bill_count price rows }

-- the sum after a notice that counts
abbrev pub summed_by : NoticeKind → ℕ → BillSum → BillSum
summed_by NoticeKind.Win price s = s
summed_by NoticeKind.Bill price s = record { billed = s.billed + price; count = s.count + 1 }
summed_by NoticeKind.Loss price s = s

abbrev pub no_bill : BillSum
no_bill = record { billed = 0; count = 0 }

-- the sum kept for a price is that of its bills, each of less than 2^64 units
pub record IsSum (price : ℕ) (rows : List LedgerRow) (s : BillSum) : Type 0 where
  pub is : s ≡ sum_in price rows
  pub low : s.billed ≤ s.count * (2 ^ 64 - 1)

pub record AreKept {S : Type 0} (rows : List LedgerRow) (known : IndexMap (String Global) Noticed S) (sums : List BillSum) : Type 0 where
  pub some : 1 ≤ length sums
  pub made : All (λ (r : LedgerRow). is_made (length sums) r.bid ≡ true) rows
  pub once : AreOnce rows
  pub known_is : (auction bid : List ℕ) → has_slash bid ≡ false → noticed_at known (key_of auction bid) ≡ noticed_in auction bid rows
  pub sums_are : (price : ℕ) → price < length sums → IsSum price rows (slice_index_or sums price no_bill)
