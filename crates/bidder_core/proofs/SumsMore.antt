-- The sums of the bills, after one more notice that counts.
use Rattle.std.proofs.Common.{◌≡◌, ℕ, ◌+◌, ◌*◌, ◌≤◌, List, [], ◌∷◌, ◌++◌, ◌&&◌, ◌==◌, Bool, true, false, cond, sym, ap, ap₂, ◌∙◌, arith, mul-le-mul_right}
use Rattle.std.proofs.lemmas.Bool.{eq-eqb, ne_eqb}
use Rattle.std.proofs.lemmas.List.Sums.{sum_by_push}
use Rattle.notice_book.specs.declared.kind.NoticeKind.{NoticeKind}
use Rattle.bidder_core.specs.BidIds.{price_in}
use Rattle.bidder_core.specs.Ledger.{bill_count, billed_in, is_bill_at, is_kind}
use Rattle.bidder_core.specs.LedgerState.{sum_in, summed_by}
use Rattle.bidder_core.specs.declared.ledger.LedgerRow.{LedgerRow}
use Rattle.bidder_core.specs.declared.sums.BillSum.{BillSum}

abbrev sum_of : ℕ → ℕ → BillSum
sum_of billed count = record { billed = billed; count = count }

-- a row adds its price and one where it is a bill at the price
sum_push : (price : ℕ) (rows : List LedgerRow) (r : LedgerRow)
    → sum_in price (rows ++ r ∷ []) ≡ sum_of (billed_in price rows + cond (is_bill_at price r) r.price.0 0) (bill_count price rows + cond (is_bill_at price r) 1 0)
sum_push price rows r =
    ap₂ sum_of (sum_by_push (λ (s : LedgerRow). cond (is_bill_at price s) s.price.0 0) rows r) (sum_by_push (λ (s : LedgerRow). cond (is_bill_at price s) 1 0) rows r)

by_kind : (kind : NoticeKind) (b : Bool) (m n u : ℕ) → b ≡ true
    → sum_of (m + cond (is_kind NoticeKind.Bill kind && b) u 0) (n + cond (is_kind NoticeKind.Bill kind && b) 1 0) ≡ summed_by kind u (sum_of m n)
by_kind NoticeKind.Win b m n u h = ap₂ sum_of (omega arith) (omega arith)
by_kind NoticeKind.Bill b m n u h = ap₂ sum_of (ap (λ t. m + cond t u 0) h) (ap (λ t. n + cond t 1 0) h)
by_kind NoticeKind.Loss b m n u h = ap₂ sum_of (omega arith) (omega arith)

elsewhere : (kind : NoticeKind) (b : Bool) (m n u : ℕ) → b ≡ false
    → sum_of (m + cond (is_kind NoticeKind.Bill kind && b) u 0) (n + cond (is_kind NoticeKind.Bill kind && b) 1 0) ≡ sum_of m n
elsewhere NoticeKind.Win b m n u h = ap₂ sum_of (omega arith) (omega arith)
elsewhere NoticeKind.Bill true m n u h = cc
elsewhere NoticeKind.Bill false m n u h = ap₂ sum_of (omega arith) (omega arith)
elsewhere NoticeKind.Loss b m n u h = ap₂ sum_of (omega arith) (omega arith)

-- the sum of the price that the notice's bid names
pub sum_more : (price : ℕ) (rows : List LedgerRow) (r : LedgerRow) → price ≡ price_in r.bid
    → sum_in price (rows ++ r ∷ []) ≡ summed_by r.kind r.price.0 (sum_in price rows)
sum_more price rows r is =
    sum_push price rows r ∙ by_kind r.kind (price_in r.bid == price) (billed_in price rows) (bill_count price rows) r.price.0 (eq-eqb (price_in r.bid) price (sym is))

-- and that of another
pub sum_stays : (price : ℕ) (rows : List LedgerRow) (r : LedgerRow) → (price ≡ price_in r.bid → ⊥) → sum_in price (rows ++ r ∷ []) ≡ sum_in price rows
sum_stays price rows r apart =
    sum_push price rows r ∙ elsewhere r.kind (price_in r.bid == price) (billed_in price rows) (bill_count price rows) r.price.0 (ne_eqb (price_in r.bid) price (λ e. apart (sym e)))

pub sum_fits : (total count most : ℕ) → total ≤ count * most → count ≤ most → total ≤ most * most
sum_fits total count most low few =
    let up : count * most ≤ most * most = mul-le-mul_right most few in
    omega (arith, up)
