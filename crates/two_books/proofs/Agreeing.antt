-- From what holds of a world the bills agree: each has its own place.
use Rattle.std.proofs.Common.{zero, suc, get_or, ◌≡◌, ◌≢◌, ℕ, ◌<◌, List, [], ◌∷◌, ◌++◌, All, AllPairs, length, Bool, true, false, Some, refl, sym, ap, ap₂, ◌∙◌, arith, length-append}
use Rattle.std.specs.Prelude.{◌&&◌, codes, slice_get, unwrap_or}
use Rattle.std.specs.Str.{bytes_eq}
use Rattle.std.proofs.lemmas.Bool.{and_from, true≢false}
use Rattle.std.proofs.lemmas.Slice.Eq.{bytes_eq-Decides}
use Rattle.std.proofs.lemmas.List.Elements.{All-head, All-tail, filter_passes}
use Rattle.std.proofs.lemmas.List.Kept.{AllPairs-filter}
use Rattle.day_rules.specs.declared.entry.Entry.{Entry}
use Rattle.notice_book.specs.declared.kind.NoticeKind.{NoticeKind}
use Rattle.bidder_core.specs.Answers.{notice_url}
use Rattle.bidder_core.specs.Ledger.{AreOnce, is_kind, is_same_notice}
use Rattle.bidder_core.specs.declared.ledger.LedgerRow.{LedgerRow}
use Rattle.outbox.specs.Bids.{Bid, awarded}
use Rattle.two_books.specs.Holding.{IsBilled, IsLedgerOf}
use Rattle.two_books.specs.TwoBooks.{AreBillsAt, BillsAgree, bills_in}

-- a bill's URL names its bid
left_cancel : (xs ys zs : List ℕ) → xs ++ ys ≡ xs ++ zs → ys ≡ zs
left_cancel [] ys zs e = e
left_cancel (x ∷ xs) ys zs e = left_cancel xs ys zs cc

pub right_cancel : (xs ys zs : List ℕ) → xs ++ zs ≡ ys ++ zs → xs ≡ ys
right_cancel [] [] zs e = refl
right_cancel [] (y ∷ ys) zs e = let n = ap length e in absurd (omega (arith, simp length-append at n))
right_cancel (x ∷ xs) [] zs e = let n = ap length e in absurd (omega (arith, simp length-append at n))
right_cancel (x ∷ xs) (y ∷ ys) zs e = let t : xs ++ zs ≡ ys ++ zs = cc in let h : x ≡ y = cc in ap₂ (λ b bs. b ∷ bs) h (right_cancel xs ys zs t)

pub named_by_url : (base a b : List ℕ) → notice_url base a NoticeKind.Bill ≡ notice_url base b NoticeKind.Bill → a ≡ b
named_by_url base a b e =
    right_cancel a b (codes "&p=${AUCTION_PRICE}") (left_cancel (codes "/n/bill?a=${AUCTION_ID}&b=") (a ++ codes "&p=${AUCTION_PRICE}") (b ++ codes "&p=${AUCTION_PRICE}") (left_cancel base _ _ e))

entry_award : Entry → ℕ
entry_award (Entry.Ask a) = 0
entry_award (Entry.Win n) = n
entry_award (Entry.Bill n) = n
entry_award (Entry.Loss n) = n
entry_award (Entry.Expire now) = now
entry_award (Entry.Budget campaign change budget) = campaign

some_of : {A : Type 0} (default a b : A) → Some a ≡ Some b → a ≡ b
some_of default a b e = ap (λ o. unwrap_or o default) e

-- two bills at one place are of one auction and one bid
same_row : (base : List ℕ) (history : List Entry) (r s : LedgerRow) → (x : IsBilled base history r) → (y : IsBilled base history s) → x.place ≡ y.place → (r.auction ≡ s.auction) × (r.bid ≡ s.bid)
unfolding entry_award
same_row base history r s x y same =
    let entries : Some (Entry.Bill x.at.award) ≡ Some (Entry.Bill y.at.award) = sym x.at.entry ∙ ap (slice_get history) same ∙ y.at.entry in
    let award : x.at.award ≡ y.at.award = ap entry_award (some_of (Entry.Bill 0) (Entry.Bill x.at.award) (Entry.Bill y.at.award) entries) in
    let bid : x.at.bid ≡ y.at.bid = some_of x.at.bid x.at.bid y.at.bid (sym x.at.awarded_as ∙ ap (slice_get (awarded history)) award ∙ y.at.awarded_as) in (
      sym x.at.auction ∙ ap (λ (b : Bid). b.auction) bid ∙ y.at.auction,
      named_by_url base r.bid s.bid (sym x.url ∙ ap (λ (b : Bid). b.texts.burl) bid ∙ y.url),
    )

pub kind_bill : (k : NoticeKind) → is_kind NoticeKind.Bill k ≡ true → k ≡ NoticeKind.Bill
kind_bill NoticeKind.Win h = absurd (true≢false (sym h))
kind_bill NoticeKind.Bill h = refl
kind_bill NoticeKind.Loss h = absurd (true≢false (sym h))

-- two bills of one auction and one bid are one notice
pub same_notice : (r s : LedgerRow) → r.kind ≡ NoticeKind.Bill → s.kind ≡ NoticeKind.Bill → r.auction ≡ s.auction → r.bid ≡ s.bid → is_same_notice r s ≡ true
same_notice r s rk sk auction bid =
    ap₂ (λ a b. is_kind a b && (bytes_eq r.auction s.auction && bytes_eq r.bid s.bid)) sk rk
    ∙ and_from (bytes_eq r.auction s.auction) (bytes_eq r.bid s.bid) ((bytes_eq-Decides r.auction s.auction).1 auction) ((bytes_eq-Decides r.bid s.bid).1 bid)

-- the places of bills, in order
abbrev places_of : (base : List ℕ) (history : List Entry) (rows : List LedgerRow) → All (IsBilled base history) rows → List ℕ
places_of base history [] all = []
places_of base history (r ∷ rs) all =
    (All-head (IsBilled base history) r rs all).place ∷ places_of base history rs (All-tail (IsBilled base history) r rs all)

each_at : (base : List ℕ) (history : List Entry) (rows : List LedgerRow) → (all : All (IsBilled base history) rows) → AreBillsAt history (places_of base history rows all) rows
each_at base history [] all = refl
each_at base history (r ∷ rs) all =
    ((All-head (IsBilled base history) r rs all).at, each_at base history rs (All-tail (IsBilled base history) r rs all))

places_long : (base : List ℕ) (history : List Entry) (rows : List LedgerRow) → (all : All (IsBilled base history) rows) → length (places_of base history rows all) ≡ length rows
places_long base history [] all = refl
places_long base history (r ∷ rs) all = ap suc (places_long base history rs (All-tail (IsBilled base history) r rs all))

-- a place is that of the bill there
place_at : (base : List ℕ) (history : List Entry) (rows : List LedgerRow) → (all : All (IsBilled base history) rows) → (i : ℕ) (d : LedgerRow) (e : ℕ) → i < length rows
    → (x : IsBilled base history (get_or rows i d)) × (get_or (places_of base history rows all) i e ≡ x.place)
place_at base history [] all i d e h = absurd (omega arith)
place_at base history (r ∷ rs) all zero d e h = (All-head (IsBilled base history) r rs all, refl)
place_at base history (r ∷ rs) all (suc i) d e h = place_at base history rs (All-tail (IsBilled base history) r rs all) i d e (omega arith)

abbrev IsBill : LedgerRow → Type 0
IsBill r = is_kind NoticeKind.Bill r.kind ≡ true

own_places : (base : List ℕ) (history : List Entry) (rows : List LedgerRow) → (all : All (IsBilled base history) rows) → ((i : ℕ) (d : LedgerRow) → i < length rows → IsBill (get_or rows i d)) → AreOnce rows
    → (some : LedgerRow) → AllPairs (λ p q. p ≢ q) (places_of base history rows all)
own_places base history rows all bills once some i j d before within same =
    let long = places_long base history rows all in
    let inside : j < length rows = omega (arith, long, within) in
    let first : i < length rows = omega (arith, before, inside) in
    let x = place_at base history rows all i some d first in
    let y = place_at base history rows all j some d inside in
    let rows_same = same_row base history (get_or rows i some) (get_or rows j some) x.0 y.0 (sym x.1 ∙ same ∙ y.1) in
    let notice = same_notice (get_or rows i some) (get_or rows j some) (kind_bill _ (bills i some first)) (kind_bill _ (bills j some inside)) rows_same.0 rows_same.1 in
    true≢false (sym notice ∙ once i j some before inside)

no_row : LedgerRow
no_row = record { auction = []; bid = []; kind = NoticeKind.Bill; price = record { 0 = 0 } }

-- the bills of such a ledger agree with the history
pub bills_agree : (base : List ℕ) (history : List Entry) (rows : List LedgerRow) → IsLedgerOf base history rows → BillsAgree history rows
bills_agree base history rows h =
    let is_bill : LedgerRow → Bool = λ r. is_kind NoticeKind.Bill r.kind in
    record {
      places = places_of base history (bills_in rows) h.billed;
      each = each_at base history (bills_in rows) h.billed;
      own = own_places base history (bills_in rows) h.billed (filter_passes is_bill rows) (AllPairs-filter (λ r s. is_same_notice r s ≡ false) is_bill rows h.once) no_row;
    }
