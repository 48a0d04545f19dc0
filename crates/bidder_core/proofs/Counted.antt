-- What was counted for an award, after one more notice that counts.
use Rattle.std.proofs.Common.{◌≡◌, ℕ, zero, suc, ◌<◌, List, [], ◌∷◌, ◌++◌, ◌&&◌, ◌||◌, Bool, true, false, cond, get_or, length, Some, refl, ap, ◌∙◌, arith}
use Rattle.std.specs.List.{list_any}
use Rattle.std.proofs.lemmas.List.Folds.{list_any-append}
use Rattle.std.proofs.lemmas.Bool.{or_parts}
use Rattle.std.proofs.lemmas.List.Quantifiers.{all_pairs_push}
use Rattle.notice_book.specs.Rules.{ruling}
use Rattle.notice_book.specs.declared.award.End.{End}
use Rattle.notice_book.specs.declared.kind.NoticeKind.{NoticeKind}
use Rattle.notice_book.specs.declared.ruling.Ruling.{Ruling}
use Rattle.bidder_core.specs.Ledger.{AreOnce, end_of, is_kind, is_same_notice, is_of, ruling_in, was_counted}
use Rattle.bidder_core.specs.LedgerState.{noticed_by, noticed_in}
use Rattle.bidder_core.specs.declared.award.Noticed.{Noticed}
use Rattle.bidder_core.specs.declared.ledger.LedgerRow.{LedgerRow}

-- by what was counted: a win, a bill and a loss
abbrev noticed_of : Bool → Bool → Bool → Noticed
noticed_of w b l = record { won = w; end = end_of b l }

or_no : (x : Bool) → (x || (false || false)) ≡ x
or_no true = refl
or_no false = refl

or_yes : (x : Bool) → (x || (true || false)) ≡ true
or_yes true = refl
or_yes false = refl

-- the notice is of another award
not_here : (kind : NoticeKind) (w b l : Bool)
    → noticed_of (w || ((is_kind NoticeKind.Win kind && false) || false)) (b || ((is_kind NoticeKind.Bill kind && false) || false)) (l || ((is_kind NoticeKind.Loss kind && false) || false)) ≡ noticed_of w b l
not_here NoticeKind.Win w b l = λ i. noticed_of (or_no w i) (or_no b i) (or_no l i)
not_here NoticeKind.Bill w b l = λ i. noticed_of (or_no w i) (or_no b i) (or_no l i)
not_here NoticeKind.Loss w b l = λ i. noticed_of (or_no w i) (or_no b i) (or_no l i)

-- a loss counts only where no bill did
loss_end : (w b l : Bool) → ruling NoticeKind.Loss w (end_of b l) ≡ Ruling.Counted → end_of b true ≡ Some End.Lost
loss_end w true l h = cc
loss_end w false l h = refl

-- the notice is of this award
here : (kind : NoticeKind) (w b l : Bool) → ruling kind w (end_of b l) ≡ Ruling.Counted
    → noticed_of (w || ((is_kind NoticeKind.Win kind && true) || false)) (b || ((is_kind NoticeKind.Bill kind && true) || false)) (l || ((is_kind NoticeKind.Loss kind && true) || false)) ≡ noticed_by kind (noticed_of w b l)
here NoticeKind.Win w b l h = λ i. noticed_of (or_yes w i) (or_no b i) (or_no l i)
here NoticeKind.Bill w b l h = λ i. noticed_of (or_no w i) (or_yes b i) (or_no l i)
here NoticeKind.Loss w b l h = (λ i. noticed_of (or_no w i) (or_no b i) (or_yes l i)) ∙ ap (λ e. record { won = w; end = e }) (loss_end w b l h)

by_place : (kind : NoticeKind) (t w b l : Bool) → (t ≡ true → ruling kind w (end_of b l) ≡ Ruling.Counted)
    → noticed_of (w || ((is_kind NoticeKind.Win kind && t) || false)) (b || ((is_kind NoticeKind.Bill kind && t) || false)) (l || ((is_kind NoticeKind.Loss kind && t) || false)) ≡ cond t (noticed_by kind (noticed_of w b l)) (noticed_of w b l)
by_place kind true w b l h = here kind w b l (h refl)
by_place kind false w b l h = not_here kind w b l

more_counted : (kind : NoticeKind) (auction bid : List ℕ) (rows : List LedgerRow) (r : LedgerRow)
    → was_counted kind auction bid (rows ++ r ∷ []) ≡ (was_counted kind auction bid rows || ((is_kind kind r.kind && is_of auction bid r) || false))
more_counted kind auction bid rows r = list_any-append (λ (s : LedgerRow). is_kind kind s.kind && is_of auction bid s) rows (r ∷ [])

pub noticed_more : (auction bid : List ℕ) (rows : List LedgerRow) (r : LedgerRow)
    → (is_of auction bid r ≡ true → ruling_in r.kind auction bid rows ≡ Ruling.Counted)
    → noticed_in auction bid (rows ++ r ∷ []) ≡ cond (is_of auction bid r) (noticed_by r.kind (noticed_in auction bid rows)) (noticed_in auction bid rows)
noticed_more auction bid rows r h =
    (λ i. noticed_of (more_counted NoticeKind.Win auction bid rows r i) (more_counted NoticeKind.Bill auction bid rows r i) (more_counted NoticeKind.Loss auction bid rows r i))
    ∙ by_place r.kind (is_of auction bid r) (was_counted NoticeKind.Win auction bid rows) (was_counted NoticeKind.Bill auction bid rows) (was_counted NoticeKind.Loss auction bid rows) h

-- a notice that counts wasn't counted before
new_win : (w b l : Bool) → ruling NoticeKind.Win w (end_of b l) ≡ Ruling.Counted → w ≡ false
new_win true b l h = cc
new_win false b l h = refl

new_bill : (w b l : Bool) → ruling NoticeKind.Bill w (end_of b l) ≡ Ruling.Counted → b ≡ false
new_bill w true l h = cc
new_bill w false l h = refl

new_loss : (w b l : Bool) → ruling NoticeKind.Loss w (end_of b l) ≡ Ruling.Counted → l ≡ false
new_loss w true true h = cc
new_loss w false true h = cc
new_loss w b false h = refl

not_counted : (kind : NoticeKind) (auction bid : List ℕ) (rows : List LedgerRow) → ruling_in kind auction bid rows ≡ Ruling.Counted
    → was_counted kind auction bid rows ≡ false
not_counted NoticeKind.Win auction bid rows h =
    new_win (was_counted NoticeKind.Win auction bid rows) (was_counted NoticeKind.Bill auction bid rows) (was_counted NoticeKind.Loss auction bid rows) h
not_counted NoticeKind.Bill auction bid rows h =
    new_bill (was_counted NoticeKind.Win auction bid rows) (was_counted NoticeKind.Bill auction bid rows) (was_counted NoticeKind.Loss auction bid rows) h
not_counted NoticeKind.Loss auction bid rows h =
    new_loss (was_counted NoticeKind.Win auction bid rows) (was_counted NoticeKind.Bill auction bid rows) (was_counted NoticeKind.Loss auction bid rows) h

none_at : (p : LedgerRow → Bool) (xs : List LedgerRow) (i : ℕ) (d : LedgerRow) → list_any p xs ≡ false → i < length xs → p (get_or xs i d) ≡ false
none_at p [] i d h low = absurd (omega arith)
none_at p (x ∷ xs) zero d h low = (or_parts (p x) (list_any p xs) h).0
none_at p (x ∷ xs) (suc i) d h low = none_at p xs i d (or_parts (p x) (list_any p xs) h).1 (omega arith)

pub once_more : (rows : List LedgerRow) (r : LedgerRow) → ruling_in r.kind r.auction r.bid rows ≡ Ruling.Counted → AreOnce rows → AreOnce (rows ++ r ∷ [])
once_more rows r h once =
    all_pairs_push (λ (x y : LedgerRow). is_same_notice x y ≡ false) rows r once
    (λ k d low. none_at (λ (s : LedgerRow). is_kind r.kind s.kind && is_of r.auction r.bid s) rows k d (not_counted r.kind r.auction r.bid rows h) low)
