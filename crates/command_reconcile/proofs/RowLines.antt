-- The line of a row is the compact spelling of its tree.
use Rattle.std.proofs.Common.{◌≡◌, ◌≢◌, ◌∙◌, ℕ, ◌<◌, ◌≤◌, ◌^◌, List, [], ◌∷◌, ◌++◌, AllPairs, Bool, true, false, ◌&&◌, nat_lt, IsUtf8, refl, sym, ap, subst, arith, append_assoc, append-nil}
use Rattle.std.specs.Prelude.{codes, decimal}
use Rattle.std.specs.Str.{IsAscii, bytes_eq}
use Rattle.std.proofs.lemmas.Bool.{and_parts, ltb-true}
use Rattle.std.proofs.lemmas.List.Elements.{All-cons, All-nil}
use Rattle.std.proofs.lemmas.List.Kept.{AllPairs-cons}
use Rattle.std.proofs.lemmas.Str.{IsUtf8-from_ascii}
use Rattle.std.proofs.lemmas.Str.Ascii.{IsAscii-cons, IsAscii-nil}
use Rattle.adx_json.proofs.Spelled.{spelling_is}
use Rattle.adx_json.specs.Grammar.{IsJson}
use Rattle.adx_units.specs.JsonTexts.{text_spelling}
use Rattle.adx_json.specs.Spelling.{spelling}
use Rattle.adx_json.specs.Tree.{object}
use Rattle.adx_json.specs.WellFormed.{HasUtf8, IsWellFormed}
use Rattle.adx_io.specs.Talk.{ended}
use Rattle.adx_units.proofs.Written.{decimal_whole, no_tail, read_parts}
use Rattle.adx_units.specs.Number.{is_number}
use Rattle.bidder_core.specs.declared.ledger.LedgerRow.{LedgerRow}
use Rattle.bidder_http.specs.Books.{kind_text, ledger_line}
use Rattle.command_reconcile.specs.Ledgers.{IsRow}
use Rattle.command_reconcile.specs.Rows.{kind_name, row_head, row_line, row_members}
use Rattle.notice_book.specs.declared.kind.NoticeKind.{NoticeKind}

shape : (A a B b C k D d E : List ℕ) → A ++ ((a ++ (B ++ (b ++ (C ++ (k ++ (D ++ (d ++ []))))))) ++ E) ≡ (((A ++ a) ++ B) ++ b) ++ ((((C ++ k) ++ D) ++ d) ++ E)
shape A a B b C k D d E = simp (append_assoc, append-nil)

kind_spelled : (k : NoticeKind) → text_spelling (kind_name k) ≡ kind_text k
kind_spelled NoticeKind.Win = refl
kind_spelled NoticeKind.Bill = refl
kind_spelled NoticeKind.Loss = refl

pub row_spelled : (row : LedgerRow) → spelling (object (row_members row)) ≡ row_line row
row_spelled row =
    shape (codes "{\"auction\":") (text_spelling row.auction) (codes ",\"bid\":") (text_spelling row.bid) (codes ",\"kind\":") (text_spelling (kind_name row.kind)) (codes ",\"price\":") (decimal row.price.0) (codes "}")
    ∙ ap (λ (k : List ℕ). row_head row.auction row.bid ++ ((((codes ",\"kind\":" ++ k) ++ codes ",\"price\":") ++ decimal row.price.0) ++ codes "}")) (kind_spelled row.kind)

with_newline : (h c k p d e n : List ℕ) → (h ++ ((((c ++ k) ++ p) ++ d) ++ e)) ++ n ≡ ((((h ++ c) ++ k) ++ p) ++ d) ++ (e ++ n)
with_newline h c k p d e n = simp append_assoc

pub row_ended : (row : LedgerRow) → ended (row_line row) ≡ ledger_line row
row_ended row = with_newline (row_head row.auction row.bid) (codes ",\"kind\":") (kind_text row.kind) (codes ",\"price\":") (decimal row.price.0) (codes "}") (10 ∷ [])

-- ---- it is a JSON text

none_pairs : AllPairs (λ (a b : List ℕ). a ≢ b) []
none_pairs i j d less within = absurd (omega (arith, within))

-- bytes below 128 are text
abbrev are_small : List ℕ → Bool
are_small [] = true
are_small (b ∷ bs) = nat_lt b 128 && are_small bs

small : (bs : List ℕ) → are_small bs ≡ true → IsAscii bs
small [] is = IsAscii-nil
small (b ∷ bs) is = let parts = and_parts (nat_lt b 128) (are_small bs) is in IsAscii-cons b bs (ltb-true b 128 parts.0) (small bs parts.1)

is_text : (bs : List ℕ) → are_small bs ≡ true → IsUtf8 bs
is_text bs is = IsUtf8-from_ascii bs (small bs is)

-- names that are written out differ
differ : (a b : List ℕ) → bytes_eq a a ≡ true → bytes_eq a b ≡ false → a ≢ b
differ a b same other is = absurd (cc (sym (ap (bytes_eq a) is ∙ other) ∙ same))

names_differ : AllPairs (λ (a b : List ℕ). a ≢ b) (codes "auction" ∷ codes "bid" ∷ codes "kind" ∷ codes "price" ∷ [])
names_differ =
    AllPairs-cons (λ a b. a ≢ b) (codes "auction") (codes "bid" ∷ codes "kind" ∷ codes "price" ∷ [])
    (All-cons (λ b. codes "auction" ≢ b) (codes "bid") (codes "kind" ∷ codes "price" ∷ []) (differ (codes "auction") (codes "bid") refl refl)
    (All-cons (λ b. codes "auction" ≢ b) (codes "kind") (codes "price" ∷ []) (differ (codes "auction") (codes "kind") refl refl)
    (All-cons (λ b. codes "auction" ≢ b) (codes "price") [] (differ (codes "auction") (codes "price") refl refl) (All-nil (λ b. codes "auction" ≢ b)))))
    (AllPairs-cons (λ a b. a ≢ b) (codes "bid") (codes "kind" ∷ codes "price" ∷ [])
    (All-cons (λ b. codes "bid" ≢ b) (codes "kind") (codes "price" ∷ []) (differ (codes "bid") (codes "kind") refl refl)
    (All-cons (λ b. codes "bid" ≢ b) (codes "price") [] (differ (codes "bid") (codes "price") refl refl) (All-nil (λ b. codes "bid" ≢ b))))
    (AllPairs-cons (λ a b. a ≢ b) (codes "kind") (codes "price" ∷ [])
    (All-cons (λ b. codes "kind" ≢ b) (codes "price") [] (differ (codes "kind") (codes "price") refl refl) (All-nil (λ b. codes "kind" ≢ b)))
    (AllPairs-cons (λ a b. a ≢ b) (codes "price") [] (All-nil (λ b. codes "price" ≢ b)) none_pairs)))

below : (p : ℕ) → p ≤ 1000000000000 → p < 2 ^ 64
below p few = omega arith

price_number : (p : ℕ) → p ≤ 1000000000000 → is_number (decimal p) ≡ true
price_number p few =
    subst (λ (t : List ℕ). is_number t ≡ true) (append-nil (decimal p)) (read_parts p (decimal p) [] [] (decimal_whole p (below p few)) no_tail).number

kind_utf8 : (k : NoticeKind) → IsUtf8 (kind_name k)
kind_utf8 NoticeKind.Win = is_text (codes "win") refl
kind_utf8 NoticeKind.Bill = is_text (codes "bill") refl
kind_utf8 NoticeKind.Loss = is_text (codes "loss") refl

formed : (row : LedgerRow) → IsRow row → IsWellFormed (object (row_members row))
formed row is = (names_differ, (tt, (tt, (tt, (price_number row.price.0 is.price, tt)))))

texts : (row : LedgerRow) → IsRow row → HasUtf8 (object (row_members row))
texts row is =
    (is_text (codes "auction") refl, is.auction_utf8, (is_text (codes "bid") refl, is.bid_utf8, (is_text (codes "kind") refl, kind_utf8 row.kind, (is_text (codes "price") refl, tt, tt))))

pub row_json : (row : LedgerRow) → IsRow row → IsJson (row_line row) (object (row_members row))
row_json row is =
    subst (λ (l : List ℕ). IsJson l (object (row_members row))) (row_spelled row) (spelling_is (object (row_members row)) (formed row is) (texts row is) (omega arith))
