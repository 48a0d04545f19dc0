-- The notice that a query reports is the one that was put into it.
use Rattle.std.proofs.Common.{append-nil, ◌≡◌, ℕ, ◌≤◌, List, ◌∷◌, ◌++◌, nat_le, All, length, refl, ap, ◌∙◌, true, Some, None, Ok}
use Rattle.std.specs.Prelude.{codes, IsUtf8}
use Rattle.std.proofs.lemmas.Bool.{and_from, cond-true, le-leb}
use Rattle.std.proofs.lemmas.List.Elements.{All-weaker}
use Rattle.percent_encoding.proofs.PercentLemmas.{IsByte}
use Rattle.adx_units.specs.Money.{price_text, price_of, units}
use Rattle.adx_units.specs.declared.id.TheConstants.{LONGEST_ID}
use Rattle.adx_http.specs.Targets.{value_of}
use Rattle.rtb_request.specs.Amounts.{is_id_text}
use Rattle.notice_book.specs.declared.kind.NoticeKind.{NoticeKind}
use Rattle.bidder_core.specs.declared.ledger.LedgerRow.{LedgerRow}
use Rattle.bidder_http.specs.Notices.{auction_by, auction_in, notice_by, notice_in, price_by, price_in, priced}
use Rattle.two_books.specs.OwnNotices.{escaped, notice_query, price_pair, told_price}
use Rattle.two_books.proofs.Escapes.{IsWritten, written}
use Rattle.two_books.proofs.Queries.{escaped_text_read, id_byte_written, id_read, is_id_byte, pair, reads_three, reads_two, three_pairs, two_pairs}

abbrev row_of : List ℕ → List ℕ → NoticeKind → ℕ → LedgerRow
row_of auction bid kind price = record { auction = auction; bid = bid; kind = kind; price = units price }

-- what the three values say
pub told : (kind : NoticeKind) (query auction bid : List ℕ) (price : ℕ) → value_of (codes "a") query ≡ Some auction → value_of (codes "b") query ≡ Some bid
    → price_in kind query ≡ Some (units price) → 1 ≤ length auction → length auction ≤ LONGEST_ID
    → notice_in kind query ≡ Some (row_of auction bid kind price)
told kind query auction bid price a b p some few =
    let id : is_id_text (Some auction) ≡ true = and_from (nat_le 1 (length auction)) (nat_le (length auction) LONGEST_ID) (le-leb 1 (length auction) some) (le-leb (length auction) LONGEST_ID few) in
    let named : auction_in query ≡ Some auction = ap auction_by a ∙ cond-true (is_id_text (Some auction)) (Some auction) None id in
    ap (λ x. notice_by kind x (value_of (codes "b") query) (price_in kind query)) named
    ∙ ap (λ x. notice_by kind (Some auction) x (price_in kind query)) b
    ∙ ap (λ x. notice_by kind (Some auction) (Some bid) x) p

-- a query of three pairs
three_told : (kind : NoticeKind) (auction bid price : List ℕ) → All IsByte auction → IsUtf8 auction → All (λ b. is_id_byte b ≡ true) bid → All IsByte price → IsUtf8 price
    → (value_of (codes "a") (pair 97 (escaped auction) ++ 38 ∷ (pair 98 bid ++ 38 ∷ pair 112 (escaped price))) ≡ Some auction)
    × ((value_of (codes "b") (pair 97 (escaped auction) ++ 38 ∷ (pair 98 bid ++ 38 ∷ pair 112 (escaped price))) ≡ Some bid)
    × (value_of (codes "p") (pair 97 (escaped auction) ++ 38 ∷ (pair 98 bid ++ 38 ∷ pair 112 (escaped price))) ≡ Some price))
three_told kind auction bid price auction_bytes auction_text id price_bytes price_text =
    let pairs = three_pairs 97 98 112 (escaped auction) bid (escaped price) refl refl refl (written auction) (All-weaker (λ b. is_id_byte b ≡ true) IsWritten id_byte_written bid id) (written price) in
    let read = reads_three (escaped auction) bid (escaped price) in (
      rw pairs (read.0 ∙ ap Some (escaped_text_read auction auction_bytes auction_text)),
      (
        rw pairs (read.1.0 ∙ ap Some (id_read bid id)),
        rw pairs (read.1.1 ∙ ap Some (escaped_text_read price price_bytes price_text)),
      ),
    )

two_told : (kind : NoticeKind) (auction bid : List ℕ) → All IsByte auction → IsUtf8 auction → All (λ b. is_id_byte b ≡ true) bid
    → (value_of (codes "a") (pair 97 (escaped auction) ++ 38 ∷ pair 98 bid) ≡ Some auction)
    × ((value_of (codes "b") (pair 97 (escaped auction) ++ 38 ∷ pair 98 bid) ≡ Some bid)
    × (value_of (codes "p") (pair 97 (escaped auction) ++ 38 ∷ pair 98 bid) ≡ None))
two_told kind auction bid auction_bytes auction_text id =
    let pairs = two_pairs 97 98 (escaped auction) bid refl refl (written auction) (All-weaker (λ b. is_id_byte b ≡ true) IsWritten id_byte_written bid id) in
    let read = reads_two (escaped auction) bid in (
      rw pairs (read.0 ∙ ap Some (escaped_text_read auction auction_bytes auction_text)),
      (
        rw pairs (read.1.0 ∙ ap Some (id_read bid id)),
        rw pairs read.1.1,
      ),
    )

priced_told : (kind : NoticeKind) (auction bid : List ℕ) (price : ℕ) → price_pair kind price ≡ codes "&p=" ++ escaped (price_text price) → ((x : List ℕ) → price_by (Some x) kind ≡ priced (price_of x)) → All IsByte auction → IsUtf8 auction → 1 ≤ length auction → length auction ≤ LONGEST_ID → All (λ b. is_id_byte b ≡ true) bid → All IsByte (price_text price) → IsUtf8 (price_text price) → price_of (price_text price) ≡ Ok (units price)
    → notice_in kind (notice_query kind auction bid price) ≡ Some (row_of auction bid kind price)
priced_told kind auction bid price tells reads bytes text some few id price_bytes price_utf8 again =
    let values = three_told kind auction bid (price_text price) bytes text id price_bytes price_utf8 in
    let query = pair 97 (escaped auction) ++ 38 ∷ (pair 98 bid ++ 38 ∷ pair 112 (escaped (price_text price))) in
    let same : notice_query kind auction bid price ≡ query = ap (λ x. codes "a=" ++ (escaped auction ++ (codes "&b=" ++ (bid ++ x)))) tells in
    ap (notice_in kind) same
    ∙ told kind query auction bid price values.0 values.1.0 (ap (λ x. price_by x kind) values.1.1 ∙ reads (price_text price) ∙ ap priced again) some few

-- what a bidder reads of the query of its own notice
pub query_told : (kind : NoticeKind) (auction bid : List ℕ) (price : ℕ) → All IsByte auction → IsUtf8 auction → 1 ≤ length auction → length auction ≤ LONGEST_ID → All (λ b. is_id_byte b ≡ true) bid → All IsByte (price_text price) → IsUtf8 (price_text price) → price_of (price_text price) ≡ Ok (units price)
    → notice_in kind (notice_query kind auction bid price) ≡ Some (row_of auction bid kind (told_price kind price))
query_told NoticeKind.Win auction bid price bytes text some few id price_bytes price_utf8 again =
    priced_told NoticeKind.Win auction bid price refl (λ x. refl) bytes text some few id price_bytes price_utf8 again
query_told NoticeKind.Bill auction bid price bytes text some few id price_bytes price_utf8 again =
    priced_told NoticeKind.Bill auction bid price refl (λ x. refl) bytes text some few id price_bytes price_utf8 again
query_told NoticeKind.Loss auction bid price bytes text some few id price_bytes price_utf8 again =
    let values = two_told NoticeKind.Loss auction bid bytes text id in
    let query = pair 97 (escaped auction) ++ 38 ∷ pair 98 bid in
    let same : notice_query NoticeKind.Loss auction bid price ≡ query = ap (λ x. codes "a=" ++ (escaped auction ++ (codes "&b=" ++ x))) (append-nil bid) in
    ap (notice_in NoticeKind.Loss) same
    ∙ told NoticeKind.Loss query auction bid 0 values.0 values.1.0 (ap (λ x. price_by x NoticeKind.Loss) values.1.1) some few
