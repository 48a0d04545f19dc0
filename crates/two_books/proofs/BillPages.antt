-- A message of a bill's URL asks for no page of a bidder but that of bills.
use Rattle.std.proofs.Common.{◌≡◌, ◌≢◌, ℕ, List, [], ◌∷◌, ◌++◌, get_or, All, Bool, true, false, cond, refl, sym, ap, ◌∙◌, subst, arith, append_assoc, Some, None, Ok}
use Rattle.std.specs.Prelude.{codes, bytes_eq, reverse, unwrap_or}
use Rattle.std.specs.Result.{result_ok}
use Rattle.std.proofs.lemmas.List.{reverse-append}
use Rattle.std.proofs.lemmas.List.Elements.{All-append, All-cons, All-nil, All-weaker}
use Rattle.std.proofs.lemmas.Slice.Eq.{bytes_eq-Decides}
use Rattle.adx_http.specs.Targets.{path_of}
use Rattle.bidder_core.specs.Answers.{notice_url}
use Rattle.bidder_core.specs.BidIds.{is_made}
use Rattle.bidder_core.specs.declared.price_line.TheConstants.{MOST_PRICES}
use Rattle.bidder_http.specs.Pages.{page_at}
use Rattle.bidder_http.specs.declared.page.Page.{Page}
use Rattle.notice_book.specs.declared.kind.NoticeKind.{NoticeKind}
use Rattle.notice_macros.specs.Expansion.{url_expansion}
use Rattle.notice_macros.specs.declared.values.Values.{Values}
use Rattle.outbox.specs.Calls.{IsValidAs, call_of, target_of}
use Rattle.outbox.specs.declared.calling.Call.{Call}
use Rattle.two_books.specs.OwnNotices.{HasPrice, IsUnmarked, notice_query, page_path}
use Rattle.two_books.proofs.Bases.{base_unmarked, page_unmarked}
use Rattle.two_books.proofs.Templates.{templates_become}
use Rattle.two_books.proofs.UrlQueries.{queries_stay}
use Rattle.two_books.proofs.MadeRequests.{IsMadeOf, made_of}
use Rattle.two_books.proofs.Targets.{Names, names}
use Rattle.two_books.proofs.UrlPaths.{EndsIn, is_letter, page_path_ends, word_bill}
use Rattle.url.specs.declared.scheme.SchemeType.{SchemeType}
use Rattle.url.specs.Scheme.{default_port, scheme_type}
use Rattle.url.specs.Parser.{parse_url}
use Rattle.url.specs.Parts.{IsValid, Parts, kind_of, query_set}
use Rattle.percent_encoding.specs.Percent.{IsKept}
use Rattle.url.proofs.InputLemmas.{Passes}
use Rattle.url.proofs.TextLemmas.{is_query_byte, query_byte}

letters : All (Passes is_letter) (codes "bill")
letters =
    All-cons (Passes is_letter) 98 (105 ∷ 108 ∷ 108 ∷ []) refl
    (All-cons (Passes is_letter) 105 (108 ∷ 108 ∷ []) refl (All-cons (Passes is_letter) 108 (108 ∷ []) refl (All-cons (Passes is_letter) 108 [] refl (All-nil (Passes is_letter)))))

last_of : List ℕ → ℕ
last_of xs = get_or (reverse xs) 0 0

last_word : (before : List ℕ) → last_of (before ++ 47 ∷ codes "bill") ≡ 108
unfolding last_of
last_word before = ap (λ (t : List ℕ). get_or t 0 0) (reverse-append before (codes "/bill"))

-- a path with that end isn't this one
other_path : (path page : List ℕ) (last : ℕ) → last_of page ≡ last → last ≢ 108 → EndsIn (47 ∷ codes "bill") path → bytes_eq path page ≡ true → ⊥
other_path path page last is other ends same =
    let one : path ≡ page = (bytes_eq-Decides path page).0 same in
    other (sym is ∙ (ap last_of (sym one ∙ ends.1) ∙ last_word ends.0))

no_books : (offers win bill loss books ledger : Bool) → (books ≡ true → ⊥)
    → cond offers (Some Page.Offers) (cond win (Some (Page.Notices NoticeKind.Win)) (cond bill (Some (Page.Notices NoticeKind.Bill)) (cond loss (Some (Page.Notices NoticeKind.Loss)) (cond books (Some Page.Books) (cond ledger (Some Page.Ledger) None))))) ≢ Some Page.Books
no_books true win bill loss books ledger not e = absurd (cc)
no_books false true bill loss books ledger not e = absurd (cc)
no_books false false true loss books ledger not e = absurd (cc)
no_books false false false true books ledger not e = absurd (cc)
no_books false false false false true ledger not e = not refl
no_books false false false false false true not e = absurd (cc)
no_books false false false false false false not e = absurd (cc)

no_ledger : (offers win bill loss books ledger : Bool) → (ledger ≡ true → ⊥)
    → cond offers (Some Page.Offers) (cond win (Some (Page.Notices NoticeKind.Win)) (cond bill (Some (Page.Notices NoticeKind.Bill)) (cond loss (Some (Page.Notices NoticeKind.Loss)) (cond books (Some Page.Books) (cond ledger (Some Page.Ledger) None))))) ≢ Some Page.Ledger
no_ledger true win bill loss books ledger not e = absurd (cc)
no_ledger false true bill loss books ledger not e = absurd (cc)
no_ledger false false true loss books ledger not e = absurd (cc)
no_ledger false false false true books ledger not e = absurd (cc)
no_ledger false false false false true ledger not e = absurd (cc)
no_ledger false false false false false true not e = not refl
no_ledger false false false false false false not e = absurd (cc)

-- a page that isn't the bidder's sums nor its ledger
pub record IsNoBook (path : List ℕ) : Type 0 where
  pub books : page_at path ≢ Some Page.Books
  pub ledger : page_at path ≢ Some Page.Ledger

ends_no_book : (path : List ℕ) → EndsIn (47 ∷ codes "bill") path → IsNoBook path
unfolding last_of
ends_no_book path ends = record {
  books =
      no_books (bytes_eq path (codes "/")) (bytes_eq path (codes "/n/win")) (bytes_eq path (codes "/n/bill")) (bytes_eq path (codes "/n/loss")) (bytes_eq path (codes "/books")) (bytes_eq path (codes "/ledger"))
      (other_path path (codes "/books") 115 refl (λ e. absurd (omega (arith, e))) ends);
  ledger =
      no_ledger (bytes_eq path (codes "/")) (bytes_eq path (codes "/n/win")) (bytes_eq path (codes "/n/bill")) (bytes_eq path (codes "/n/loss")) (bytes_eq path (codes "/books")) (bytes_eq path (codes "/ledger"))
      (other_path path (codes "/ledger") 114 refl (λ e. absurd (omega (arith, e))) ends);
}

http_kind : (p : Parts) → bytes_eq p.scheme (codes "http") ≡ true → kind_of p ≡ SchemeType.SpecialNotFile
unfolding scheme_type default_port
http_kind p http = ap scheme_type ((bytes_eq-Decides p.scheme (codes "http")).0 http)

page_words : page_path NoticeKind.Bill ≡ 47 ∷ 110 ∷ 47 ∷ codes "bill"
page_words = refl

-- The target of a call of a bill's own URL.
pub bill_page : (values : Values) (base id : List ℕ) (price : ℕ) (c : Call) (p : Parts) → All IsUnmarked base → HasPrice NoticeKind.Bill values.price price → is_made MOST_PRICES id ≡ true
    → call_of (url_expansion values (notice_url base id NoticeKind.Bill)) ≡ Some c → IsValidAs (url_expansion values (notice_url base id NoticeKind.Bill))
    → parse_url None (url_expansion values (notice_url base id NoticeKind.Bill)) ≡ Ok p → IsNoBook (path_of (target_of p))
bill_page values base id price c p plain paid made is valid parsed =
    let url : List ℕ = url_expansion values (notice_url base id NoticeKind.Bill) in
    let (q, read, made_p) = made_of url c is in
    let same : q ≡ p = ap (λ r. unwrap_or (result_ok r) p) (sym read ∙ parsed) in
    let m_of : IsMadeOf p c = subst (λ (x : Parts). IsMadeOf x c) same made_p in
    let ok : IsValid p = valid p parsed in
    let query : List ℕ = notice_query NoticeKind.Bill values.auction.now id price in
    let front : List ℕ = url_expansion values base in
    let base_plain : All IsUnmarked front = base_unmarked values base plain in
    let text : url ≡ front ++ (page_path NoticeKind.Bill ++ 63 ∷ query) = templates_become values base id NoticeKind.Bill price paid made in
    let joined : (front ++ page_path NoticeKind.Bill) ++ 63 ∷ query ≡ url = append_assoc front (page_path NoticeKind.Bill) (63 ∷ query) ∙ sym text in
    let query_is : p.query ≡ Some query =
    queries_stay (front ++ page_path NoticeKind.Bill) NoticeKind.Bill values.auction.now id price p (All-append IsUnmarked front (page_path NoticeKind.Bill) base_plain (page_unmarked NoticeKind.Bill)) made
    (subst (λ (t : List ℕ). parse_url None t ≡ Ok p) (sym joined) parsed) in
    let n : Names (target_of p) p.path query = names p m_of.host query m_of.has m_of.scheme ok query_is in
    let kept : All (IsKept (query_set (kind_of p))) query = rw query_is at ok.query in
    let visible : All (Passes is_query_byte) query = All-weaker (IsKept (query_set (kind_of p))) (Passes is_query_byte) (query_byte (kind_of p)) query kept in
    let ends : EndsIn (47 ∷ codes "bill") p.path =
    page_path_ends front (codes "bill") query p word_bill letters base_plain visible
    (subst (λ (t : List ℕ). parse_url None t ≡ Ok p) (text ∙ ap (λ (t : List ℕ). front ++ (t ++ 63 ∷ query)) page_words) parsed) (http_kind p m_of.scheme) in
    subst IsNoBook (sym n.path_is) (ends_no_book p.path ends)

-- the URL of a bill isn't empty
pub bill_url_some : (values : Values) (base id : List ℕ) (price : ℕ) → HasPrice NoticeKind.Bill values.price price → is_made MOST_PRICES id ≡ true → url_expansion values (notice_url base id NoticeKind.Bill) ≢ []
bill_url_some values base id price paid made none =
    some (url_expansion values base) (notice_query NoticeKind.Bill values.auction.now id price) (sym (templates_become values base id NoticeKind.Bill price paid made) ∙ none)
  where
    some : (front query : List ℕ) → front ++ (page_path NoticeKind.Bill ++ 63 ∷ query) ≡ [] → ⊥
    some [] query e = absurd (cc)
    some (x ∷ front) query e = absurd (cc)
