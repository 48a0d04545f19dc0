-- What a bidder hears of a message of its own notice.
use Rattle.std.proofs.Common.{◌≡◌, ◌⊎◌, ⊎_elim, ℕ, List, [], ◌∷◌, ◌++◌, get_or, All, Bool, true, false, cond, refl, sym, ap, ap₂, ◌∙◌, subst, arith, append_assoc, inl, inr, Option, Some, None, Ok}
use Rattle.std.specs.Prelude.{codes, bytes_eq, reverse, unwrap_or}
use Rattle.std.specs.Result.{result_ok}
use Rattle.std.proofs.lemmas.List.{reverse-append}
use Rattle.std.proofs.lemmas.List.Elements.{All-append, All-cons, All-nil, All-weaker}
use Rattle.std.proofs.lemmas.Slice.Eq.{bytes_eq-Decides}
use Rattle.http_connection.specs.Messages.{AreRequests, Request}
use Rattle.http_grammar.specs.Requests.{verb_of_method}
use Rattle.http_service.specs.declared.limits.TheConstants.{REQUEST_LIMIT}
use Rattle.adx_http.specs.Targets.{path_of, query_of}
use Rattle.bidder_core.specs.Answers.{notice_url}
use Rattle.bidder_http.specs.Notices.{notice_in}
use Rattle.bidder_http.specs.Pages.{is_get, page_at}
use Rattle.bidder_http.specs.declared.page.Page.{Page}
use Rattle.notice_book.specs.declared.kind.NoticeKind.{NoticeKind}
use Rattle.notice_macros.specs.Expansion.{url_expansion}
use Rattle.outbox.specs.Calls.{port_of, target_of}
use Rattle.outbox.specs.declared.calling.Call.{Call}
use Rattle.two_books.specs.OwnNotices.{IsUnmarked, notice_query, page_path}
use Rattle.two_books.proofs.Bases.{base_unmarked, page_unmarked}
use Rattle.two_books.proofs.Templates.{templates_become}
use Rattle.two_books.proofs.ReadBack.{queries_read}
use Rattle.two_books.proofs.UrlQueries.{queries_stay}
use Rattle.url.specs.declared.scheme.SchemeType.{SchemeType}
use Rattle.url.specs.Host.{host_text}
use Rattle.url.specs.Scheme.{default_port, scheme_type}
use Rattle.url.specs.Parser.{parse_url}
use Rattle.url.specs.Parts.{IsValid, Parts, kind_of, query_set}
use Rattle.percent_encoding.specs.Percent.{IsKept}
use Rattle.url.proofs.InputLemmas.{Passes}
use Rattle.url.proofs.TextLemmas.{is_query_byte, query_byte}
use Rattle.two_books.specs.OwnMessages.{CallsAreOneRequest, IsGet, OwnMessagesAreRead, notice_at, notice_of, notice_put}
use Rattle.two_books.proofs.OneRequest.{at_most_one}
use Rattle.two_books.proofs.MadeRequests.{IsMadeOf, made_of}
use Rattle.two_books.proofs.Targets.{Names, clean, names}
use Rattle.two_books.proofs.UrlPaths.{EndsIn, IsWord, is_letter, page_path_ends, word_bill, word_loss, word_win}

-- ---- a call's bytes

pub calls_are_one : CallsAreOneRequest
calls_are_one url c ms is valid (rest, are) =
    let (p, parsed, made) = made_of url c is in
    let found = at_most_one REQUEST_LIMIT (host_text made.host) (port_of p) (target_of p) ms rest (clean p made.host made.has (valid p parsed))
    (subst (λ (d : Call). AreRequests REQUEST_LIMIT d.request ms rest) made.is are) in
    ⊎_elim (λ none. inl none) (λ one. inr (one.0, one.1, p, parsed, one.2)) found

-- ---- the page of a notice

word : NoticeKind → List ℕ
word NoticeKind.Win = codes "win"
word NoticeKind.Bill = codes "bill"
word NoticeKind.Loss = codes "loss"

page_word : (kind : NoticeKind) → page_path kind ≡ 47 ∷ 110 ∷ 47 ∷ word kind
unfolding word
page_word NoticeKind.Win = refl
page_word NoticeKind.Bill = refl
page_word NoticeKind.Loss = refl

is_word : (kind : NoticeKind) → IsWord (word kind)
unfolding word
is_word NoticeKind.Win = word_win
is_word NoticeKind.Bill = word_bill
is_word NoticeKind.Loss = word_loss

letters : (kind : NoticeKind) → All (Passes is_letter) (word kind)
unfolding word
letters NoticeKind.Win = All-cons (Passes is_letter) 119 (105 ∷ 110 ∷ []) refl (All-cons (Passes is_letter) 105 (110 ∷ []) refl (All-cons (Passes is_letter) 110 [] refl (All-nil (Passes is_letter))))
letters NoticeKind.Bill =
    All-cons (Passes is_letter) 98 (105 ∷ 108 ∷ 108 ∷ []) refl
    (All-cons (Passes is_letter) 105 (108 ∷ 108 ∷ []) refl (All-cons (Passes is_letter) 108 (108 ∷ []) refl (All-cons (Passes is_letter) 108 [] refl (All-nil (Passes is_letter)))))
letters NoticeKind.Loss =
    All-cons (Passes is_letter) 108 (111 ∷ 115 ∷ 115 ∷ []) refl
    (All-cons (Passes is_letter) 111 (115 ∷ 115 ∷ []) refl (All-cons (Passes is_letter) 115 (115 ∷ []) refl (All-cons (Passes is_letter) 115 [] refl (All-nil (Passes is_letter)))))

-- the last letters of the three words are three
last_of : List ℕ → ℕ
last_of xs = get_or (reverse xs) 0 0

letter_of : NoticeKind → ℕ
letter_of NoticeKind.Win = 110
letter_of NoticeKind.Bill = 108
letter_of NoticeKind.Loss = 115

last_word : (kind : NoticeKind) (before : List ℕ) → last_of (before ++ 47 ∷ word kind) ≡ letter_of kind
unfolding word last_of letter_of
last_word NoticeKind.Win before = ap (λ (t : List ℕ). get_or t 0 0) (reverse-append before (codes "/win"))
last_word NoticeKind.Bill before = ap (λ (t : List ℕ). get_or t 0 0) (reverse-append before (codes "/bill"))
last_word NoticeKind.Loss before = ap (λ (t : List ℕ). get_or t 0 0) (reverse-append before (codes "/loss"))

last_page : (kind : NoticeKind) → last_of (page_path kind) ≡ letter_of kind
unfolding last_of letter_of
last_page NoticeKind.Win = refl
last_page NoticeKind.Bill = refl
last_page NoticeKind.Loss = refl

by_letter : (a b : NoticeKind) → letter_of a ≡ letter_of b → a ≡ b
unfolding letter_of
by_letter NoticeKind.Win NoticeKind.Win e = refl
by_letter NoticeKind.Win NoticeKind.Bill e = absurd (omega (arith, e))
by_letter NoticeKind.Win NoticeKind.Loss e = absurd (omega (arith, e))
by_letter NoticeKind.Bill NoticeKind.Win e = absurd (omega (arith, e))
by_letter NoticeKind.Bill NoticeKind.Bill e = refl
by_letter NoticeKind.Bill NoticeKind.Loss e = absurd (omega (arith, e))
by_letter NoticeKind.Loss NoticeKind.Win e = absurd (omega (arith, e))
by_letter NoticeKind.Loss NoticeKind.Bill e = absurd (omega (arith, e))
by_letter NoticeKind.Loss NoticeKind.Loss e = refl

-- a path that ends with the word of a kind is no page of another kind
own_page : (kind other : NoticeKind) (path : List ℕ) → EndsIn (47 ∷ word kind) path → bytes_eq path (page_path other) ≡ true → other ≡ kind
own_page kind other path ends same =
    let is : path ≡ page_path other = (bytes_eq-Decides path (page_path other)).0 same in
    by_letter other kind (sym (last_page other) ∙ (ap last_of (sym is ∙ ends.1) ∙ last_word kind ends.0))

-- what is at such a path: no page of notices, or that of the kind
picked : (kind : NoticeKind) (query : List ℕ) (offers win bill loss books ledger : Bool) → (win ≡ true → NoticeKind.Win ≡ kind) → (bill ≡ true → NoticeKind.Bill ≡ kind) → (loss ≡ true → NoticeKind.Loss ≡ kind)
    → (page : Option Page)
    → page ≡ cond offers (Some Page.Offers) (cond win (Some (Page.Notices NoticeKind.Win)) (cond bill (Some (Page.Notices NoticeKind.Bill)) (cond loss (Some (Page.Notices NoticeKind.Loss)) (cond books (Some Page.Books) (cond ledger (Some Page.Ledger) None)))))
    → (notice_at page true query ≡ None) ⊎ (notice_at page true query ≡ notice_in kind query)
picked kind query true win bill loss books ledger w b l page is = inl (ap (λ p. notice_at p true query) is)
picked kind query false true bill loss books ledger w b l page is = inr (ap (λ p. notice_at p true query) is ∙ ap (λ k. notice_in k query) (w refl))
picked kind query false false true loss books ledger w b l page is = inr (ap (λ p. notice_at p true query) is ∙ ap (λ k. notice_in k query) (b refl))
picked kind query false false false true books ledger w b l page is = inr (ap (λ p. notice_at p true query) is ∙ ap (λ k. notice_in k query) (l refl))
picked kind query false false false false true ledger w b l page is = inl (ap (λ p. notice_at p true query) is)
picked kind query false false false false false true w b l page is = inl (ap (λ p. notice_at p true query) is)
picked kind query false false false false false false w b l page is = inl (ap (λ p. notice_at p true query) is)

page_told : (kind : NoticeKind) (path query : List ℕ) → EndsIn (47 ∷ word kind) path → (notice_at (page_at path) true query ≡ None) ⊎ (notice_at (page_at path) true query ≡ notice_in kind query)
page_told kind path query ends =
    picked kind query (bytes_eq path (codes "/")) (bytes_eq path (codes "/n/win")) (bytes_eq path (codes "/n/bill")) (bytes_eq path (codes "/n/loss")) (bytes_eq path (codes "/books")) (bytes_eq path (codes "/ledger"))
    (own_page kind NoticeKind.Win path ends) (own_page kind NoticeKind.Bill path ends) (own_page kind NoticeKind.Loss path ends) (page_at path) refl

-- ---- what is heard of a message of a bidder's own notice

-- the kind of an http URL's scheme
http_kind : (p : Parts) → bytes_eq p.scheme (codes "http") ≡ true → kind_of p ≡ SchemeType.SpecialNotFile
unfolding scheme_type default_port
http_kind p http = ap scheme_type ((bytes_eq-Decides p.scheme (codes "http")).0 http)

-- the notice of a request for a target with that path and query
get_told : (m : Request) (target path query : List ℕ) → IsGet target m → path_of target ≡ path → query_of target ≡ query → notice_of m ≡ notice_at (page_at path) true query
get_told m target path query get path_is query_is =
    ap (λ (t : List ℕ). notice_at (page_at (path_of t)) (is_get (verb_of_method m.head.method)) (query_of t)) get.target_is
    ∙ (ap (λ (t : List ℕ). notice_at (page_at (path_of target)) (is_get (verb_of_method t)) (query_of target)) get.method
    ∙ ap₂ (λ (a b : List ℕ). notice_at (page_at a) true b) path_is query_is)

pub own_messages : OwnMessagesAreRead
own_messages values base bid kind price c ms plain bytes text_utf some few paid more bounded made is valid begin =
    ⊎_elim (λ none. subst Told (sym none) (All-nil Says)) (λ one. subst Told (sym one.1) (All-cons Says one.0 [] (says one.0 one.2 one.3 one.4) (All-nil Says)))
    (calls_are_one url c ms is valid begin)
  where
    url : List ℕ
    url = url_expansion values (notice_url base bid kind)

    Says : Request → Type 0
    Says m = (notice_of m ≡ None) ⊎ (notice_of m ≡ Some (notice_put kind values.auction.now bid price))

    Told : List Request → Type 0
    Told l = All Says l

    says : (m : Request) (p : Parts) → parse_url None url ≡ Ok p → IsGet (target_of p) m → Says m
    says m p parsed get =
        let (q, read, made_p) = made_of url c is in
        let same : q ≡ p = ap (λ r. unwrap_or (result_ok r) p) (sym read ∙ parsed) in
        let m_of : IsMadeOf p c = subst (λ (x : Parts). IsMadeOf x c) same made_p in
        let ok : IsValid p = valid p parsed in
        let query : List ℕ = notice_query kind values.auction.now bid price in
        let front : List ℕ = url_expansion values base in
        let base_plain : All IsUnmarked front = base_unmarked values base plain in
        let text : url ≡ front ++ (page_path kind ++ 63 ∷ query) = templates_become values base bid kind price paid made in
        let joined : (front ++ page_path kind) ++ 63 ∷ query ≡ url = append_assoc front (page_path kind) (63 ∷ query) ∙ sym text in
        let query_is : p.query ≡ Some query =
        queries_stay (front ++ page_path kind) kind values.auction.now bid price p (All-append IsUnmarked front (page_path kind) base_plain (page_unmarked kind)) made
        (subst (λ (t : List ℕ). parse_url None t ≡ Ok p) (sym joined) parsed) in
        let n : Names (target_of p) p.path query = names p m_of.host query m_of.has m_of.scheme ok query_is in
        let kept : All (IsKept (query_set (kind_of p))) query = rw query_is at ok.query in
        let visible : All (Passes is_query_byte) query = All-weaker (IsKept (query_set (kind_of p))) (Passes is_query_byte) (query_byte (kind_of p)) query kept in
        let ends : EndsIn (47 ∷ word kind) p.path =
        page_path_ends front (word kind) query p (is_word kind) (letters kind) base_plain visible
        (subst (λ (t : List ℕ). parse_url None t ≡ Ok p) (text ∙ ap (λ (t : List ℕ). front ++ (t ++ 63 ∷ query)) (page_word kind)) parsed) (http_kind p m_of.scheme) in
        let read_back : notice_in kind query ≡ Some (notice_put kind values.auction.now bid price) = queries_read kind values.auction.now bid price bytes text_utf some few made more bounded in
        let told : notice_of m ≡ notice_at (page_at p.path) true query = get_told m (target_of p) p.path query get n.path_is n.query_is in
        ⊎_elim (λ none. inl (told ∙ none)) (λ own. inr (told ∙ (own ∙ read_back))) (page_told kind p.path query ends)
