-- A bill whose message was answered with a success was counted.
use Rattle.std.proofs.Common.{◌≡◌, ◌⊎◌, ⊎_elim, ℕ, List, [], ◌∷◌, ◌++◌, length, true, false, not, refl, sym, ap, ◌∙◌, subst, append_assoc, append-nil, All, Some, None, Ok, inl, inr}
use Rattle.std.proofs.lemmas.List.Elements.{All-head}
use Rattle.adx_http.specs.Targets.{path_of, query_of}
use Rattle.adx_http.specs.declared.reply.Reply.{Reply}
use Rattle.bidder_core.specs.Answers.{notice_url}
use Rattle.bidder_core.specs.BidIds.{is_made}
use Rattle.bidder_core.specs.Ledger.{was_counted}
use Rattle.bidder_core.specs.Seen.{BidderState}
use Rattle.bidder_core.specs.declared.price_line.PriceLine.{PriceLine}
use Rattle.bidder_core.specs.declared.price_line.TheConstants.{MOST_PRICES}
use Rattle.bidder_http.specs.Messages.{AnswersAt, BidderAnswers}
use Rattle.bidder_http.specs.Pages.{is_get, page_at}
use Rattle.http_connection.specs.Messages.{RefusesRequest, Request}
use Rattle.http_grammar.specs.Requests.{is_kept, verb_of_method}
use Rattle.http_grammar.specs.declared.fault.HttpFault.{HttpFault}
use Rattle.http_grammar.specs.declared.verb.Verb.{Verb}
use Rattle.http_service.specs.Connections.{Replies}
use Rattle.http_service.specs.Replies.{fault_status, is_head, lent, methods_text, refusal_bytes, reply_to}
use Rattle.http_service.specs.declared.answer.Answer.{Answer}
use Rattle.http_service.specs.declared.limits.TheConstants.{REQUEST_LIMIT}
use Rattle.notice_book.specs.declared.kind.NoticeKind.{NoticeKind}
use Rattle.notice_macros.specs.Expansion.{url_expansion}
use Rattle.notice_macros.specs.declared.values.Values.{Values}
use Rattle.outbox.specs.Calls.{IsValidAs, call_of, target_of}
use Rattle.outbox.specs.Posts.{values_of}
use Rattle.outbox.specs.Pumping.{Responds}
use Rattle.outbox.specs.declared.calling.Call.{Call}
use Rattle.outbox.specs.declared.post.Post.{Post}
use Rattle.two_books.specs.OwnMessages.{BeginWith, IsGet, notice_at, notice_of, notice_put}
use Rattle.two_books.proofs.Heard.{calls_are_one, own_messages}
use Rattle.url.specs.Parser.{parse_url}
use Rattle.url.specs.Parts.{Parts}
use Rattle.two_books.specs.Delivering.{IsHeard, IsReplied}
use Rattle.two_books.proofs.Billed.{made_more, plain}
use Rattle.two_books.specs.Settling.{IsCounted}
use Rattle.two_books.proofs.BillPages.{IsNoBook, bill_page}
use Rattle.two_books.proofs.Ruled.{page_counted}
use Rattle.two_books.proofs.Statuses.{IsNoSuccess, no_reply, no_success, refused_fails}

-- what a message is replied
abbrev answered : Request → Answer → List ℕ → Reply
answered m a body = record {
  status = a.status;
  json = true;
  openrtb = a.openrtb;
  close = not (is_kept m.head);
  allow = lent (methods_text a.allow);
  head = is_head (verb_of_method m.head.method);
  body = lent body;
}

abbrev refusal : ℕ → Reply
refusal status = record {
  status = status;
  json = true;
  openrtb = false;
  close = true;
  allow = lent [];
  head = false;
  body = lent [];
}

-- how a reply ends after what was answered
abbrev Ends : List ℕ → List ℕ → Type 0
Ends reply out = (reply ≡ out) ⊎ ((fault : HttpFault) × (status : ℕ) × (fault_status fault ≡ Some status) × (reply ≡ out ++ refusal_bytes status))

-- what was replied to no request is no success
nothing_heard : (limit : ℕ) (reply out : List ℕ) → out ≡ [] → Ends reply out → Responds limit reply true → ⊥
nothing_heard limit reply out none (inl is) responds = no_reply limit reply (is ∙ none) responds
nothing_heard limit reply out none (inr (fault, status, says, is)) responds =
    no_success limit (refusal status) [] reply (refused_fails fault status says) (is ∙ (ap (λ (t : List ℕ). t ++ refusal_bytes status) none ∙ sym (append-nil (refusal_bytes status)))) responds

-- a reply that begins with a refusal is no success
first_reply : (limit : ℕ) (reply out rest : List ℕ) (m : Request) (a : Answer) (body : List ℕ) → out ≡ reply_to m a body ++ rest → Ends reply out → Responds limit reply true → IsNoSuccess a.status → ⊥
first_reply limit reply out rest m a body is (inl whole) responds fails = no_success limit (answered m a body) rest reply fails (whole ∙ is) responds
first_reply limit reply out rest m a body is (inr (fault, status, says, more)) responds fails =
    no_success limit (answered m a body) (rest ++ refusal_bytes status) reply fails
    (more ∙ (ap (λ (t : List ℕ). t ++ refusal_bytes status) is ∙ append_assoc (reply_to m a body) rest (refusal_bytes status))) responds

verb_is : (m : Request) (target : List ℕ) → IsGet target m → verb_of_method m.head.method ≡ Verb.Get
verb_is m target get = ap verb_of_method get.method

module _ (values : Values) (base id : List ℕ) (price : ℕ) (c : Call) where
  abbrev url : List ℕ
  url = url_expansion values (notice_url base id NoticeKind.Bill)

  -- one request was heard, and answered with a success
  one_counted : (b now : BidderState) (m : Request) (a : Answer) (body : List ℕ) (p : Parts) → IsGet (target_of p) m → IsNoBook (path_of (target_of p))
      → (notice_of m ≡ None) ⊎ (notice_of m ≡ Some (notice_put NoticeKind.Bill values.auction.now id price))
      → BidderAnswers b m a body now → (IsNoSuccess a.status → ⊥) → was_counted NoticeKind.Bill values.auction.now id now.rows ≡ true
  one_counted b now m a body p get pages told answers success =
      let verb : verb_of_method m.head.method ≡ Verb.Get = verb_is m (target_of p) get in
      let path : List ℕ = path_of m.head.target in
      let query : List ℕ = query_of m.head.target in
      let here : IsNoBook path = subst (λ (t : List ℕ). IsNoBook (path_of t)) (sym get.target_is) pages in
      let got : notice_of m ≡ notice_at (page_at path) true query = ap (λ (v : Verb). notice_at (page_at path) (is_get v) query) verb in
      page_counted values.auction.now id (notice_put NoticeKind.Bill values.auction.now id price).price (page_at path) b query m.body a body now.rows here.books here.ledger
      (⊎_elim (λ none. inl (sym got ∙ none)) (λ some. inr (sym got ∙ some)) told)
      (subst (λ (v : Verb). AnswersAt (page_at path) v b query m.body a body now.rows) verb answers.1) success

  abbrev Says : Request → Type 0
  Says m = (notice_of m ≡ None) ⊎ (notice_of m ≡ Some (notice_put NoticeKind.Bill values.auction.now id price))

  heard : (limit : ℕ) (b now : BidderState) (ms : List Request) (out reply : List ℕ) → All Says ms → ((p : Parts) → parse_url None url ≡ Ok p → IsNoBook (path_of (target_of p)))
      → (ms ≡ []) ⊎ ((m : Request) × (ms ≡ m ∷ []) × (p : Parts) × (parse_url None url ≡ Ok p) × IsGet (target_of p) m)
      → Replies BidderAnswers b ms out now → Ends reply out → Responds limit reply true → was_counted NoticeKind.Bill values.auction.now id now.rows ≡ true
  heard limit b now ms out reply told pages (inl none) replies ends responds =
      let nothing = subst (λ (l : List Request). Replies BidderAnswers b l out now) none replies in
      absurd (nothing_heard limit reply out nothing.0 ends responds)
  heard limit b now ms out reply told pages (inr (m, one, p, parsed, get)) replies ends responds =
      let (a, body, between, rest, answers, none, is) = subst (λ (l : List Request). Replies BidderAnswers b l out now) one replies in
      let says : Says m = All-head Says m [] (subst (λ (l : List Request). All Says l) one told) in
      subst (λ (s : BidderState). was_counted NoticeKind.Bill values.auction.now id s.rows ≡ true) (sym none.1)
      (one_counted b between m a body p get (pages p parsed) says answers (first_reply limit reply out rest m a body is ends responds))

-- how a reply ends, whatever was refused
as_ends : (bytes : List ℕ) (ms : List Request) (h : IsHeard bytes ms) (reply out : List ℕ)
    → (reply ≡ out) ⊎ ((fault : HttpFault) × (status : ℕ) × RefusesRequest REQUEST_LIMIT h.0 fault × (fault_status fault ≡ Some status) × (reply ≡ out ++ refusal_bytes status)) → Ends reply out
as_ends bytes ms h reply out (inl is) = inl is
as_ends bytes ms h reply out (inr (fault, status, refused, says, is)) = inr (fault, status, says, is)

-- A post whose message was answered with a success: its bill was counted.
pub delivered_counts : (limit : ℕ) (line : PriceLine) (p : Post) (c : Call) (b now : BidderState) (reply : List ℕ) → call_of p.url ≡ Some c → IsValidAs p.url → IsReplied c.request b reply now → Responds limit reply true
    → IsCounted line now.rows p
delivered_counts limit line p c b now reply call valid (ms, out, heard_all, replies, ends) responds t =
    let values : Values = values_of t.bid (Some t.bid.charge) 0 in
    let begin : BeginWith c.request ms = (heard_all.0, heard_all.1) in
    let base_plain = plain line.base line.plain_base in
    let made : is_made MOST_PRICES t.id ≡ true = made_more (length line.prices) t.id line.few_prices t.made in
    let call_is : call_of (url values line.base t.id t.bid.charge.0 c) ≡ Some c = subst (λ (u : List ℕ). call_of u ≡ Some c) t.url call in
    let valid_is : IsValidAs (url values line.base t.id t.bid.charge.0 c) = subst IsValidAs t.url valid in
    heard values line.base t.id t.bid.charge.0 c limit b now ms out reply
    (own_messages values line.base t.id NoticeKind.Bill t.bid.charge.0 c ms base_plain t.auction.bytes t.auction.utf8 t.auction.some t.auction.few refl t.charge.0 t.charge.1 made call_is valid_is begin)
    (λ q parsed. bill_page values line.base t.id t.bid.charge.0 c q base_plain refl made call_is valid_is parsed)
    (calls_are_one (url values line.base t.id t.bid.charge.0 c) c ms call_is valid_is begin) replies (as_ends c.request ms heard_all reply out ends) responds
