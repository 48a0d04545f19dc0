-- A connection's end, as what the bidder heard and what it replied.
use Rattle.std.proofs.Common.{◌≡◌, ℕ, List, [], ◌∷◌, ◌++◌, length, Bool, true, false, refl, sym, ap, ◌∙◌, subst, Option, Some, None, Result, Ok, Err, inl, inr, ◌⊎◌}
use Rattle.std.specs.Prelude.{IfOk, unwrap_or, ⊤}
use Rattle.std.proofs.lemmas.Bool.{true≢false}
use Rattle.adx_units.specs.declared.memory.OutOfMemory.{OutOfMemory}
use Rattle.adx_io.specs.Streams.{Tape, Took}
use Rattle.adx_http.specs.Targets.{path_of, query_of}
use Rattle.http_connection.specs.Messages.{AreRequests, RefusesRequest, Request}
use Rattle.http_connection.specs.declared.conn.ConnEnd.{ConnEnd}
use Rattle.http_connection.proofs.Fronts.{request_stays}
use Rattle.http_grammar.specs.Requests.{verb_of_method}
use Rattle.http_grammar.specs.declared.fault.HttpFault.{HttpFault}
use Rattle.http_grammar.specs.declared.verb.Verb.{Verb}
use Rattle.http_service.specs.Connections.{EndsWith, Replies}
use Rattle.http_service.specs.Replies.{fault_status, refusal_bytes, reply_to}
use Rattle.http_service.specs.declared.answer.Answer.{Answer}
use Rattle.http_service.specs.declared.limits.TheConstants.{REQUEST_LIMIT}
use Rattle.http_service.proofs.Lists.{replies_more}
use Rattle.bidder_core.specs.Seen.{BidderState}
use Rattle.bidder_core.specs.declared.ledger.LedgerRow.{LedgerRow}
use Rattle.bidder_core.specs.declared.price_line.PriceLine.{PriceLine}
use Rattle.bidder_http.specs.Messages.{AnswersAt, AnswersMethod, BidderAnswers, BidderGivesUp}
use Rattle.bidder_http.specs.Notices.{TellsNotice, notice_in}
use Rattle.bidder_http.specs.Pages.{is_get, is_post, page_at}
use Rattle.bidder_http.specs.declared.page.Page.{Page}
use Rattle.two_books.specs.OwnMessages.{BeginWith, notice_at, notice_of}
use Rattle.two_books.specs.Playing.{BringsLate, Delivers, completes}
use Rattle.two_books.specs.Delivering.{IsCarried, IsDelivered, IsHeard, IsReplied, StopsDelivering, carried_on, carried_over}
use Rattle.two_books.specs.declared.late.Late.{Late}

-- ---- one message

told_rows : (o : Option LedgerRow) (b : BidderState) (a : Answer) (body : List ℕ) (rows : List LedgerRow) → TellsNotice o b a body rows → rows ≡ carried_on (length b.line.prices) b.rows o
told_rows None b a body rows h = h.2
told_rows (Some row) b a body rows h = h.2

-- a page that reports no notice leaves the ledger
books_rows : (t : Bool) (b : BidderState) (query bytes : List ℕ) (a : Answer) (body : List ℕ) (rows : List LedgerRow) → AnswersMethod t Page.Books b query bytes a body rows → rows ≡ b.rows
books_rows true b query bytes a body rows h = h.2
books_rows false b query bytes a body rows h = h.2

ledger_rows : (t : Bool) (b : BidderState) (query bytes : List ℕ) (a : Answer) (body : List ℕ) (rows : List LedgerRow) → AnswersMethod t Page.Ledger b query bytes a body rows → rows ≡ b.rows
ledger_rows true b query bytes a body rows h = h.2
ledger_rows false b query bytes a body rows h = h.2

offer_rows : (t : Bool) (b : BidderState) (query bytes : List ℕ) (a : Answer) (body : List ℕ) (rows : List LedgerRow) → AnswersMethod t Page.Offers b query bytes a body rows → rows ≡ b.rows
offer_rows true b query bytes a body rows h = h.1
offer_rows false b query bytes a body rows h = h.2

-- what a message leaves of the ledger is what the table of notices makes of the notice that it reports
page_rows : (page : Option Page) (verb : Verb) (b : BidderState) (query bytes : List ℕ) (a : Answer) (body : List ℕ) (rows : List LedgerRow) → AnswersAt page verb b query bytes a body rows
    → rows ≡ carried_on (length b.line.prices) b.rows (notice_at page (is_get verb) query)
page_rows None verb b query bytes a body rows h = h.2
page_rows (Some Page.Offers) verb b query bytes a body rows h = offer_rows (is_post verb) b query bytes a body rows h
page_rows (Some (Page.Notices kind)) verb b query bytes a body rows h = by verb h
  where
    by : (v : Verb) → AnswersAt (Some (Page.Notices kind)) v b query bytes a body rows → rows ≡ carried_on (length b.line.prices) b.rows (notice_at (Some (Page.Notices kind)) (is_get v) query)
    by Verb.Get g = told_rows (notice_in kind query) b a body rows g
    by Verb.Head g = g.2
    by Verb.Post g = g.2
    by Verb.Other g = g.2
page_rows (Some Page.Books) verb b query bytes a body rows h = books_rows (is_get verb) b query bytes a body rows h
page_rows (Some Page.Ledger) verb b query bytes a body rows h = ledger_rows (is_get verb) b query bytes a body rows h

one_rows : (b : BidderState) (m : Request) (a : Answer) (body : List ℕ) (now : BidderState) → BidderAnswers b m a body now → now.rows ≡ carried_on (length b.line.prices) b.rows (notice_of m)
one_rows b m a body now h =
    page_rows (page_at (path_of m.head.target)) (verb_of_method m.head.method) b (query_of m.head.target) m.body a body now.rows h.1

-- ---- the messages of a connection

carried : (ms : List Request) (out : List ℕ) (b now : BidderState) → Replies BidderAnswers b ms out now → IsCarried ms b now
carried [] out b now h = record { rows = ap (λ (s : BidderState). s.rows) h.1; line = ap (λ (s : BidderState). s.line) h.1 }
carried (m ∷ ms) out b now h =
    let mid : BidderState = h.2 in
    let rest : IsCarried ms mid now = carried ms h.3 mid now h.5 in
    let line : mid.line ≡ b.line = h.4.0 in
    record {
      rows =
          rest.rows
          ∙ (ap (λ n. carried_over n mid.rows ms) (ap (λ (l : PriceLine). length l.prices) line)
          ∙ ap (λ (rows : List LedgerRow). carried_over (length b.line.prices) rows ms) (one_rows b m h.0 h.1 mid h.4));
      line = rest.line ∙ line;
    }

-- requests of a front of the bytes are requests of all of them
requests_stay : (given more : List ℕ) (ms : List Request) (rest : List ℕ) → AreRequests REQUEST_LIMIT given ms rest → AreRequests REQUEST_LIMIT (given ++ more) ms (rest ++ more)
requests_stay given more [] rest are = ap (λ (l : List ℕ). l ++ more) are
requests_stay given more (m ∷ ms) rest are =
    (are.0 ++ more, request_stays REQUEST_LIMIT given more m are.0 are.1, requests_stay are.0 more ms rest are.2)

-- the requests before the last
requests_before : (bytes : List ℕ) (ms : List Request) (m : Request) (rest : List ℕ) → AreRequests REQUEST_LIMIT bytes (ms ++ m ∷ []) rest → BeginWith bytes ms
requests_before bytes [] m rest are = (bytes, refl)
requests_before bytes (n ∷ ms) m rest are =
    let behind = requests_before are.0 ms m rest are.2 in
    (behind.0, (are.0, are.1, behind.1))

stopped : (bytes rest out : List ℕ) (ms : List Request) (b now : BidderState) → AreRequests REQUEST_LIMIT bytes ms rest → Replies BidderAnswers b ms out now → StopsDelivering bytes b now
stopped bytes rest out ms b now are replies = (ms, (rest, are), carried ms out b now replies)

-- what was delivered whole was delivered in part
pub whole_in_part : (bytes : List ℕ) (b now : BidderState) → IsDelivered bytes b now → StopsDelivering bytes b now
whole_in_part bytes b now d = (d.0, (d.1.0, d.1.1), d.2)

-- nothing was delivered
pub nothing_heard : (bytes : List ℕ) (b : BidderState) → StopsDelivering bytes b b
nothing_heard bytes b = ([], (bytes, refl), record { rows = refl; line = refl })

-- ---- the ends of a connection over a source and a sink in memory

-- the connection ended by what it brought
abbrev pub Completes : ConnEnd → Type 0
Completes ConnEnd.Closed = ⊤
Completes ConnEnd.Cut = ⊤
Completes (ConnEnd.Refused fault) = ⊤
Completes ConnEnd.ReadFault = ⊥
Completes ConnEnd.WriteFault = ⊥
Completes ConnEnd.Spent = ⊤
Completes ConnEnd.OutOfMemory = ⊥

-- how it ended over a source that had these bytes, and a sink that has those now
abbrev pub Ends : Tape → List ℕ → Tape → BidderState → BidderState → ConnEnd → Type 0
Ends before reply tape b now end =
    EndsWith BidderAnswers BidderGivesUp REQUEST_LIMIT (Some before) (Some tape) (Some []) (Some reply) b now end

told : (reply out : List ℕ) → Took (Some []) (Some reply) out → reply ≡ out
told reply out took = ap (λ (o : Option (List ℕ)). unwrap_or o []) took

-- what was heard, and what was replied to it
abbrev pub HearsAll : List ℕ → List ℕ → BidderState → BidderState → Type 0
HearsAll bytes reply b now = IsDelivered bytes b now × IsReplied bytes b reply now

hears : (bytes reply out : List ℕ) (ms : List Request) (b now : BidderState) (heard : IsHeard bytes ms) → Replies BidderAnswers b ms out now
    → (reply ≡ out) ⊎ ((fault : HttpFault) × (status : ℕ) × RefusesRequest REQUEST_LIMIT heard.0 fault × (fault_status fault ≡ Some status) × (reply ≡ out ++ refusal_bytes status)) → HearsAll bytes reply b now
hears bytes reply out ms b now heard replies is = ((ms, heard, carried ms out b now replies), (ms, out, heard, replies, is))

pub hears_all : (before : Tape) (reply : List ℕ) (tape : Tape) (b now : BidderState) (end : ConnEnd) → Completes end → Ends before reply tape b now end → HearsAll before.left reply b now
hears_all before reply tape b now ConnEnd.Closed c (ms, served, inl (go_on, (beyond, are, none))) =
    hears before.left reply served.out ms b now (beyond ++ tape.left, are, inr (inr (go_on, inl none))) served.replies (inl (told reply served.out served.took))
hears_all before reply tape b now ConnEnd.Closed c (ms, served, inr (last, (beyond, short, are))) =
    hears before.left reply served.out ms b now (beyond ++ tape.left, are, inl last) served.replies (inl (told reply served.out served.took))
hears_all before reply tape b now ConnEnd.Cut c (ms, served, go_on, (beyond, are, cut)) =
    hears before.left reply served.out ms b now (beyond ++ tape.left, are, inr (inr (go_on, inr (HttpFault.Cut, cut)))) served.replies (inl (told reply served.out served.took))
hears_all before reply tape b now (ConnEnd.Refused fault) c r =
    let (beyond, are, refused) = r.brings in
    hears before.left reply r.out r.ms b now (beyond ++ tape.left, are, inr (inr (r.go_on, inr (fault, refused)))) r.replies
    (inr (fault, r.status, refused, r.answered, told reply (r.out ++ refusal_bytes r.status) r.took))
hears_all before reply tape b now ConnEnd.ReadFault c h = absurd c
hears_all before reply tape b now ConnEnd.WriteFault c h = absurd c
hears_all before reply tape b now ConnEnd.Spent c (ms, served, spent, (beyond, short, are)) =
    hears before.left reply served.out ms b now (beyond ++ tape.left, are, inr (inl spent)) served.replies (inl (told reply served.out served.took))
hears_all before reply tape b now ConnEnd.OutOfMemory c h = absurd c

carried_still : (ms : List Request) (b mid now : BidderState) → IsCarried ms b mid → now.line ≡ mid.line → now.rows ≡ mid.rows → IsCarried ms b now
carried_still ms b mid now is line rows = record { rows = rows ∙ is.rows; line = line ∙ is.line }

-- where it ended of itself, some first of the requests were heard
pub hears_some : (before : Tape) (reply : List ℕ) (tape : Tape) (b now : BidderState) (end : ConnEnd) → Ends before reply tape b now end → StopsDelivering before.left b now
hears_some before reply tape b now ConnEnd.Closed h = whole_in_part before.left b now (hears_all before reply tape b now ConnEnd.Closed tt h).0
hears_some before reply tape b now ConnEnd.Cut h = whole_in_part before.left b now (hears_all before reply tape b now ConnEnd.Cut tt h).0
hears_some before reply tape b now (ConnEnd.Refused fault) h = whole_in_part before.left b now (hears_all before reply tape b now (ConnEnd.Refused fault) tt h).0
hears_some before reply tape b now ConnEnd.ReadFault (ms, served, go_on, (given, rest, is, are, unfinished)) =
    stopped before.left (rest ++ tape.left) served.out ms b now
    (subst (λ (l : List ℕ). AreRequests REQUEST_LIMIT l ms (rest ++ tape.left)) (sym is) (requests_stay given tape.left ms rest are)) served.replies
hears_some before reply tape b now ConnEnd.WriteFault (inl f) =
    let (beyond, short, are) = f.brings in
    stopped before.left (beyond ++ tape.left) (f.out ++ reply_to f.last f.answer f.body) (f.before ++ f.last ∷ []) b now are
    (replies_more BidderAnswers b f.before f.out f.between f.last f.answer f.body now f.replies f.answered)
hears_some before reply tape b now ConnEnd.WriteFault (inr (fault, f)) =
    let (beyond, are, refused) = f.brings in
    stopped before.left (beyond ++ tape.left) f.out f.ms b now are f.replies
hears_some before reply tape b now ConnEnd.Spent h = whole_in_part before.left b now (hears_all before reply tape b now ConnEnd.Spent tt h).0
hears_some before reply tape b now ConnEnd.OutOfMemory (ms, between, served, go_on, inl (none, same, still)) =
    ([], (before.left, refl), carried_still [] b between now (subst (λ (l : List Request). IsCarried l b between) none (carried ms served.out b between served.replies)) (ap (λ (s : BidderState). s.line) same) (ap (λ (s : BidderState). s.rows) same))
hears_some before reply tape b now ConnEnd.OutOfMemory (ms, between, served, go_on, inr (m, gave_up, (beyond, short, are))) =
    (ms, requests_before before.left ms m (beyond ++ tape.left) are, carried_still ms b between now (carried ms served.out b between served.replies) gave_up.0 gave_up.1)

completed : (end : ConnEnd) → completes end ≡ true → Completes end
completed ConnEnd.Closed h = tt
completed ConnEnd.Cut h = tt
completed (ConnEnd.Refused fault) h = tt
completed ConnEnd.ReadFault h = absurd (true≢false (sym h))
completed ConnEnd.WriteFault h = absurd (true≢false (sym h))
completed ConnEnd.Spent h = tt
completed ConnEnd.OutOfMemory h = absurd (true≢false (sym h))

-- a message was served, and its reply is a text or wants memory
pub delivers : (before : Tape) (reply : List ℕ) (tape : Tape) (b now : BidderState) (end : ConnEnd) (r : Result (List ℕ) OutOfMemory)
    → completes end ≡ true → Ends before reply tape b now end → IfOk r (λ t. t ≡ reply) → Delivers before.left r b now
delivers before reply tape b now end (Ok text) whole ends is =
    let h = hears_all before reply tape b now end (completed end whole) ends in
    (h.0, subst (λ (t : List ℕ). IsReplied before.left b t now) (sym is) h.1)
delivers before reply tape b now end (Err wanting) whole ends is =
    whole_in_part before.left b now (hears_all before reply tape b now end (completed end whole) ends).0

-- how it ended over a sink that had these bytes
abbrev pub EndsFrom : Tape → List ℕ → List ℕ → Tape → BidderState → BidderState → ConnEnd → Type 0
EndsFrom before held reply tape b now end =
    EndsWith BidderAnswers BidderGivesUp REQUEST_LIMIT (Some before) (Some tape) (Some held) (Some reply) b now end

pub served : (before : Tape) (held reply : List ℕ) (tape : Tape) (b now : BidderState) (end : ConnEnd) (whole : Bool) (bytes : List ℕ) (r : Result (List ℕ) OutOfMemory)
    → held ≡ [] → whole ≡ completes end → whole ≡ true → EndsFrom before held reply tape b now end → bytes ≡ reply → IfOk r (λ t. t ≡ bytes) → Delivers before.left r b now
served before held reply tape b now end whole bytes r none is complete ends taken text =
    delivers before reply tape b now end r (sym is ∙ complete) (subst (λ (h : List ℕ). EndsFrom before h reply tape b now end) none ends)
    (subst (λ (x : List ℕ). IfOk r (λ t. t ≡ x)) taken text)

pub unserved : (before : Tape) (held reply : List ℕ) (tape : Tape) (b now : BidderState) (end : ConnEnd) → held ≡ [] → EndsFrom before held reply tape b now end → StopsDelivering before.left b now
unserved before held reply tape b now end none ends =
    hears_some before reply tape b now end (subst (λ (h : List ℕ). EndsFrom before h reply tape b now end) none ends)

-- ---- a reply that is on its way

abbrev late_of : List ℕ → List ℕ → Late
late_of request reply = record { request = request; bytes = reply }

-- a message that was lent, and its copy
pub brought : (message lent request reply : List ℕ) (done : Unit {0}) (b now : BidderState) (replies mid replies_now : List Late) → lent ≡ message → request ≡ message → Delivers lent (Ok reply) b now
    → mid ≡ replies → replies_now ≡ mid ++ late_of request reply ∷ [] → BringsLate message (Ok done) b now replies replies_now
brought message lent request reply done b now replies mid replies_now is copied delivered same more = (
  reply,
  subst (λ (bytes : List ℕ). IsDelivered bytes b now) is delivered.0,
  subst (λ (bytes : List ℕ). IsReplied bytes b reply now) is delivered.1,
  more ∙ (ap (λ (rs : List Late). rs ++ late_of request reply ∷ []) same ∙ ap (λ (text : List ℕ). replies ++ late_of text reply ∷ []) copied),
)
