-- What bytes at hand hold of a request.
use Rattle.std.proofs.Common.{◌≡◌, ℕ, ◌<◌, ◌≤◌, List, [], ◌∷◌, ◌++◌, length, take, drop, Bool, true, false, Decides, MatchOption, Option, Some, None, is_some, Err, sym, ap, ◌∙◌, subst, append-nil, arith, inl, inr}
use Rattle.adx_io.specs.Streams.{Tape}
use Rattle.httparse.specs.Grammar.{ReadsRequest, print_request}
use Rattle.httparse.proofs.GrammarLemmas.{request_unique}
use Rattle.http_connection.specs.HeadEnds.{BeginsWithHead, HeadEndsAt}
use Rattle.http_connection.specs.BufferState.{BufferState, Passes}
use Rattle.http_connection.specs.declared.head.TheConstants.{HEAD_LIMIT}
use Rattle.http_grammar.specs.Requests as grammar
use Rattle.http_grammar.specs.declared.fault.HttpFault.{HttpFault}
use Rattle.http_grammar.specs.declared.parts.FirstRequest.{FirstRequest}
use Rattle.http_grammar.specs.declared.parts.RequestParts.{RequestParts}
use Rattle.http_connection.specs.declared.chunks.TheConstants.{LINE_COUNT_LIMIT}
use Rattle.http_connection.specs.BodyForms.{body_of_request, LacksBody}
use Rattle.http_connection.specs.Messages.{IsRequestThen, RefusesRequest, IsUnfinishedRequest}
use Rattle.http_connection.specs.Laws.RequestAnswer.{request, ending}
use Rattle.http_connection.specs.Found.{FaultGives, HasHead, HasRequestHead, IsWhole}
use Rattle.http_connection.specs.Ready.{HasRequest, IsReady}
use Rattle.http_connection.specs.State.{ConnState}
use Rattle.http_connection.specs.declared.whole.Whole.{Whole}
use Rattle.http_connection.proofs.Counts.{request_fields}
use Rattle.http_connection.proofs.First.{first_fails, first_has}
use Rattle.http_connection.proofs.OneAnswer.{has_one_request, read_not_refused}

-- bytes that are refused hold no request
pub refused : (limit : ℕ) (bytes : List ℕ) (fault : HttpFault) → RefusesRequest limit bytes fault → HasRequest limit bytes → ⊥
refused limit bytes fault r h = read_not_refused limit bytes h.0 h.1 fault h.2 r

-- the head of a request that the bytes hold is read of all of them
reads_on : (limit : ℕ) (bytes : List ℕ) → (h : HasRequest limit bytes) → ReadsRequest bytes h.0.head (IsRequestThen.behind h.2)
reads_on limit bytes h =
    let reads = IsRequestThen.reads h.2 in
    (reads.0, BeginsWithHead.bytes_are (IsRequestThen.begins h.2) ∙ ap (λ l. l ++ IsRequestThen.behind h.2) (reads.1 ∙ append-nil (print_request h.0.head)))

-- bytes that begin with no head of so few fields hold no request
pub not_begun : (limit : ℕ) (bytes : List ℕ) → grammar.BeginsWithNoRequest LINE_COUNT_LIMIT bytes → HasRequest limit bytes → ⊥
not_begun limit bytes none h =
    let fields = request_fields (IsRequestThen.begins h.2) h.0.head (IsRequestThen.reads h.2) in
    let few = IsRequestThen.few h.2 in
    none h.0.head (IsRequestThen.behind h.2) (reads_on limit bytes h) (omega (arith, fields, few))

-- nor do those that begin with a head past the bound
pub too_long : (limit : ℕ) (bytes : List ℕ) (first : FirstRequest) → grammar.BeginsWithRequest LINE_COUNT_LIMIT limit bytes first → HEAD_LIMIT < first.len → HasRequest limit bytes → ⊥
too_long limit bytes first b long h =
    let reads = IsRequestThen.reads h.2 in
    let same = request_unique bytes (grammar.BeginsWithRequest.h b) h.0.head (drop first.len bytes) (IsRequestThen.behind h.2) (grammar.BeginsWithRequest.reads b) (reads_on limit bytes h) in
    let len = grammar.BeginsWithRequest.long b ∙ ap (λ k. length (print_request k)) same.0 ∙ ap length (sym (append-nil (print_request h.0.head))) ∙ ap length (sym reads.1) in
    let short = BeginsWithHead.short (IsRequestThen.begins h.2) in
    omega (arith, len, short, long)

few_lines : (bytes : List ℕ) (end lines : ℕ) → (h : HeadEndsAt bytes end lines) → lines ≤ LINE_COUNT_LIMIT → length (BeginsWithHead.lines (HeadEndsAt.begins h)) ≤ LINE_COUNT_LIMIT
few_lines bytes end lines h few = let c = h.count in omega (arith, c, few)

pub bad_head : (limit : ℕ) (bytes : List ℕ) (end lines : ℕ) (fault : HttpFault) → HeadEndsAt bytes end lines → lines ≤ LINE_COUNT_LIMIT → grammar.RefusesRequest LINE_COUNT_LIMIT limit (take end bytes) fault → HasRequest limit bytes → ⊥
bad_head limit bytes end lines fault h few (inl none) =
    let b = h.begins in
    let l = few_lines bytes end lines h few in
    refused limit bytes fault (inr (take end bytes, drop end bytes, b, inr (inl (l, none.0, λ k reads. none.1 k reads (let n = request_fields b k reads in omega (arith, n, l))))))
bad_head limit bytes end lines fault h few (inr fails) =
    refused limit bytes fault (inr (take end bytes, drop end bytes, h.begins, inr (inr (inl (few_lines bytes end lines h few, fails.0, fails.1, fails.2)))))

-- nor do those whose head fails a test
pub bad_first : (limit : ℕ) (bytes : List ℕ) (first : FirstRequest) (fault : HttpFault) → grammar.BeginsWithRequest LINE_COUNT_LIMIT limit bytes first → first.len ≤ HEAD_LIMIT → first.parts ≡ Err fault → HasRequest limit bytes → ⊥
bad_first limit bytes first fault b least is =
    let has = first_has limit bytes first b least in
    bad_head limit bytes first.len (HasHead.lines has) fault (HasHead.ends has) (HasHead.few has) (first_fails limit bytes first fault b is)

-- after a sound head the body decides
pub whole_has : (limit : ℕ) (bytes : List ℕ) (w : Whole) → IsWhole limit bytes w → HasRequest limit bytes
whole_has limit bytes w is =
    let head = IsWhole.head is in
    let says = HasRequestHead.says head in
    let ends = HasHead.ends (HasRequestHead.has head) in
    let body = IsWhole.body is in (
      record { head = says.h; body = body.0 },
      body.1,
      record {
        head = take w.head bytes;
        behind = drop w.head bytes;
        framing = w.parts.framing;
        begins = ends.begins;
        few = few_lines bytes w.head (HasHead.lines (HasRequestHead.has head)) ends (HasHead.few (HasRequestHead.has head));
        reads = says.reads;
        sound = says.has.sound;
        body = body.2;
      },
    )

-- bytes at hand begin with a whole request exactly where one was found in them
pub found_ready : (c : ConnState) (limit : ℕ) (bytes : List ℕ) (found : Option Whole) (b : Bool) → c.failed ≡ false → c.limit ≡ limit → c.held ≡ bytes → MatchOption found (HasRequest limit bytes → ⊥) (IsWhole limit bytes) → b ≡ is_some found → Decides b (IsReady c)
found_ready c limit bytes (Some w) b sound at holds whole is =
    ((λ yes. (sound, subst (λ (n : ℕ). HasRequest n c.held) (sym at) (subst (HasRequest limit) (sym holds) (whole_has limit bytes w whole)))), (λ ready. is))
found_ready c limit bytes None b sound at holds none is =
    ((λ yes. absurd (let e : false ≡ true = sym is ∙ yes in cc e)), (λ ready. absurd (none (subst (λ (n : ℕ). HasRequest n bytes) at (subst (HasRequest c.limit) holds ready.1)))))

pub lacks_body : (limit : ℕ) (bytes : List ℕ) (end : ℕ) (parts : RequestParts) → HasRequestHead limit bytes end parts → LacksBody limit (body_of_request parts.framing) (drop end bytes) → HasRequest limit bytes → ⊥
lacks_body limit bytes end parts head lacks =
    let says = HasRequestHead.says head in
    let ends = HasHead.ends (HasRequestHead.has head) in
    let few = few_lines bytes end (HasHead.lines (HasRequestHead.has head)) ends (HasHead.few (HasRequestHead.has head)) in
    refused limit bytes lacks.0 (inr (take end bytes, drop end bytes, ends.begins, inr (inr (inr (few, says.h, says.reads, parts.framing, says.has.sound, lacks.1)))))

-- bytes that hold a request aren't at their end, nor refused where nothing follows, nor unfinished
pub not_ended : (limit : ℕ) (bytes : List ℕ) → HasRequest limit bytes → bytes ++ [] ≡ [] → ⊥
not_ended limit bytes has none =
    let same : ending ≡ request has.0 has.1 = has_one_request limit bytes ending (request has.0 has.1) (sym (append-nil bytes) ∙ none) has.2 in
    cc

pub not_refused : (limit : ℕ) (bytes : List ℕ) (fault : HttpFault) → HasRequest limit bytes → RefusesRequest limit (bytes ++ []) fault → ⊥
not_refused limit bytes fault has refuses = refused limit bytes fault (subst (λ (b : List ℕ). RefusesRequest limit b fault) (append-nil bytes) refuses) has

pub not_unfinished : (limit : ℕ) (bytes given : List ℕ) → HasRequest limit bytes → [] ≡ given ++ [] → IsUnfinishedRequest limit (bytes ++ given) → ⊥
not_unfinished limit bytes [] has none (inl empty) = not_ended limit bytes has empty
not_unfinished limit bytes [] has none (inr refuses) = not_refused limit bytes HttpFault.Cut has refuses
not_unfinished limit bytes (x ∷ given) has none either = absurd (cc (none))

-- a source that has none left
abbrev pub at_end : Tape
at_end = record { taken = []; left = [] }

-- so reading one after which nothing comes has no fault
pub no_fault : (limit : ℕ) (start : BufferState) (fault : HttpFault) → HasRequest limit start.pending → FaultGives RefusesRequest IsUnfinishedRequest limit start (Some at_end) (Some at_end) fault → ⊥
no_fault limit start HttpFault.ReadFault has w = not_unfinished limit start.pending w.0 has (Passes.left w.1) w.2
no_fault limit start HttpFault.BadHead has w = not_refused limit start.pending HttpFault.BadHead has w
no_fault limit start HttpFault.HeadTooLong has w = not_refused limit start.pending HttpFault.HeadTooLong has w
no_fault limit start HttpFault.LengthRequired has w = not_refused limit start.pending HttpFault.LengthRequired has w
no_fault limit start HttpFault.BodyTooLong has w = not_refused limit start.pending HttpFault.BodyTooLong has w
no_fault limit start HttpFault.BadChunk has w = not_refused limit start.pending HttpFault.BadChunk has w
no_fault limit start HttpFault.Cut has w = not_refused limit start.pending HttpFault.Cut has w
no_fault limit start HttpFault.Coding has w = not_refused limit start.pending HttpFault.Coding has w
