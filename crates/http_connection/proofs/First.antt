-- A head that the parser found at the front of the bytes is the one that ends there.
use Rattle.std.proofs.Common.{◌≡◌, ℕ, zero, suc, ◌+◌, ◌-◌, ◌≤◌, List, [], ◌∷◌, length, take, drop, Option, Ok, Err, refl, sym, ap, subst, ◌∙◌, append-nil, arith, inr}
use Rattle.std.proofs.lemmas.List.{drop-take}
use Rattle.adx_io.specs.Streams.{Tape}
use Rattle.httparse.specs.Spans.{span_bytes}
use Rattle.httparse.specs.declared.spans.Span.{Span}
use Rattle.httparse.specs.Grammar.{ReadsRequest, print_request, RequestHead}
use Rattle.http_connection.specs.BufferState.{BufferState}
use Rattle.http_connection.specs.declared.head.TheConstants.{HEAD_LIMIT}
use Rattle.http_grammar.specs.Requests as grammar
use Rattle.http_grammar.specs.declared.fault.HttpFault.{HttpFault}
use Rattle.http_grammar.specs.declared.parts.FirstRequest.{FirstRequest}
use Rattle.http_grammar.specs.declared.parts.RequestParts.{RequestParts}
use Rattle.http_connection.specs.declared.chunks.TheConstants.{LINE_COUNT_LIMIT}
use Rattle.http_connection.specs.Messages.{RefusesRequest, IsUnfinishedRequest}
use Rattle.http_connection.specs.Found.{HasHead, HasRequestHead, FaultGives}
use Rattle.http_connection.proofs.Printed.{request_ends, request_front}
use Rattle.http_connection.proofs.Requests.{head_refused}

take_take : (k m : ℕ) (ys : List ℕ) → k ≤ m → take k (take m ys) ≡ take k ys
take_take zero m ys le = refl
take_take (suc k) zero ys le = absurd (omega (arith, le))
take_take (suc k) (suc m) [] le = refl
take_take (suc k) (suc m) (y ∷ ys) le = ap (λ l. y ∷ l) (take_take k m ys (omega (arith, le)))

-- what lies in the first bytes is cut from them as from all
part_front : (xs : List ℕ) (n s e : ℕ) → s ≤ e → e ≤ n → take (e - s) (drop s (take n xs)) ≡ take (e - s) (drop s xs)
part_front xs n s e order within =
    let m = n - s in
    let whole : s + m ≡ n = omega (arith, order, within) in
    let front : drop s (take n xs) ≡ take m (drop s xs) = ap (λ k. drop s (take k xs)) (sym whole) ∙ drop-take s m xs in
    ap (take (e - s)) front ∙ take_take (e - s) m (drop s xs) (omega (arith, order, within))

span_front : (bytes : List ℕ) (n : ℕ) (t : Span) → t.start ≤ t.end → t.end ≤ n → span_bytes (take n bytes) t ≡ span_bytes bytes t
span_front bytes n t order within = part_front bytes n t.start t.end order within

pub first_has : (limit : ℕ) (bytes : List ℕ) (first : FirstRequest) → grammar.BeginsWithRequest LINE_COUNT_LIMIT limit bytes first → first.len ≤ HEAD_LIMIT → HasHead bytes first.len
first_has limit bytes first b least = record {
  lines = length (RequestHead.fields (grammar.BeginsWithRequest.h b));
  ends = request_ends bytes first.len (grammar.BeginsWithRequest.h b) (grammar.BeginsWithRequest.reads b) (grammar.BeginsWithRequest.long b) least;
  few = grammar.BeginsWithRequest.few b;
}

-- the head alone is the same head
first_reads : (limit : ℕ) (bytes : List ℕ) (first : FirstRequest) → (b : grammar.BeginsWithRequest LINE_COUNT_LIMIT limit bytes first) → ReadsRequest (take first.len bytes) (grammar.BeginsWithRequest.h b) []
first_reads limit bytes first b =
    let h = grammar.BeginsWithRequest.h b in
    let reads = grammar.BeginsWithRequest.reads b in
    (reads.0, request_front bytes first.len h reads (grammar.BeginsWithRequest.long b) ∙ sym (append-nil (print_request h)))

pub first_found : (limit : ℕ) (bytes : List ℕ) (first : FirstRequest) (parts : RequestParts) → grammar.BeginsWithRequest LINE_COUNT_LIMIT limit bytes first → first.len ≤ HEAD_LIMIT → first.parts ≡ Ok parts
    → (parts.target.start ≤ parts.target.end) × (parts.target.end ≤ first.len) → HasRequestHead limit bytes first.len parts
first_found limit bytes first parts b least is within =
    let h = grammar.BeginsWithRequest.h b in
    let has : grammar.HasParts limit bytes h parts = subst (grammar.Judges limit bytes h) is (grammar.BeginsWithRequest.judges b) in
    record {
      has = first_has limit bytes first b least;
      says = record {
        h = h;
        reads = first_reads limit bytes first b;
        has = record {
          sound = grammar.HasParts.sound has;
          verb = grammar.HasParts.verb has;
          target = span_front bytes first.len parts.target within.0 within.1 ∙ grammar.HasParts.target has;
          keep = grammar.HasParts.keep has;
        };
      };
    }

pub first_fails : (limit : ℕ) (bytes : List ℕ) (first : FirstRequest) (fault : HttpFault) → grammar.BeginsWithRequest LINE_COUNT_LIMIT limit bytes first → first.parts ≡ Err fault
    → grammar.RefusesRequest LINE_COUNT_LIMIT limit (take first.len bytes) fault
first_fails limit bytes first fault b is =
    let h = grammar.BeginsWithRequest.h b in
    inr (h, first_reads limit bytes first b, subst (grammar.Judges limit bytes h) is (grammar.BeginsWithRequest.judges b))

pub first_refused : (limit : ℕ) (start : BufferState) (old : Option Tape) (first : FirstRequest) (fault : HttpFault) → grammar.BeginsWithRequest LINE_COUNT_LIMIT limit start.pending first → first.len ≤ HEAD_LIMIT
    → first.parts ≡ Err fault → FaultGives RefusesRequest IsUnfinishedRequest limit start old old fault
first_refused limit start old first fault b least is =
    head_refused limit first.len start old fault (first_has limit start.pending first b least) (first_fails limit start.pending first fault b is)
