-- The head that bytes begin with, by the parser's spans.
use Rattle.std.proofs.Common.{◌≡◌, ℕ, ◌≤◌, List, [], length, take, drop, Bool, ◌&&◌, not, refl, sym, ap, subst, ◌∙◌, append-nil, arith, inl}
use Rattle.std.specs.Prelude.{◌==◌}
use Rattle.std.proofs.lemmas.List.{length-map, length-take-le}
use Rattle.httparse.specs.Grammar.{Field, RequestHead, print_request}
use Rattle.httparse.specs.Spans.{IsRequestAt, AreFieldsAt, header_bytes, name_and_value, span_bytes}
use Rattle.httparse.specs.declared.spans.HeaderSpan.{HeaderSpan}
use Rattle.httparse.specs.declared.spans.RequestSpans.{RequestSpans}
use Rattle.httparse.proofs.GrammarLemmas.{request_unique}
use Rattle.http_grammar.specs.Heads.{pairs_at}
use Rattle.http_grammar.specs.Fields.{says_close}
use Rattle.http_grammar.specs.Judged.{IsSoundRequest}
use Rattle.http_grammar.specs.Requests.{verb_of_method, pairs, is_post, HasParts, BeginsWithRequest, RefusesRequest}
use Rattle.http_grammar.specs.declared.fault.HttpFault.{HttpFault}
use Rattle.http_grammar.specs.declared.framing.Framing.{Framing}
use Rattle.http_grammar.specs.declared.parts.FirstRequest.{FirstRequest}
use Rattle.http_grammar.specs.declared.parts.RequestParts.{RequestParts}

request_sound : (limit minor minor' : ℕ) (post post' : Bool) (fields fields' : List (List ℕ × List ℕ)) (framing : Framing) → minor ≡ minor' → post ≡ post' → fields ≡ fields' → IsSoundRequest limit minor post fields framing → IsSoundRequest limit minor' post' fields' framing
request_sound limit minor minor' post post' fields fields' framing m p f sound =
    subst (λ (fs : List (List ℕ × List ℕ)). IsSoundRequest limit minor' post' fs framing) f
    (subst (λ (b : Bool). IsSoundRequest limit minor' b fields framing) p (subst (λ (n : ℕ). IsSoundRequest limit n post fields framing) m sound))

-- parts that were found by the spans are the head's
pub has_parts : (limit : ℕ) (bytes : List ℕ) (spans : List HeaderSpan) (found : RequestSpans) (h : RequestHead) (parts : RequestParts) (post : Bool) → IsRequestAt bytes spans found h → post ≡ is_post h
    → parts.verb ≡ verb_of_method (span_bytes bytes found.method) → parts.target ≡ found.path → parts.keep ≡ ((found.version == 1) && not (says_close (pairs_at bytes (take found.headers spans))))
    → IsSoundRequest limit found.version post (pairs_at bytes (take found.headers spans)) parts.framing → HasParts limit bytes h parts
has_parts limit bytes spans found h parts post at is verb target keep sound = record {
  sound = request_sound limit found.version h.minor post (is_post h) (pairs_at bytes (take found.headers spans)) (pairs h) parts.framing at.version is at.fields sound;
  verb = verb ∙ ap verb_of_method at.method;
  target = ap (span_bytes bytes) target ∙ at.path;
  keep = keep ∙ ap (λ v. (v == 1) && not (says_close (pairs_at bytes (take found.headers spans)))) at.version ∙ ap (λ ps. (h.minor == 1) && not (says_close ps)) at.fields;
}

-- there are no more fields than spans
pub few_fields : (bytes : List ℕ) (spans : List HeaderSpan) (count : ℕ) (fields : List Field) → AreFieldsAt bytes spans count fields → count ≤ length spans → length fields ≤ length spans
few_fields bytes spans count fields are fits =
    let l = ap length are in
    let a = length-map (take count spans) (header_bytes bytes) in
    let b = length-map fields name_and_value in
    let k = length-take-le count spans fits in
    omega (arith, l, a, b, k, fits)

-- a shorter head at the front leaves no head that is all bytes
pub no_whole : (room limit : ℕ) (head : List ℕ) (first : FirstRequest) → BeginsWithRequest room limit head first → (first.len ≡ length head → ⊥) → RefusesRequest room limit head HttpFault.BadHead
no_whole room limit head first begins other = inl (
  refl,
  λ h reads few.
      let same = request_unique head (BeginsWithRequest.h begins) h (drop first.len head) [] (BeginsWithRequest.reads begins) reads in
      other (BeginsWithRequest.long begins ∙ ap (λ k. length (print_request k)) same.0 ∙ ap length (sym (append-nil (print_request h))) ∙ ap length (sym reads.1)),
)
