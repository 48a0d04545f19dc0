-- Messages that come before some bytes are there without them.
use Rattle.std.proofs.Common.{◌≡◌, ℕ, List, [], ◌∷◌, ◌++◌, refl, sym, ap, ◌∙◌, append_assoc, subst}
use Rattle.std.specs.List.{flat_map}
use Rattle.httparse.specs.Grammar.{print_chunk_line}
use Rattle.http_grammar.specs.declared.framing.Framing.{Framing}
use Rattle.http_connection.specs.BodyForms.{body_of_request, IsBodyThen}
use Rattle.http_connection.specs.Chunks.{print_chunk}
use Rattle.http_connection.specs.Messages.{Request, IsRequestThen, AreRequests}

-- a request's body
body_front : (limit : ℕ) (framing : Framing) (behind body rest left : List ℕ) → IsBodyThen limit (body_of_request framing) behind body (rest ++ left)
    → (given : List ℕ) × (behind ≡ given ++ left) × IsBodyThen limit (body_of_request framing) given body rest
body_front limit Framing.Unframed behind body rest left is = (rest, sym is.1, (is.0, refl))
body_front limit (Framing.Sized n) behind body rest left is = (body ++ rest, is.1 ∙ sym (append_assoc body rest left), (is.0, refl))
body_front limit Framing.Chunked behind body rest left is =
    let tail = is.trailer ++ rest in
    let line = print_chunk_line is.zero.line in
    let last = line ++ tail in
    let chunks = flat_map print_chunk is.chunks in
    let tail_is : is.behind ≡ tail ++ left = is.behind_is ∙ sym (append_assoc is.trailer rest left) in
    let last_is : is.last ≡ last ++ left = is.zero.bytes_are ∙ ap (λ (l : List ℕ). line ++ l) tail_is ∙ sym (append_assoc line tail left) in (
      chunks ++ last,
      is.before.bytes_are ∙ ap (λ (l : List ℕ). chunks ++ l) last_is ∙ sym (append_assoc chunks last left),
      record {
        chunks = is.chunks;
        last = last;
        behind = tail;
        trailer = is.trailer;
        before = record { each = is.before.each; within = is.before.within; bytes_are = refl };
        zero = record { line = is.zero.line; is_line = is.zero.is_line; short = is.zero.short; size_is = is.zero.size_is; bytes_are = refl };
        trailer_ends = is.trailer_ends;
        behind_is = refl;
        body_is = is.body_is;
      },
    )

request_front : (limit : ℕ) (bytes : List ℕ) (m : Request) (rest left : List ℕ) → IsRequestThen limit bytes m (rest ++ left) → (given : List ℕ) × (bytes ≡ given ++ left) × IsRequestThen limit given m rest
request_front limit bytes m rest left is =
    let body = body_front limit is.framing is.behind m.body rest left is.body in (
      is.head ++ body.0,
      is.begins.bytes_are ∙ ap (λ (l : List ℕ). is.head ++ l) body.1 ∙ sym (append_assoc is.head body.0 left),
      record {
        head = is.head;
        behind = body.0;
        framing = is.framing;
        begins = record {
          before = is.begins.before;
          first = is.begins.first;
          lines = is.begins.lines;
          last = is.begins.last;
          empty = is.begins.empty;
          full = is.begins.full;
          ends = is.begins.ends;
          head_is = is.begins.head_is;
          short = is.begins.short;
          bytes_are = refl;
        };
        few = is.few;
        reads = is.reads;
        sound = is.sound;
        body = body.2;
      },
    )

pub requests_front : (limit : ℕ) (bytes rest left : List ℕ) (ms : List Request) → AreRequests limit bytes ms (rest ++ left) → (given : List ℕ) × (bytes ≡ given ++ left) × AreRequests limit given ms rest
requests_front limit bytes rest left [] are = (rest, are, refl)
requests_front limit bytes rest left (m ∷ ms) are =
    let behind = requests_front limit are.0 rest left ms are.2 in
    let one = request_front limit bytes m behind.0 left (subst (λ (l : List ℕ). IsRequestThen limit bytes m l) behind.1 are.1) in
    (one.0, one.1, (behind.0, one.2, behind.2))
