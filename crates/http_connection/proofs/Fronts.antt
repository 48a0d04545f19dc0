-- What a front of the bytes gives stays so whatever follows.
use Rattle.std.proofs.Common.{◌≡◌, ◌≢◌, ℕ, ◌≤◌, List, ◌∷◌, ◌++◌, length, take, drop, refl, sym, ap, ◌∙◌, append_assoc, arith, length-append, inl, inr}
use Rattle.std.specs.List.{flat_map}
use Rattle.std.proofs.lemmas.List.{take-append-le, take-append-drop, take_at}
use Rattle.httparse.specs.Grammar.{print_chunk_line}
use Rattle.http_connection.specs.Lines.{ended}
use Rattle.http_connection.specs.declared.head.TheConstants.{HEAD_LIMIT}
use Rattle.http_grammar.specs.declared.framing.Framing.{Framing}
use Rattle.http_grammar.specs.declared.fault.HttpFault.{HttpFault}
use Rattle.http_connection.specs.Chunks.{Chunk, print_chunk, HasChunks, BeginsChunk, IsTrailer, HasNoTrailer, IsChunkedThen, IsBadLine, IsBadTrailer, EndsBadly, ChunkFault, FailsAt, FailsChunks}
use Rattle.http_connection.specs.BodyForms.{body_of_request, body_of_response, IsBodyThen, FailsBody}
use Rattle.http_connection.specs.declared.bodies.Body.{Body}
use Rattle.http_connection.specs.Messages.{FailsRequestAt, FailsWithoutHead, FailsResponseAt}
use Rattle.http_connection.specs.Laws.{RequestStays, RequestFaultStays, ResponseStays, ResponseFaultStays}
use Rattle.http_connection.proofs.OneHead.{begins_more, no_head_more}

-- more after a front and a rest is more after the rest
behind : (bytes front rest more : List ℕ) → bytes ≡ front ++ rest → bytes ++ more ≡ front ++ (rest ++ more)
behind bytes front rest more e = ap (λ l. l ++ more) e ∙ append_assoc front rest more

chunks_more : (limit : ℕ) (bytes more : List ℕ) (chunks : List Chunk) (rest : List ℕ) → HasChunks limit bytes chunks rest → HasChunks limit (bytes ++ more) chunks (rest ++ more)
chunks_more limit bytes more chunks rest h = record { each = h.each; within = h.within; bytes_are = behind bytes (flat_map print_chunk chunks) rest more h.bytes_are }

line_more : (bytes more : List ℕ) (size : ℕ) (rest : List ℕ) → BeginsChunk bytes size rest → BeginsChunk (bytes ++ more) size (rest ++ more)
line_more bytes more size rest b = record { line = b.line; is_line = b.is_line; short = b.short; size_is = b.size_is; bytes_are = behind bytes (print_chunk_line b.line) rest more b.bytes_are }

chunked_more : (limit : ℕ) (bytes more body rest : List ℕ) → IsChunkedThen limit bytes body rest → IsChunkedThen limit (bytes ++ more) body (rest ++ more)
chunked_more limit bytes more body rest c = record {
  chunks = c.chunks;
  last = c.last ++ more;
  behind = c.behind ++ more;
  trailer = c.trailer;
  before = chunks_more limit bytes more c.chunks c.last c.before;
  zero = line_more c.last more 0 c.behind c.zero;
  trailer_ends = c.trailer_ends;
  behind_is = behind c.behind c.trailer rest more c.behind_is;
  body_is = c.body_is;
}

body_more : (limit : ℕ) (form : Body) (bytes more body rest : List ℕ) → (form ≢ Body.ToEnd) → IsBodyThen limit form bytes body rest → IsBodyThen limit form (bytes ++ more) body (rest ++ more)
body_more limit Body.Absent bytes more body rest other b = (b.0, ap (λ l. l ++ more) b.1)
body_more limit (Body.Sized n) bytes more body rest other b = (b.0, behind bytes body rest more b.1)
body_more limit Body.Chunked bytes more body rest other b = chunked_more limit bytes more body rest b
body_more limit Body.ToEnd bytes more body rest other b = absurd (other refl)

no_trailer_more : (bytes more : List ℕ) → HEAD_LIMIT ≤ length bytes → HasNoTrailer bytes → HasNoTrailer (bytes ++ more)
no_trailer_more bytes more long none = λ trailer rest t e.
    let n = length trailer in
    let s = IsTrailer.short t in
    let within : n ≤ length bytes = omega (arith, s, long) in
    let front : take n bytes ≡ trailer = sym (take-append-le n bytes more within) ∙ ap (take n) e ∙ take_at trailer rest n refl in
    none trailer (drop n bytes) t (sym (take-append-drop n bytes) ∙ ap (λ l. l ++ drop n bytes) front)

bad_line_more : (bytes more : List ℕ) → IsBadLine bytes → IsBadLine (bytes ++ more)
bad_line_more bytes more (inl (line, rest, is_line, e, short, none)) = inl (line, rest ++ more, is_line, behind bytes (ended line) rest more e, short, none)
bad_line_more bytes more (inr (line, rest, is_line, e, long)) = inr (line, rest ++ more, is_line, behind bytes line rest more e, long)

bad_trailer_more : (bytes more : List ℕ) → IsBadTrailer bytes → IsBadTrailer (bytes ++ more)
bad_trailer_more bytes more (inl (lines, rest, full, many, e, short)) = inl (lines, rest ++ more, full, many, behind bytes (flat_map ended lines) rest more e, short)
bad_trailer_more bytes more (inr (long, none)) = inr (omega (arith, long, length-append bytes more), no_trailer_more bytes more long none)

bad_end_more : (size : ℕ) (bytes more : List ℕ) → EndsBadly size bytes → EndsBadly size (bytes ++ more)
bad_end_more size bytes more b = record {
  data_bytes = b.data_bytes;
  x = b.x;
  y = b.y;
  rest = b.rest ++ more;
  size_is = b.size_is;
  bytes_are = behind bytes b.data_bytes (b.x ∷ b.y ∷ b.rest) more b.bytes_are;
  other = b.other;
}

fails_more : (limit n : ℕ) (bytes more : List ℕ) (f : ChunkFault) → (f ≢ ChunkFault.cut) → FailsAt limit n bytes f → FailsAt limit n (bytes ++ more) f
fails_more limit n bytes more ChunkFault.bad other (inl x) = inl (bad_line_more bytes more x)
fails_more limit n bytes more ChunkFault.bad other (inr (inl (rest, b, t))) = inr (inl (rest ++ more, line_more bytes more 0 rest b, bad_trailer_more rest more t))
fails_more limit n bytes more ChunkFault.bad other (inr (inr (size, rest, b, some, fits, d))) = inr (inr (size, rest ++ more, line_more bytes more size rest b, some, fits, bad_end_more size rest more d))
fails_more limit n bytes more ChunkFault.too_long other (size, rest, b, some, long) = (size, rest ++ more, line_more bytes more size rest b, some, long)
fails_more limit n bytes more ChunkFault.cut other x = absurd (other refl)

chunk_fault_more : (limit : ℕ) (bytes more : List ℕ) (f : ChunkFault) → (f ≢ ChunkFault.cut) → FailsChunks limit bytes f → FailsChunks limit (bytes ++ more) f
chunk_fault_more limit bytes more f other x = record {
  chunks = x.chunks;
  behind = x.behind ++ more;
  before = chunks_more limit bytes more x.chunks x.behind x.before;
  fails = fails_more limit _ x.behind more f other x.fails;
}

body_fault_more : (limit : ℕ) (form : Body) (bytes more : List ℕ) (fault : HttpFault) → (fault ≢ HttpFault.Cut) → FailsBody limit form bytes fault → FailsBody limit form (bytes ++ more) fault
body_fault_more limit Body.Absent bytes more HttpFault.Cut other x = absurd (other refl)
body_fault_more limit Body.Absent bytes more fault other x = x
body_fault_more limit (Body.Sized n) bytes more HttpFault.Cut other x = absurd (other refl)
body_fault_more limit (Body.Sized n) bytes more fault other x = x
body_fault_more limit Body.Chunked bytes more HttpFault.Cut other x = absurd (other refl)
body_fault_more limit Body.Chunked bytes more HttpFault.BadChunk other x = chunk_fault_more limit bytes more ChunkFault.bad (λ e. absurd (cc e)) x
body_fault_more limit Body.Chunked bytes more HttpFault.BodyTooLong other x = chunk_fault_more limit bytes more ChunkFault.too_long (λ e. absurd (cc e)) x
body_fault_more limit Body.Chunked bytes more fault other x = x
body_fault_more limit Body.ToEnd bytes more HttpFault.BodyTooLong other x = omega (arith, x, length-append bytes more)
body_fault_more limit Body.ToEnd bytes more fault other x = x

without_head_more : (bytes more : List ℕ) (fault : HttpFault) → (fault ≢ HttpFault.Cut) → FailsWithoutHead bytes fault → FailsWithoutHead (bytes ++ more) fault
without_head_more bytes more HttpFault.HeadTooLong other x = (no_head_more bytes more x.1 x.0, (let l = x.1 in omega (arith, l, length-append bytes more)))
without_head_more bytes more HttpFault.Cut other x = absurd (other refl)
without_head_more bytes more fault other x = x

-- no request goes to the end of the bytes
never_to_end : (f : Framing) → body_of_request f ≢ Body.ToEnd
never_to_end Framing.Unframed = λ e. absurd (cc e)
never_to_end Framing.Chunked = λ e. absurd (cc e)
never_to_end (Framing.Sized n) = λ e. absurd (cc e)

pub request_stays : RequestStays
request_stays limit front more m rest r = record {
  head = r.head;
  behind = r.behind ++ more;
  framing = r.framing;
  begins = begins_more r.begins more;
  few = r.few;
  reads = r.reads;
  sound = r.sound;
  body = body_more limit (body_of_request r.framing) r.behind more m.body rest (never_to_end r.framing) r.body;
}

at_more : (limit count : ℕ) (head bytes more : List ℕ) (fault : HttpFault) → (fault ≢ HttpFault.Cut) → FailsRequestAt limit count head bytes fault → FailsRequestAt limit count head (bytes ++ more) fault
at_more limit count head bytes more fault other (inl x) = inl x
at_more limit count head bytes more fault other (inr (inl x)) = inr (inl x)
at_more limit count head bytes more fault other (inr (inr (inl x))) = inr (inr (inl x))
at_more limit count head bytes more fault other (inr (inr (inr (few, h, reads, framing, sound, fails)))) =
    inr (inr (inr (few, h, reads, framing, sound, body_fault_more limit (body_of_request framing) bytes more fault other fails)))

pub request_fault_stays : RequestFaultStays
request_fault_stays limit front more fault other (inl x) = inl (without_head_more front more fault other x)
request_fault_stays limit front more fault other (inr (head, bytes, begins, x)) = inr (head, bytes ++ more, begins_more begins more, at_more limit _ head bytes more fault other x)

pub response_stays : ResponseStays
response_stays limit front more m rest r other = record {
  head = r.head;
  behind = r.behind ++ more;
  framing = r.framing;
  begins = begins_more r.begins more;
  few = r.few;
  reads = r.reads;
  sound = r.sound;
  body = body_more limit (body_of_response r.framing) r.behind more m.body rest other r.body;
}

response_at_more : (limit count : ℕ) (head bytes more : List ℕ) (fault : HttpFault) → (fault ≢ HttpFault.Cut) → FailsResponseAt limit count head bytes fault → FailsResponseAt limit count head (bytes ++ more) fault
response_at_more limit count head bytes more fault other (inl x) = inl x
response_at_more limit count head bytes more fault other (inr (inl x)) = inr (inl x)
response_at_more limit count head bytes more fault other (inr (inr (inl x))) = inr (inr (inl x))
response_at_more limit count head bytes more fault other (inr (inr (inr (few, h, reads, framing, sound, fails)))) =
    inr (inr (inr (few, h, reads, framing, sound, body_fault_more limit (body_of_response framing) bytes more fault other fails)))

pub response_fault_stays : ResponseFaultStays
response_fault_stays limit front more fault other (inl x) = inl (without_head_more front more fault other x)
response_fault_stays limit front more fault other (inr (inl (head, bytes, begins, x))) = inr (inl (head, bytes ++ more, begins_more begins more, response_at_more limit _ head bytes more fault other x))
response_fault_stays limit front more fault other (inr (inr x)) = absurd (other x.1)
