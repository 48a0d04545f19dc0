-- What bytes at hand hold of a body, where they are all that come.
use Rattle.std.proofs.Common.{◌≡◌, ◌⊎◌, ℕ, ◌+◌, ◌-◌, ◌<◌, ◌≤◌, List, [], ◌∷◌, ◌++◌, length, take, drop, Bool, true, false, Some, refl, sym, ap, subst, ◌∙◌, append-nil, arith, length-append, inl, inr, MatchBool}
use Rattle.std.proofs.Math.Dec.{leb}
use Rattle.std.proofs.lemmas.Bool.Decides.{leb_tells}
use Rattle.std.proofs.lemmas.List.{take-append-drop, length-take-le}
use Rattle.std.proofs.lemmas.List.Elements.{All-nil}
use Rattle.adx_io.specs.Streams.{Tape}
use Rattle.httparse.specs.Ascii.{crlf_bytes}
use Rattle.httparse.specs.Grammar.{print_chunk_line}
use Rattle.http_connection.specs.BufferState.{BufferState, Takes}
use Rattle.http_connection.specs.Lines.{EndsAt}
use Rattle.http_connection.specs.declared.head.TheConstants.{HEAD_LIMIT}
use Rattle.http_grammar.specs.declared.fault.HttpFault.{HttpFault}
use Rattle.http_connection.specs.Chunks.{IsChunk, BeginsChunk, IsBadLine, IsOpenLine, EndsBadly, IsTrailer, IsBadTrailer, IsOpenTrailer, ChunkFault, FailsAt, FailsChunks}
use Rattle.http_connection.specs.BodyForms.{HasBody, LacksBody}
use Rattle.http_connection.specs.Steps.{IsLineOf, IsNoLine}
use Rattle.http_connection.specs.declared.bodies.Body.{Body}
use Rattle.http_connection.proofs.ChunkParts.{first_line}
use Rattle.http_connection.proofs.Joins.{HasJoined, one_chunk}

-- the bytes as a buffer, and a source that has none left
abbrev pub held : List ℕ → BufferState
held bytes = record { kept = []; pending = bytes; room = 0 }

abbrev pub spent : Tape
spent = record { taken = []; left = [] }

-- nothing is taken
pub still : (bytes : List ℕ) → Takes (held bytes) (held bytes) (Some spent) (Some spent)
still bytes = record { piece = []; pending = sym (append-nil bytes); kept = refl; room = refl; told = record { taken = refl; left = refl } }

pub line_found : (bytes line behind : List ℕ) (end size : ℕ) → EndsAt 0 HEAD_LIMIT bytes end → end ≤ length bytes → line ≡ take end bytes → behind ≡ drop end bytes → IsLineOf line size → BeginsChunk bytes size behind
line_found bytes line behind end size e there is rest l = record {
  line = l.0;
  is_line = l.1;
  short = let a = ap length (sym l.2 ∙ is) in let b = e.within in omega (arith, a, b, length-take-le end bytes there);
  size_is = l.3;
  bytes_are = sym (take-append-drop end bytes) ∙ ap (λ p. p ++ drop end bytes) (sym is ∙ l.2) ∙ ap (λ p. print_chunk_line l.0 ++ p) (sym rest);
}

pub line_none : (bytes line : List ℕ) (end : ℕ) → EndsAt 0 HEAD_LIMIT bytes end → line ≡ take end bytes → IsNoLine line → IsBadLine bytes
line_none bytes line end e is none =
    let first = first_line HEAD_LIMIT end bytes e in
    inl (e.line, e.rest, e.is_line, first.1, (let i = e.end_is in let w = e.within in omega (arith, i, w, length-append e.line (10 ∷ []))), λ l is_line same. none l is_line (is ∙ first.0 ∙ same))

-- chunks that were passed over, for whose rest there is so much room
pub record IsPassing (limit room : ℕ) (bytes rest : List ℕ) : Type 0 where
  pub b : List ℕ
  pub has : HasJoined limit b bytes rest
  pub count : room + length b ≡ limit

pub passing_none : (limit : ℕ) (bytes : List ℕ) → IsPassing limit limit bytes bytes
passing_none limit bytes = record { b = []; has = ([], record { each = All-nil IsChunk; within = omega arith; bytes_are = refl }, refl); count = omega arith }

-- what comes after a chunk's data
abbrev pub IsBehind : List ℕ → ℕ → List ℕ → Type 0
IsBehind bytes size rest = (b : List ℕ) × (length b ≡ size) × (bytes ≡ (b ++ crlf_bytes) ++ rest)

pub passing_more : (limit room size next : ℕ) (bytes mid behind rest : List ℕ) → IsPassing limit room bytes mid → BeginsChunk mid size behind → IsBehind behind size rest → 0 < size → size ≤ room → next ≡ room - size → IsPassing limit next bytes rest
passing_more limit room size next bytes mid behind rest p line d some fits is =
    let c = p.count in
    let n = d.1 in record {
      b = p.b ++ d.0;
      has = one_chunk limit size p.b d.0 bytes mid behind rest p.has line d.2 d.1 some (omega (arith, c, fits));
      count = omega (arith, c, n, is, fits, length-append p.b d.0);
    }

fails : (limit room : ℕ) (bytes rest : List ℕ) (f : ChunkFault) → (p : IsPassing limit room bytes rest) → FailsAt limit (length (IsPassing.b p)) rest f → FailsChunks limit bytes f
fails limit room bytes rest f p x = record { chunks = p.has.0; behind = rest; before = p.has.1; fails = subst (λ l. FailsAt limit (length l) rest f) (sym p.has.2) x }

pub no_line : (limit room : ℕ) (bytes rest : List ℕ) → IsPassing limit room bytes rest → IsBadLine rest ⊎ IsOpenLine rest → LacksBody limit Body.Chunked bytes
no_line limit room bytes rest p (inl bad) = (HttpFault.BadChunk, fails limit room bytes rest ChunkFault.bad p (inl bad))
no_line limit room bytes rest p (inr open_line) = (HttpFault.Cut, fails limit room bytes rest ChunkFault.cut p (inl open_line))

pub too_long : (limit room size : ℕ) (bytes rest behind : List ℕ) → IsPassing limit room bytes rest → BeginsChunk rest size behind → room < size → LacksBody limit Body.Chunked bytes
too_long limit room size bytes rest behind p line more =
    let c = p.count in
    (HttpFault.BodyTooLong, fails limit room bytes rest ChunkFault.too_long p (size, behind, line, omega (arith, more), omega (arith, c, more)))

pub no_data : (limit room size : ℕ) (bytes rest behind : List ℕ) → IsPassing limit room bytes rest → BeginsChunk rest size behind → 0 < size → size ≤ room
    → EndsBadly size behind ⊎ (length behind < size + 2) → LacksBody limit Body.Chunked bytes
no_data limit room size bytes rest behind p line some fits (inl bad) =
    let c = p.count in (HttpFault.BadChunk, fails limit room bytes rest ChunkFault.bad p (inr (inr (size, behind, line, some, omega (arith, c, fits), bad))))
no_data limit room size bytes rest behind p line some fits (inr short) =
    let c = p.count in (HttpFault.Cut, fails limit room bytes rest ChunkFault.cut p (inr (inr (size, behind, line, some, omega (arith, c, fits), short))))

abbrev pub HasTrailer : List ℕ → Type 0
HasTrailer bytes = (trailer : List ℕ) × (rest : List ℕ) × IsTrailer trailer × (bytes ≡ trailer ++ rest)

pub trailer_tells : (limit room size : ℕ) (bytes rest behind : List ℕ) (r : Bool) → IsPassing limit room bytes rest → BeginsChunk rest size behind → size ≡ 0
    → MatchBool r (HasTrailer behind) (IsBadTrailer behind ⊎ IsOpenTrailer behind) → MatchBool r (HasBody limit Body.Chunked bytes) (LacksBody limit Body.Chunked bytes)
trailer_tells limit room size bytes rest behind true p line none t = (
  p.b,
  t.1,
  record {
    chunks = p.has.0;
    last = rest;
    behind = behind;
    trailer = t.0;
    before = p.has.1;
    zero = subst (λ n. BeginsChunk rest n behind) none line;
    trailer_ends = t.2;
    behind_is = t.3;
    body_is = sym p.has.2;
  },
)
trailer_tells limit room size bytes rest behind false p line none (inl bad) =
    (HttpFault.BadChunk, fails limit room bytes rest ChunkFault.bad p (inr (inl (behind, subst (λ n. BeginsChunk rest n behind) none line, bad))))
trailer_tells limit room size bytes rest behind false p line none (inr open_trailer) =
    (HttpFault.Cut, fails limit room bytes rest ChunkFault.cut p (inr (inl (behind, subst (λ n. BeginsChunk rest n behind) none line, open_trailer))))

pub absent : (limit : ℕ) (bytes : List ℕ) (body : Body) → body ≡ Body.Absent → HasBody limit body bytes
absent limit bytes body is = subst (λ b. HasBody limit b bytes) (sym is) ([], bytes, (refl, refl))

pub sized : (limit n : ℕ) (bytes : List ℕ) (body : Body) → body ≡ Body.Sized n → MatchBool (leb n (length bytes)) (HasBody limit body bytes) (LacksBody limit body bytes)
sized limit n bytes body is =
    subst (λ b. MatchBool (leb n (length bytes)) (HasBody limit b bytes) (LacksBody limit b bytes)) (sym is) (by_test (leb_tells n (length bytes)))
  where
    by_test : ((leb n (length bytes) ≡ true) × (n ≤ length bytes)) ⊎ ((leb n (length bytes) ≡ false) × (length bytes < n))
        → MatchBool (leb n (length bytes)) (HasBody limit (Body.Sized n) bytes) (LacksBody limit (Body.Sized n) bytes)
    by_test (inl (e, le)) =
        subst (λ r. MatchBool r (HasBody limit (Body.Sized n) bytes) (LacksBody limit (Body.Sized n) bytes)) (sym e) (take n bytes, drop n bytes, (length-take-le n bytes le, sym (take-append-drop n bytes)))
    by_test (inr (e, less)) = subst (λ r. MatchBool r (HasBody limit (Body.Sized n) bytes) (LacksBody limit (Body.Sized n) bytes)) (sym e) (HttpFault.Cut, less)

pub to_end : (limit : ℕ) (bytes : List ℕ) (body : Body) → body ≡ Body.ToEnd → MatchBool (leb (length bytes) limit) (HasBody limit body bytes) (LacksBody limit body bytes)
to_end limit bytes body is =
    subst (λ b. MatchBool (leb (length bytes) limit) (HasBody limit b bytes) (LacksBody limit b bytes)) (sym is) (by_test (leb_tells (length bytes) limit))
  where
    by_test : ((leb (length bytes) limit ≡ true) × (length bytes ≤ limit)) ⊎ ((leb (length bytes) limit ≡ false) × (limit < length bytes))
        → MatchBool (leb (length bytes) limit) (HasBody limit Body.ToEnd bytes) (LacksBody limit Body.ToEnd bytes)
    by_test (inl (e, le)) = subst (λ r. MatchBool r (HasBody limit Body.ToEnd bytes) (LacksBody limit Body.ToEnd bytes)) (sym e) (bytes, [], (refl, refl, le))
    by_test (inr (e, more)) = subst (λ r. MatchBool r (HasBody limit Body.ToEnd bytes) (LacksBody limit Body.ToEnd bytes)) (sym e) (HttpFault.BodyTooLong, more)

pub chunked : (limit : ℕ) (bytes : List ℕ) (body : Body) (r : Bool) → body ≡ Body.Chunked → MatchBool r (HasBody limit Body.Chunked bytes) (LacksBody limit Body.Chunked bytes) → MatchBool r (HasBody limit body bytes) (LacksBody limit body bytes)
chunked limit bytes body r is x = subst (λ b. MatchBool r (HasBody limit b bytes) (LacksBody limit b bytes)) (sym is) x
