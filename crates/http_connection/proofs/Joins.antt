-- Chunks that are joined one after another.
use Rattle.std.proofs.Common.{◌≡◌, ℕ, ◌+◌, ◌-◌, ◌<◌, ◌≤◌, List, [], ◌∷◌, ◌++◌, length, Option, Result, Ok, Err, refl, sym, ap, subst, ◌∙◌, append_assoc, append-nil, arith, length-append, inl, inr}
use Rattle.std.specs.List.{flat_map}
use Rattle.std.proofs.lemmas.List.{flat_map_more}
use Rattle.std.proofs.lemmas.List.Elements.{All-append, All-nil, All-cons}
use Rattle.adx_io.specs.Streams.{Tape, WhereTold, Rises}
use Rattle.httparse.specs.Ascii.{crlf_bytes}
use Rattle.httparse.specs.Grammar.{print_chunk_line}
use Rattle.http_connection.specs.BufferState.{BufferState, Passes}
use Rattle.http_grammar.specs.declared.fault.HttpFault.{HttpFault}
use Rattle.http_connection.specs.Chunks.{Chunk, IsChunk, print_chunk, joined, HasChunks, BeginsChunk, FailsAt, FailsChunks, ChunkFault, IsTrailer, IsOpenTrailer, IsChunkedThen}
use Rattle.http_connection.specs.Steps.{Advances, HasGiven, coming, LineGives, DataGives, TrailerGives, BodyGives, ReadsBy}
use Rattle.http_connection.specs.declared.bodies.Body.{Body}
use Rattle.http_connection.proofs.Told.{told_map, told_then, told_same, IsOfFronts, front_is, given_then}

-- these chunks were read, whose bytes were joined
abbrev pub HasJoined : ℕ → List ℕ → List ℕ → List ℕ → Type 0
HasJoined limit b bytes rest = (chunks : List Chunk) × HasChunks limit bytes chunks rest × (joined chunks ≡ b)

-- the bytes of some chunks were joined, and so many may still come
pub record IsJoining (limit room : ℕ) (before now : BufferState) (old new : Option Tape) : Type 0 where
  pub b : List ℕ
  pub kept : now.kept ≡ before.kept ++ b
  pub count : room + length b ≡ limit
  pub told : WhereTold old new (λ o n. HasJoined limit b (coming before o) (coming now n))

pub joining_none : (limit : ℕ) (before : BufferState) (old : Option Tape) → IsJoining limit limit before before old old
joining_none limit before old = record {
  b = [];
  kept = sym (append-nil before.kept);
  count = omega arith;
  told = told_same old (λ o n. HasJoined limit [] (coming before o) (coming before n)) (λ t. ([], record { each = All-nil IsChunk; within = omega arith; bytes_are = refl }, refl));
}

-- one chunk more
pub one_chunk : (limit size : ℕ) (b data_bytes bytes mid behind rest : List ℕ) → HasJoined limit b bytes mid → BeginsChunk mid size behind → behind ≡ (data_bytes ++ crlf_bytes) ++ rest
    → length data_bytes ≡ size → 0 < size → length b + size ≤ limit → HasJoined limit (b ++ data_bytes) bytes rest
one_chunk limit size b d bytes mid behind rest h c e is some fits =
    let chunk : Chunk = record { line = c.line; bytes = d } in
    let sum : joined (h.0 ++ chunk ∷ []) ≡ b ++ d = sym (flat_map_more (λ (k : Chunk). k.bytes) [] h.0 chunk) ∙ ap (λ l. l ++ d) h.2 in
    let m = ap length sum in
    let s = c.size_is in
    let bytes_is : mid ≡ print_chunk chunk ++ rest =
    c.bytes_are ∙ ap (λ l. print_chunk_line c.line ++ l) (e ∙ append_assoc d crlf_bytes rest) ∙ sym (append_assoc (print_chunk_line c.line) d (crlf_bytes ++ rest))
    ∙ sym (append_assoc (print_chunk_line c.line ++ d) crlf_bytes rest) in (
      h.0 ++ chunk ∷ [],
      record {
        each = All-append IsChunk h.0 (chunk ∷ []) (HasChunks.each h.1) (All-cons IsChunk chunk [] (record { line = c.is_line; short = c.short; some = omega (arith, is, some); size = s ∙ sym is }) (All-nil IsChunk));
        within = omega (arith, m, is, fits, length-append b d);
        bytes_are = HasChunks.bytes_are h.1 ∙ ap (λ l. flat_map print_chunk h.0 ++ l) bytes_is ∙ sym (append_assoc (flat_map print_chunk h.0) (print_chunk chunk) rest)
            ∙ ap (λ l. l ++ rest) (flat_map_more print_chunk [] h.0 chunk);
      },
      sum,
    )

pub joining_more : (limit room size next : ℕ) (before at line now : BufferState) (old mid m2 new : Option Tape) → IsJoining limit room before at old mid
    → LineGives at line mid m2 (Ok size) → DataGives size line now m2 new (Ok tt) → 0 < size → size ≤ room → next ≡ room - size → IsJoining limit next before now old new
joining_more limit room size next before at line now old mid m2 new j l d some fits next_is =
    let c = j.count in
    let n = d.2 in record {
      b = j.b ++ d.0;
      kept = d.1 ∙ ap (λ k. k ++ d.0) (l.0 ∙ j.kept) ∙ append_assoc before.kept j.b d.0;
      count = omega (arith, c, n, next_is, fits, length-append j.b d.0);
      told = told_then old mid new (λ o m. HasJoined limit j.b (coming before o) (coming at m)) (λ m n. (behind : List ℕ) × BeginsChunk (coming at m) size behind × (behind ≡ (d.0 ++ crlf_bytes) ++ coming now n))
          (λ o n. HasJoined limit (j.b ++ d.0) (coming before o) (coming now n))
          (λ o m n h e. one_chunk limit size j.b d.0 (coming before o) (coming at m) e.0 (coming now n) h e.1 e.2 d.2 some (omega (arith, c, fits)))
          j.told
          (told_then mid m2 new (λ m k. BeginsChunk (coming at m) size (coming line k)) (λ k n. coming line k ≡ (d.0 ++ crlf_bytes) ++ coming now n)
          (λ m n. (behind : List ℕ) × BeginsChunk (coming at m) size behind × (behind ≡ (d.0 ++ crlf_bytes) ++ coming now n))
          (λ m k n c e. (coming line k, c, e)) l.1 d.3);
    }

-- what is wrong after the chunks is wrong with the body
fails : (limit room : ℕ) (before at : BufferState) (old mid new : Option Tape) (fault : ChunkFault) → (j : IsJoining limit room before at old mid)
    → WhereTold mid new (λ m n. FailsAt limit (length (IsJoining.b j)) (coming at m) fault) → WhereTold old new (λ o n. FailsChunks limit (coming before o) fault)
fails limit room before at old mid new fault j w =
    told_then old mid new (λ o m. HasJoined limit j.b (coming before o) (coming at m)) (λ m n. FailsAt limit (length j.b) (coming at m) fault) (λ o n. FailsChunks limit (coming before o) fault)
    (λ o m n h f. record { chunks = h.0; behind = coming at m; before = h.1; fails = subst (λ l. FailsAt limit (length l) (coming at m) fault) (sym h.2) f }) j.told w

-- chunks and lines are what they were, whatever follows the rest
joined_fronts : (limit : ℕ) (b : List ℕ) → IsOfFronts (λ bytes rest. HasJoined limit b bytes rest)
joined_fronts limit b = λ bytes rest old new h.
    (h.0, record { each = HasChunks.each h.1; within = HasChunks.within h.1; bytes_are = front_is bytes (flat_map print_chunk h.0) rest old new (HasChunks.bytes_are h.1) }, h.2)

line_fronts : (size : ℕ) → IsOfFronts (λ bytes rest. BeginsChunk bytes size rest)
line_fronts size = λ bytes rest old new c. record {
  line = BeginsChunk.line c;
  is_line = BeginsChunk.is_line c;
  short = BeginsChunk.short c;
  size_is = BeginsChunk.size_is c;
  bytes_are = front_is bytes (print_chunk_line (BeginsChunk.line c)) rest old new (BeginsChunk.bytes_are c);
}

-- what came after the chunks ends within one
unread : (limit room : ℕ) (before at : BufferState) (old mid new : Option Tape) → (j : IsJoining limit room before at old mid) → Advances old mid
    → HasGiven at mid new (λ bytes. FailsAt limit (length (IsJoining.b j)) bytes ChunkFault.cut) → HasGiven before old new (λ bytes. FailsChunks limit bytes ChunkFault.cut)
unread limit room before at old mid new j a w =
    given_then before at old mid new (λ bytes rest. HasJoined limit j.b bytes rest) (λ bytes. FailsAt limit (length j.b) bytes ChunkFault.cut) (λ bytes. FailsChunks limit bytes ChunkFault.cut) (joined_fronts limit j.b)
    (λ bytes rest h f. record { chunks = h.0; behind = rest; before = h.1; fails = subst (λ l. FailsAt limit (length l) rest ChunkFault.cut) (sym h.2) f }) a j.told w

pub line_fails : (limit room : ℕ) (before at now : BufferState) (old mid new : Option Tape) (fault : HttpFault) → IsJoining limit room before at old mid → Advances old mid → LineGives at now mid new (Err fault)
    → BodyGives limit Body.Chunked before now old new (Err fault)
line_fails limit room before at now old mid new HttpFault.Cut j a l =
    fails limit room before at old mid new ChunkFault.cut j (told_map mid new _ (λ m n. FailsAt limit (length j.b) (coming at m) ChunkFault.cut) (λ m n o. inl o) l)
line_fails limit room before at now old mid new HttpFault.BadChunk j a l =
    fails limit room before at old mid new ChunkFault.bad j (told_map mid new _ (λ m n. FailsAt limit (length j.b) (coming at m) ChunkFault.bad) (λ m n o. inl o) l)
line_fails limit room before at now old mid new HttpFault.ReadFault j a l =
    unread limit room before at old mid new j a (told_map mid new _ (λ m n. (piece : List ℕ) × Passes piece m n × FailsAt limit (length j.b) (at.pending ++ piece) ChunkFault.cut) (λ m n g. (g.0, g.1, inl g.2)) l)
line_fails limit room before at now old mid new HttpFault.BodyTooLong j a l = absurd l
line_fails limit room before at now old mid new HttpFault.BadHead j a l = l
line_fails limit room before at now old mid new HttpFault.HeadTooLong j a l = l
line_fails limit room before at now old mid new HttpFault.LengthRequired j a l = l
line_fails limit room before at now old mid new HttpFault.Coding j a l = l

pub too_long : (limit room size : ℕ) (before at line : BufferState) (old mid new : Option Tape) → IsJoining limit room before at old mid → LineGives at line mid new (Ok size) → 0 < size → room < size
    → BodyGives limit Body.Chunked before line old new (Err HttpFault.BodyTooLong)
too_long limit room size before at line old mid new j l some more =
    let c = j.count in
    fails limit room before at old mid new ChunkFault.too_long j
    (told_map mid new (λ m n. BeginsChunk (coming at m) size (coming line n)) (λ m n. FailsAt limit (length j.b) (coming at m) ChunkFault.too_long)
    (λ m n b. (size, coming line n, b, some, omega (arith, c, more))) l.1)

pub data_fails : (limit room size : ℕ) (before at line now : BufferState) (old mid m2 new : Option Tape) (fault : HttpFault) → IsJoining limit room before at old mid
    → Advances old mid → LineGives at line mid m2 (Ok size) → Advances mid m2 → 0 < size → size ≤ room → DataGives size line now m2 new (Err fault) → BodyGives limit Body.Chunked before now old new (Err fault)
data_fails limit room size before at line now old mid m2 new HttpFault.Cut j a l v some fits d =
    let c = j.count in
    fails limit room before at old mid new ChunkFault.cut j
    (told_then mid m2 new (λ m k. BeginsChunk (coming at m) size (coming line k)) (λ k n. length (coming line k) < size + 2) (λ m n. FailsAt limit (length j.b) (coming at m) ChunkFault.cut)
    (λ m k n b e. inr (inr (size, coming line k, b, some, omega (arith, c, fits), e))) l.1 d)
data_fails limit room size before at line now old mid m2 new HttpFault.BadChunk j a l v some fits d =
    let c = j.count in
    fails limit room before at old mid new ChunkFault.bad j
    (told_then mid m2 new (λ m k. BeginsChunk (coming at m) size (coming line k)) _ (λ m n. FailsAt limit (length j.b) (coming at m) ChunkFault.bad)
    (λ m k n b e. inr (inr (size, coming line k, b, some, omega (arith, c, fits), e))) l.1 d)
data_fails limit room size before at line now old mid m2 new HttpFault.ReadFault j a l v some fits d =
    let c = j.count in
    unread limit room before at old mid new j a
    (given_then at line mid m2 new (λ bytes rest. BeginsChunk bytes size rest) (λ bytes. length bytes < size + 2) (λ bytes. FailsAt limit (length j.b) bytes ChunkFault.cut) (line_fronts size)
    (λ bytes rest b e. inr (inr (size, rest, b, some, omega (arith, c, fits), e))) v l.1 d)
data_fails limit room size before at line now old mid m2 new HttpFault.BodyTooLong j a l v some fits d = absurd d
data_fails limit room size before at line now old mid m2 new HttpFault.BadHead j a l v some fits d = d
data_fails limit room size before at line now old mid m2 new HttpFault.HeadTooLong j a l v some fits d = d
data_fails limit room size before at line now old mid m2 new HttpFault.LengthRequired j a l v some fits d = d
data_fails limit room size before at line now old mid m2 new HttpFault.Coding j a l v some fits d = d

pub trailer_ends : (limit room size : ℕ) (before at line now : BufferState) (old mid m2 new : Option Tape) (r : Result Unit HttpFault) → IsJoining limit room before at old mid
    → Advances old mid → LineGives at line mid m2 (Ok size) → Advances mid m2 → size ≡ 0 → TrailerGives line now m2 new r → BodyGives limit Body.Chunked before now old new r
trailer_ends limit room size before at line now old mid m2 new (Ok done) j a l v none t = (
  j.b,
  t.0 ∙ l.0 ∙ j.kept,
  told_then old mid new (λ o m. HasJoined limit j.b (coming before o) (coming at m))
      (λ m n. (behind : List ℕ) × BeginsChunk (coming at m) 0 behind × ((trailer : List ℕ) × IsTrailer trailer × (behind ≡ trailer ++ coming now n)))
      (λ o n. IsChunkedThen limit (coming before o) j.b (coming now n))
      (λ o m n h e. record {
        chunks = h.0;
        last = coming at m;
        behind = e.0;
        trailer = e.2.0;
        before = h.1;
        zero = e.1;
        trailer_ends = e.2.1;
        behind_is = e.2.2;
        body_is = sym h.2;
      })
      j.told
      (told_then mid m2 new (λ m k. BeginsChunk (coming at m) size (coming line k)) (λ k n. (trailer : List ℕ) × IsTrailer trailer × (coming line k ≡ trailer ++ coming now n))
      (λ m n. (behind : List ℕ) × BeginsChunk (coming at m) 0 behind × ((trailer : List ℕ) × IsTrailer trailer × (behind ≡ trailer ++ coming now n)))
      (λ m k n b e. (coming line k, subst (λ z. BeginsChunk (coming at m) z (coming line k)) none b, e)) l.1 t.1),
)
trailer_ends limit room size before at line now old mid m2 new (Err HttpFault.Cut) j a l v none t =
    fails limit room before at old mid new ChunkFault.cut j
    (told_then mid m2 new (λ m k. BeginsChunk (coming at m) size (coming line k)) _ (λ m n. FailsAt limit (length j.b) (coming at m) ChunkFault.cut)
    (λ m k n b e. inr (inl (coming line k, subst (λ z. BeginsChunk (coming at m) z (coming line k)) none b, e))) l.1 t)
trailer_ends limit room size before at line now old mid m2 new (Err HttpFault.BadChunk) j a l v none t =
    fails limit room before at old mid new ChunkFault.bad j
    (told_then mid m2 new (λ m k. BeginsChunk (coming at m) size (coming line k)) _ (λ m n. FailsAt limit (length j.b) (coming at m) ChunkFault.bad)
    (λ m k n b e. inr (inl (coming line k, subst (λ z. BeginsChunk (coming at m) z (coming line k)) none b, e))) l.1 t)
trailer_ends limit room size before at line now old mid m2 new (Err HttpFault.ReadFault) j a l v none t =
    unread limit room before at old mid new j a
    (given_then at line mid m2 new (λ bytes rest. BeginsChunk bytes size rest) IsOpenTrailer (λ bytes. FailsAt limit (length j.b) bytes ChunkFault.cut) (line_fronts size)
    (λ bytes rest b e. inr (inl (rest, subst (λ z. BeginsChunk bytes z rest) none b, e))) v l.1 t)
trailer_ends limit room size before at line now old mid m2 new (Err HttpFault.BodyTooLong) j a l v none t = absurd t
trailer_ends limit room size before at line now old mid m2 new (Err HttpFault.BadHead) j a l v none t = t
trailer_ends limit room size before at line now old mid m2 new (Err HttpFault.HeadTooLong) j a l v none t = t
trailer_ends limit room size before at line now old mid m2 new (Err HttpFault.LengthRequired) j a l v none t = t
trailer_ends limit room size before at line now old mid m2 new (Err HttpFault.Coding) j a l v none t = t

-- the count before the step that failed
pub reads_fault : (T U : Type 0) (a b c : ℕ) (fault : HttpFault) → b ≡ a → ReadsBy {T = T} b c (Err fault) → ReadsBy {T = U} a c (Err fault)
reads_fault T U a b c HttpFault.ReadFault e r = subst (λ n. (n ≤ c) × Rises n c) e r
reads_fault T U a b c HttpFault.BadHead e r = r ∙ e
reads_fault T U a b c HttpFault.HeadTooLong e r = r ∙ e
reads_fault T U a b c HttpFault.LengthRequired e r = r ∙ e
reads_fault T U a b c HttpFault.BodyTooLong e r = r ∙ e
reads_fault T U a b c HttpFault.BadChunk e r = r ∙ e
reads_fault T U a b c HttpFault.Cut e r = r ∙ e
reads_fault T U a b c HttpFault.Coding e r = r ∙ e
