-- A chunk's line, its data and what is wrong with them.
use Rattle.std.proofs.Common.{◌≡◌, ℕ, ◌+◌, ◌≤◌, List, [], ◌∷◌, ◌++◌, length, take, drop, true, false, Option, refl, sym, ap, ◌∙◌, append_assoc, append-nil, arith, length-append, length-drop, inl, inr}
use Rattle.std.specs.Str.{bytes_eq}
use Rattle.std.proofs.lemmas.Slice.Eq.{bytes_eq-Decides}
use Rattle.std.proofs.lemmas.List.{length-take-le, take_at, nil_from_length}
use Rattle.adx_io.specs.Streams.{Tape, WhereTold}
use Rattle.httparse.specs.Ascii.{crlf_bytes}
use Rattle.httparse.specs.Grammar.{ChunkLine, print_chunk_line}
use Rattle.httparse.specs.Spans.{IsChunkLineAt}
use Rattle.httparse.proofs.ChunkLemmas.{chunk_line_unique}
use Rattle.http_connection.specs.BufferState.{BufferState, Takes}
use Rattle.http_connection.specs.Lines.{ended, EndsAt, IsTooLong}
use Rattle.http_connection.specs.declared.head.TheConstants.{HEAD_LIMIT}
use Rattle.http_connection.specs.Chunks.{BeginsChunk, IsBadLine, EndsBadly}
use Rattle.http_connection.specs.Steps.{coming, IsLineOf, IsNoLine, ends_behind}
use Rattle.http_connection.proofs.Told.{told_map, flow}
use Rattle.http_connection.proofs.BodyParts.{keeping, parts_of}

-- so many bytes were passed over
abbrev pub skipping : BufferState → ℕ → BufferState
skipping b n = record b { pending = drop n b.pending }

-- what was read as a chunk line and isn't all of the bytes shows that the bytes are none
pub not_line : (bytes : List ℕ) (len size : ℕ) (l : ChunkLine) → IsChunkLineAt bytes len size l → (len ≡ length bytes → ⊥) → IsNoLine bytes
not_line bytes len size l at other = λ k is e.
    let both = chunk_line_unique bytes l k (drop len bytes) [] at.reads (is, e ∙ sym (append-nil (print_chunk_line k))) in
    let whole = ap length at.reads.1 in
    let none = ap length both.1 in
    let n = at.len_is in
    other (omega (arith, whole, none, n, length-append (print_chunk_line l) (drop len bytes)))

pub is_line_of : (bytes : List ℕ) (len size : ℕ) (l : ChunkLine) → IsChunkLineAt bytes len size l → len ≡ length bytes → IsLineOf bytes size
is_line_of bytes len size l at all =
    let rest : drop len bytes ≡ [] = nil_from_length (drop len bytes) (omega (arith, length-drop len bytes, all)) in
    (l, at.reads.0, at.reads.1 ∙ ap (λ r. print_chunk_line l ++ r) rest ∙ append-nil (print_chunk_line l), sym at.size_is)

-- the bytes up to the end of the first line
pub first_line : (bound end : ℕ) (bytes : List ℕ) → (e : EndsAt 0 bound bytes end) → (take end bytes ≡ ended (EndsAt.line e)) × (bytes ≡ ended (EndsAt.line e) ++ EndsAt.rest e)
first_line bound end bytes e =
    let all : bytes ≡ ended e.line ++ e.rest = e.behind ∙ sym (append_assoc e.line (10 ∷ []) e.rest) in
    let i = e.end_is in
    (ap (take end) all ∙ take_at (ended e.line) e.rest end (omega (arith, i, length-append e.line (10 ∷ []))), all)

pub line_gives : (before mid now : BufferState) (old new : Option Tape) (end size : ℕ) → Takes before mid old new → EndsAt 0 HEAD_LIMIT mid.pending end → end ≤ length mid.pending
    → IsLineOf (take end mid.pending) size → now ≡ skipping mid end
    → (now.kept ≡ before.kept) × WhereTold old new (λ o n. BeginsChunk (coming before o) size (coming now n))
line_gives before mid now old new end size t e there l is = (
  ap (λ (b : BufferState). b.kept) is ∙ t.kept,
  told_map old new (λ o n. coming before o ≡ coming mid n) (λ o n. BeginsChunk (coming before o) size (coming now n))
      (λ o n f. record {
        line = l.0;
        is_line = l.1;
        short = let a = ap length l.2 in let b = e.within in omega (arith, a, b, length-take-le end mid.pending there);
        size_is = l.3;
        bytes_are = f ∙ parts_of end mid.pending n.left ∙ ap (λ p. p ++ (drop end mid.pending ++ n.left)) l.2
            ∙ ap (λ (b : BufferState). print_chunk_line l.0 ++ (b.pending ++ n.left)) (sym is);
      })
      (flow before mid old new t),
)

pub line_bad : (before mid : BufferState) (old new : Option Tape) (end : ℕ) → Takes before mid old new → EndsAt 0 HEAD_LIMIT mid.pending end → IsNoLine (take end mid.pending)
    → WhereTold old new (λ o n. IsBadLine (coming before o))
line_bad before mid old new end t e none =
    let first = first_line HEAD_LIMIT end mid.pending e in
    told_map old new (λ o n. coming before o ≡ coming mid n) (λ o n. IsBadLine (coming before o))
    (λ o n f. inl (
      e.line,
      e.rest ++ n.left,
      e.is_line,
      f ∙ ap (λ p. p ++ n.left) first.1 ∙ append_assoc (ended e.line) e.rest n.left,
      (let i = e.end_is in let w = e.within in omega (arith, i, w, length-append e.line (10 ∷ []))),
      λ l is same. none l is (first.0 ∙ same),
    ))
    (flow before mid old new t)

pub line_long : (before mid : BufferState) (old new : Option Tape) → Takes before mid old new → IsTooLong 0 HEAD_LIMIT mid.pending → WhereTold old new (λ o n. IsBadLine (coming before o))
line_long before mid old new t l =
    told_map old new (λ o n. coming before o ≡ coming mid n) (λ o n. IsBadLine (coming before o))
    (λ o n f. inr (l.line, l.rest ++ n.left, l.is_line, f ∙ ap (λ p. p ++ n.left) l.behind ∙ append_assoc l.line l.rest n.left, (let g = l.long in omega (arith, g))))
    (flow before mid old new t)

-- two bytes are at the front
pub two_of : (bytes : List ℕ) → 2 ≤ length bytes → (x y : ℕ) × (rest : List ℕ) × (bytes ≡ x ∷ y ∷ rest)
two_of [] le = absurd (omega (arith, le))
two_of (x ∷ []) le = absurd (omega (arith, le))
two_of (x ∷ y ∷ rest) le = (x, y, rest, refl)

pub data_gives : (size : ℕ) (before mid kept now : BufferState) (old new : Option Tape) → Takes before mid old new → size + 2 ≤ length mid.pending → ends_behind mid.pending size ≡ true
    → kept ≡ keeping mid size → now ≡ skipping kept 2
    → (b : List ℕ) × (now.kept ≡ before.kept ++ b) × (length b ≡ size) × WhereTold old new (λ o n. coming before o ≡ (b ++ crlf_bytes) ++ coming now n)
data_gives size before mid kept now old new t there ends is is2 =
    let p = mid.pending in
    let q = drop size p in
    let crlf : take 2 q ≡ crlf_bytes = (bytes_eq-Decides (take 2 q) crlf_bytes).0 ends in
    let rest : now.pending ≡ drop 2 q = ap (λ (b : BufferState). b.pending) is2 ∙ ap (λ (b : BufferState). drop 2 b.pending) is in (
      take size p,
      ap (λ (b : BufferState). b.kept) is2 ∙ ap (λ (b : BufferState). b.kept) is ∙ ap (λ l. l ++ take size p) t.kept,
      length-take-le size p (omega (arith, there)),
      told_map old new (λ o n. coming before o ≡ coming mid n) (λ o n. coming before o ≡ (take size p ++ crlf_bytes) ++ coming now n)
          (λ o n f. f ∙ parts_of size p n.left ∙ ap (λ l. take size p ++ l) (parts_of 2 q n.left ∙ ap (λ l. l ++ (drop 2 q ++ n.left)) crlf ∙ ap (λ l. crlf_bytes ++ (l ++ n.left)) (sym rest))
          ∙ sym (append_assoc (take size p) crlf_bytes (now.pending ++ n.left)))
          (flow before mid old new t),
    )

pub data_bad : (size : ℕ) (before mid : BufferState) (old new : Option Tape) → Takes before mid old new → size + 2 ≤ length mid.pending → ends_behind mid.pending size ≡ false
    → WhereTold old new (λ o n. EndsBadly size (coming before o))
data_bad size before mid old new t there ends =
    let p = mid.pending in
    let two = two_of (drop size p) (omega (arith, length-drop size p, there)) in
    let test : bytes_eq (two.0 ∷ two.1 ∷ []) crlf_bytes ≡ false = ap (λ l. bytes_eq (take 2 l) crlf_bytes) (sym two.3) ∙ ends in
    told_map old new (λ o n. coming before o ≡ coming mid n) (λ o n. EndsBadly size (coming before o))
    (λ o n f. record {
      data_bytes = take size p;
      x = two.0;
      y = two.1;
      rest = two.2 ++ n.left;
      size_is = length-take-le size p (omega (arith, there));
      bytes_are = f ∙ parts_of size p n.left ∙ ap (λ l. take size p ++ (l ++ n.left)) two.3;
      other = λ same. let yes_is : bytes_eq (two.0 ∷ two.1 ∷ []) crlf_bytes ≡ true = (bytes_eq-Decides (two.0 ∷ two.1 ∷ []) crlf_bytes).1 same in cc (test, yes_is);
    })
    (flow before mid old new t)
