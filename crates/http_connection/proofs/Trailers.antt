-- The lines of a trailer.
use Rattle.std.proofs.Common.{◌≡◌, ℕ, ◌+◌, ◌-◌, ◌<◌, ◌≤◌, List, [], ◌∷◌, ◌++◌, length, take, drop, All, Bool, true, false, Option, refl, sym, ap, subst, ◌∙◌, append_assoc, append-nil, arith, length-append, inl, inr}
use Rattle.std.specs.List.{flat_map}
use Rattle.std.proofs.lemmas.List.{take_at, drop_at, drop-append-le, flat_map_more}
use Rattle.std.proofs.lemmas.List.Elements.{All-append, All-nil, All-cons, All-head, All-tail}
use Rattle.adx_io.specs.Streams.{Tape, WhereTold}
use Rattle.http_connection.specs.BufferState.{BufferState, Takes, IsAtEnd}
use Rattle.http_connection.specs.Lines.{IsLine, ended, EndsAt, IsTooLong, IsOpen}
use Rattle.http_connection.specs.HeadEnds.{is_empty_line, IsFull}
use Rattle.http_connection.specs.declared.head.TheConstants.{HEAD_LIMIT}
use Rattle.http_connection.proofs.Ranges.{part_is}
use Rattle.http_connection.proofs.HeadWalk.{among, empty_is_line, fulls_are_lines}
use Rattle.http_connection.specs.Chunks.{IsTrailer, IsBadTrailer, IsOpenTrailer}
use Rattle.http_connection.specs.declared.chunks.TheConstants.{LINE_COUNT_LIMIT}
use Rattle.http_connection.specs.Steps.{coming}
use Rattle.http_connection.proofs.Told.{told_map, told_end, flow}
use Rattle.http_connection.proofs.BodyParts.{parts_of}
use Rattle.http_connection.proofs.ChunkParts.{skipping}

-- the bytes up to the place are so many whole lines that aren't empty
pub record IsRun (at count : ℕ) (bytes : List ℕ) : Type 0 where
  pub lines : List (List ℕ)
  pub full : All IsFull lines
  pub bytes_are : bytes ≡ flat_map ended lines ++ drop at bytes
  pub at_is : at ≡ length (flat_map ended lines)
  pub count_is : length lines ≡ count

pub run_none : (bytes : List ℕ) → IsRun 0 0 bytes
run_none bytes = record { lines = []; full = All-nil IsFull; bytes_are = refl; at_is = refl; count_is = refl }

pub run_grows : (at count : ℕ) (bytes now piece : List ℕ) → IsRun at count bytes → now ≡ bytes ++ piece → IsRun at count now
run_grows at count bytes now piece s is =
    let k = s.at_is in
    let e = ap length s.bytes_are in
    let rest : drop at now ≡ drop at bytes ++ piece = ap (drop at) is ∙ drop-append-le at bytes piece (omega (arith, e, k, length-append (flat_map ended s.lines) (drop at bytes))) in record {
      lines = s.lines;
      full = s.full;
      bytes_are = is ∙ ap (λ l. l ++ piece) s.bytes_are ∙ append_assoc (flat_map ended s.lines) (drop at bytes) piece ∙ ap (λ l. flat_map ended s.lines ++ l) (sym rest);
      at_is = s.at_is;
      count_is = s.count_is;
    }

-- one line more
pub one_more : (lines : List (List ℕ)) (at bound end : ℕ) (bytes : List ℕ) → bytes ≡ flat_map ended lines ++ drop at bytes → (e : EndsAt at bound bytes end)
    → bytes ≡ flat_map ended (lines ++ EndsAt.line e ∷ []) ++ EndsAt.rest e
one_more lines at bound end bytes is e =
    is ∙ ap (λ l. flat_map ended lines ++ l) (e.behind ∙ sym (append_assoc e.line (10 ∷ []) e.rest))
    ∙ sym (append_assoc (flat_map ended lines) (ended e.line) e.rest) ∙ ap (λ l. l ++ e.rest) (flat_map_more ended [] lines e.line)

pub more_length : (lines : List (List ℕ)) (at bound end : ℕ) (bytes : List ℕ) → at ≡ length (flat_map ended lines) → (e : EndsAt at bound bytes end) → length (flat_map ended (lines ++ EndsAt.line e ∷ [])) ≡ end
more_length lines at bound end bytes k e =
    let a = ap length (flat_map_more ended [] lines e.line) in
    let i = e.end_is in
    omega (arith, a, k, i, length-append (flat_map ended lines) (ended e.line), length-append e.line (10 ∷ []))

-- the line is what the code looks at
pub line_is : (at bound end : ℕ) (bytes now : List ℕ) (b : Bool) → (e : EndsAt at bound bytes end) → b ≡ is_empty_line (drop at (take (end - 1) now)) → now ≡ bytes → is_empty_line (EndsAt.line e) ≡ b
line_is at bound end bytes now b e is same =
    let k : end - 1 ≡ at + length e.line = let i = e.end_is in omega (arith, i) in
    sym (is ∙ ap is_empty_line (ap (λ l. drop at (take (end - 1) l)) same ∙ ap (λ n. drop at (take n bytes)) k ∙ part_is bytes at (length e.line) ∙ ap (take (length e.line)) e.behind ∙ take_at e.line (10 ∷ e.rest) (length e.line) refl))

pub run_line : (at count end : ℕ) (bytes : List ℕ) → IsRun at count bytes → (e : EndsAt at HEAD_LIMIT bytes end) → is_empty_line (EndsAt.line e) ≡ false → IsRun end (count + 1) bytes
run_line at count end bytes s e some =
    let lines = s.lines ++ e.line ∷ [] in
    let all = one_more s.lines at HEAD_LIMIT end bytes s.bytes_are e in
    let long = more_length s.lines at HEAD_LIMIT end bytes s.at_is e in
    let rest : drop end bytes ≡ e.rest = ap (drop end) all ∙ drop_at (flat_map ended lines) e.rest end long in record {
      lines = lines;
      full = All-append IsFull s.lines (e.line ∷ []) s.full (All-cons IsFull e.line [] (record { is_line = e.is_line; some = some }) (All-nil IsFull));
      bytes_are = all ∙ ap (λ l. flat_map ended lines ++ l) (sym rest);
      at_is = sym long;
      count_is = let c = s.count_is in omega (arith, c, length-append s.lines (e.line ∷ []));
    }

pub trailer_found : (at count end : ℕ) (before mid now : BufferState) (old new : Option Tape) → Takes before mid old new → IsRun at count mid.pending → count ≤ LINE_COUNT_LIMIT
    → (e : EndsAt at HEAD_LIMIT mid.pending end) → is_empty_line (EndsAt.line e) ≡ true → now ≡ skipping mid end
    → (now.kept ≡ before.kept) × WhereTold old new (λ o n. (trailer : List ℕ) × IsTrailer trailer × (coming before o ≡ trailer ++ coming now n))
trailer_found at count end before mid now old new t s few e none is =
    let p = mid.pending in
    let lines = s.lines ++ e.line ∷ [] in
    let all = one_more s.lines at HEAD_LIMIT end p s.bytes_are e in
    let long = more_length s.lines at HEAD_LIMIT end p s.at_is e in
    let front : take end p ≡ flat_map ended lines = ap (take end) all ∙ take_at (flat_map ended lines) e.rest end long in (
      ap (λ (b : BufferState). b.kept) is ∙ t.kept,
      told_map old new (λ o n. coming before o ≡ coming mid n) (λ o n. (trailer : List ℕ) × IsTrailer trailer × (coming before o ≡ trailer ++ coming now n))
          (λ o n f. (
            flat_map ended lines,
            record {
              lines = s.lines;
              last = e.line;
              full = s.full;
              ends = none;
              few = let c = s.count_is in omega (arith, c, few);
              trailer_is = refl;
              short = let w = e.within in omega (arith, w, long);
            },
            f ∙ parts_of end p n.left ∙ ap (λ l. l ++ (drop end p ++ n.left)) front ∙ ap (λ (b : BufferState). flat_map ended lines ++ (b.pending ++ n.left)) (sym is),
          ))
          (flow before mid old new t),
    )

pub trailer_many : (at count end : ℕ) (before mid : BufferState) (old new : Option Tape) → Takes before mid old new → IsRun at count mid.pending → count ≡ LINE_COUNT_LIMIT
    → (e : EndsAt at HEAD_LIMIT mid.pending end) → is_empty_line (EndsAt.line e) ≡ false → WhereTold old new (λ o n. IsBadTrailer (coming before o))
trailer_many at count end before mid old new t s many e some =
    let p = mid.pending in
    let run = run_line at count end p s e some in
    told_map old new (λ o n. coming before o ≡ coming mid n) (λ o n. IsBadTrailer (coming before o))
    (λ o n f. inl (
      run.lines,
      drop end p ++ n.left,
      run.full,
      (let c = run.count_is in omega (arith, c, many)),
      f ∙ ap (λ l. l ++ n.left) run.bytes_are ∙ append_assoc (flat_map ended run.lines) (drop end p) n.left,
      (let k = run.at_is in let w = e.within in omega (arith, k, w)),
    ))
    (flow before mid old new t)

pub all_front : (a b : List (List ℕ)) → All IsFull (a ++ b) → All IsFull a
all_front [] b all = All-nil IsFull
all_front (x ∷ a) b all = All-cons IsFull x a (All-head IsFull x (a ++ b) all) (all_front a b (All-tail IsFull x (a ++ b) all))

pub all_last : (a : List (List ℕ)) (x : List ℕ) → All IsFull (a ++ x ∷ []) → IsFull x
all_last [] x all = All-head IsFull x [] all
all_last (y ∷ a) x all = all_last a x (All-tail IsFull y (a ++ x ∷ []) all)

pub trailer_lines : (trailer : List ℕ) → (t : IsTrailer trailer) → All IsLine (IsTrailer.lines t ++ IsTrailer.last t ∷ [])
trailer_lines trailer t = All-append IsLine t.lines (t.last ∷ []) (fulls_are_lines t.lines t.full) (All-cons IsLine t.last [] (empty_is_line t.last t.ends) (All-nil IsLine))

-- where the next line doesn't end within the bound, no trailer does
no_trailer : (bound at count : ℕ) (bytes line p whole : List ℕ) → (s : IsRun at count bytes) → IsLine line → whole ≡ flat_map ended (IsRun.lines s) ++ (line ++ p) → bound ≤ at + length line
    → (trailer rest : List ℕ) → IsTrailer trailer → whole ≡ trailer ++ rest → length trailer ≤ bound → ⊥
no_trailer bound at count bytes line p whole s is_line is long trailer rest t e short =
    let theirs = t.lines ++ t.last ∷ [] in
    let size = ap length t.trailer_is in
    let k = s.at_is in
    let found = among bound theirs s.lines line p rest (trailer_lines trailer t) (fulls_are_lines s.lines s.full) is_line (omega (arith, size, short)) (omega (arith, k, long))
    (sym is ∙ e ∙ ap (λ l. l ++ rest) t.trailer_is) in
    let full = all_last t.lines t.last (all_front theirs found.0 (subst (All IsFull) found.1 s.full)) in
    let some = full.some in
    let none = t.ends in
    absurd (cc (some, none))

pub trailer_long : (at count : ℕ) (before mid : BufferState) (old new : Option Tape) → Takes before mid old new → IsRun at count mid.pending → IsTooLong at HEAD_LIMIT mid.pending
    → WhereTold old new (λ o n. IsBadTrailer (coming before o))
trailer_long at count before mid old new t s l =
    let k = s.at_is in
    let g = l.long in
    let all : mid.pending ≡ flat_map ended s.lines ++ (l.line ++ l.rest) = s.bytes_are ∙ ap (λ x. flat_map ended s.lines ++ x) l.behind in
    told_map old new (λ o n. coming before o ≡ coming mid n) (λ o n. IsBadTrailer (coming before o))
    (λ o n f.
    let whole : coming before o ≡ flat_map ended s.lines ++ (l.line ++ (l.rest ++ n.left)) =
    f ∙ ap (λ x. x ++ n.left) all ∙ append_assoc (flat_map ended s.lines) (l.line ++ l.rest) n.left ∙ ap (λ x. flat_map ended s.lines ++ x) (append_assoc l.line l.rest n.left) in
    let size = ap length whole in
    inr (
      omega (arith, size, k, g, length-append (flat_map ended s.lines) (l.line ++ (l.rest ++ n.left)), length-append l.line (l.rest ++ n.left)),
      λ trailer rest tr e. no_trailer HEAD_LIMIT at count mid.pending l.line (l.rest ++ n.left) (coming before o) s l.is_line whole g trailer rest tr e tr.short,
    ))
    (flow before mid old new t)

pub trailer_open : (at count : ℕ) (before mid : BufferState) (old new : Option Tape) → Takes before mid old new → IsRun at count mid.pending → count ≤ LINE_COUNT_LIMIT → IsOpen at HEAD_LIMIT mid.pending → IsAtEnd new
    → WhereTold old new (λ o n. IsOpenTrailer (coming before o))
trailer_open at count before mid old new t s few p end =
    let k = s.at_is in
    let b = mid.pending in
    let j = ap length s.bytes_are in
    let split = length-append (flat_map ended s.lines) (drop at b) in
    told_end old new (λ o n. coming before o ≡ coming mid n) (λ o n. IsOpenTrailer (coming before o)) end
    (λ o n none f.
    let all : coming before o ≡ b = f ∙ ap (λ l. b ++ l) none ∙ append-nil b in
    let whole : coming before o ≡ flat_map ended s.lines ++ (drop at b ++ []) = all ∙ s.bytes_are ∙ ap (λ x. flat_map ended s.lines ++ x) (sym (append-nil (drop at b))) in
    let size = ap length all in
    let less = p.short in (
      omega (arith, size, less),
      (λ trailer rest tr e. let m = ap length e in no_trailer (length b) at count b (drop at b) [] (coming before o) s p.is_line whole (omega (arith, j, k, split)) trailer rest tr e
          (omega (arith, m, size, length-append trailer rest))),
      λ bad. not_bad at count b (coming before o) s few p.is_line whole size less bad,
    ))
    (flow before mid old new t)
  where
    not_bad : (at count : ℕ) (b bytes : List ℕ) → (s : IsRun at count b) → count ≤ LINE_COUNT_LIMIT → IsLine (drop at b) → bytes ≡ flat_map ended (IsRun.lines s) ++ (drop at b ++ []) → length bytes ≡ length b → length b < HEAD_LIMIT → IsBadTrailer bytes → ⊥
    not_bad at count b bytes s few line whole size less (inl many) =
        let k = s.at_is in
        let j = ap length s.bytes_are in
        let m = ap length many.4 in
        let found = among (length b) many.0 s.lines (drop at b) [] many.1 (fulls_are_lines many.0 many.2) (fulls_are_lines s.lines s.full) line
        (omega (arith, m, size, length-append (flat_map ended many.0) many.1)) (omega (arith, j, k, length-append (flat_map ended s.lines) (drop at b))) (sym whole ∙ many.4) in
        let c = s.count_is in
        let l = ap length found.1 in
        let more = many.3 in
        omega (arith, c, l, more, few, length-append many.0 found.0)
    not_bad at count b bytes s few line whole size less (inr long) = let g = long.0 in omega (arith, g, size, less)
