-- What comes first in a body of chunks: a chunk, its end or a fault, and one of them alone.
use Rattle.std.proofs.Common.{◌≡◌, ◌≢◌, ◌⊎◌, ℕ, ◌+◌, ◌<◌, ◌≤◌, List, [], ◌∷◌, ◌++◌, length, take, drop, All, Bool, false, refl, sym, ap, subst, ◌∙◌, append_assoc, append-nil, arith, length-append, inl, inr, Option, Some, None, IsTrue}
use Rattle.std.specs.List.{flat_map}
use Rattle.std.proofs.lemmas.Bool.{cases_lt}
use Rattle.std.proofs.lemmas.List.{append_cancel_left, take_at, drop_at}
use Rattle.std.proofs.lemmas.List.Elements.{All-append, All-nil, All-cons, All-head, All-tail}
use Rattle.httparse.specs.Ascii.{crlf_bytes}
use Rattle.httparse.specs.Grammar.{ChunkLine, IsChunkLine, print_chunk_line, print_extension, IsExtension, AllPass, chunk_size, is_ows, is_extension_byte}
use Rattle.std.specs.Char.{is_ascii_hexdigit}
use Rattle.httparse.proofs.ChunkLemmas.{chunk_line_unique}
use Rattle.http_connection.specs.Lines.{IsLine, ended}
use Rattle.http_connection.specs.HeadEnds.{IsFull}
use Rattle.http_connection.proofs.HeadWalk.{among, cut, reach, fulls_are_lines}
use Rattle.http_connection.specs.Chunks.{Chunk, IsChunk, print_chunk, BeginsChunk, IsTrailer, IsBadLine, IsOpenLine, IsBadTrailer, EndsBadly, ChunkFault, FailsAt}
use Rattle.http_connection.specs.declared.chunks.TheConstants.{LINE_COUNT_LIMIT}
use Rattle.http_connection.proofs.Trailers.{all_front, all_last, trailer_lines}
use Rattle.http_connection.proofs.OneHead.{before_last}

-- each byte of a class that the line feed isn't of is no line feed
no_feed : (test : ℕ → Bool) → test 10 ≡ false → (xs : List ℕ) → AllPass test xs → IsLine xs
no_feed test none [] all = All-nil (λ b. b ≢ 10)
no_feed test none (x ∷ xs) all =
    All-cons (λ b. b ≢ 10) x xs
    (λ e. let is : IsTrue (test 10) = subst (λ b. IsTrue (test b)) e (All-head (λ b. IsTrue (test b)) x xs all) in absurd (cc (is, none)))
    (no_feed test none xs (All-tail (λ b. IsTrue (test b)) x xs all))

extension_line : (extension : Option (List ℕ)) → IsExtension extension → IsLine (print_extension extension)
extension_line None is = All-nil (λ b. b ≢ 10)
extension_line (Some text) is = All-cons (λ b. b ≢ 10) 59 text (λ e. absurd (omega (arith, e))) (no_feed is_extension_byte refl text is)

-- a chunk line is a line
line_of : (l : ChunkLine) → IsChunkLine l → (line : List ℕ) × IsLine line × (print_chunk_line l ≡ ended line)
unfolding print_chunk_line
line_of l is =
    let front = l.digits ++ l.pad ++ print_extension l.extension in (
      front ++ 13 ∷ [],
      All-append (λ b. b ≢ 10) front (13 ∷ [])
          (All-append (λ b. b ≢ 10) (l.digits ++ l.pad) (print_extension l.extension)
          (All-append (λ b. b ≢ 10) l.digits l.pad (no_feed is_ascii_hexdigit refl l.digits (IsChunkLine.digits is).2) (no_feed is_ows refl l.pad (IsChunkLine.pad is)))
          (extension_line l.extension (IsChunkLine.extension is)))
          (All-cons (λ b. b ≢ 10) 13 [] (λ e. absurd (omega (arith, e))) (All-nil (λ b. b ≢ 10))),
      sym (append_assoc front (13 ∷ []) (10 ∷ [])),
    )

-- the first line of the bytes, where a chunk line begins them
record HasLine (bytes : List ℕ) (l : ChunkLine) (rest : List ℕ) : Type 0 where
  line : List ℕ
  is_line : IsLine line
  prints : print_chunk_line l ≡ ended line
  bytes_are : bytes ≡ line ++ 10 ∷ rest

has_line : (bytes : List ℕ) (l : ChunkLine) (rest : List ℕ) → IsChunkLine l → bytes ≡ print_chunk_line l ++ rest → HasLine bytes l rest
has_line bytes l rest is e =
    let found = line_of l is in
    record { line = found.0; is_line = found.1; prints = found.2; bytes_are = e ∙ ap (λ p. p ++ rest) found.2 ∙ append_assoc found.0 (10 ∷ []) rest }

-- a chunk line has one size and one rest
pub one_line : (bytes : List ℕ) (m n : ℕ) (p q : List ℕ) → BeginsChunk bytes m p → BeginsChunk bytes n q → (m ≡ n) × (p ≡ q)
one_line bytes m n p q a b =
    let same = chunk_line_unique bytes a.line b.line p q (a.is_line, a.bytes_are) (b.is_line, b.bytes_are) in
    (sym a.size_is ∙ ap chunk_size same.0 ∙ b.size_is, same.1)

line_not_bad : (bytes : List ℕ) (m : ℕ) (p : List ℕ) → BeginsChunk bytes m p → IsBadLine bytes → ⊥
line_not_bad bytes m p b (inl (line, rest, is_line, e, short, none)) =
    let h = has_line bytes b.line p b.is_line b.bytes_are in
    let same = cut line h.line rest p is_line h.is_line (sym (append_assoc line (10 ∷ []) rest) ∙ sym e ∙ h.bytes_are) in
    none b.line b.is_line (ap ended same.0 ∙ sym h.prints)
line_not_bad bytes m p b (inr (line, rest, is_line, e, long)) =
    let h = has_line bytes b.line p b.is_line b.bytes_are in
    let less = reach line h.line rest p is_line h.is_line (sym e ∙ h.bytes_are) in
    let s = b.short in
    let k = ap length h.prints in
    omega (arith, less, long, s, k, length-append h.line (10 ∷ []))

line_not_open : (bytes : List ℕ) (m : ℕ) (p : List ℕ) → BeginsChunk bytes m p → IsOpenLine bytes → ⊥
line_not_open bytes m p b o =
    let h = has_line bytes b.line p b.is_line b.bytes_are in
    let less = reach bytes h.line [] p o.0 h.is_line (append-nil bytes ∙ h.bytes_are) in
    let k = ap length h.bytes_are in
    omega (arith, less, k, length-append h.line (10 ∷ p))

bad_not_open : (bytes : List ℕ) → IsBadLine bytes → IsOpenLine bytes → ⊥
bad_not_open bytes (inl (line, rest, is_line, e, short, none)) o =
    let all : bytes ≡ line ++ 10 ∷ rest = e ∙ append_assoc line (10 ∷ []) rest in
    let less = reach bytes line [] rest o.0 is_line (append-nil bytes ∙ all) in
    let k = ap length all in
    omega (arith, less, k, length-append line (10 ∷ rest))
bad_not_open bytes (inr (line, rest, is_line, e, long)) o = let k = ap length e in let s = o.1 in omega (arith, k, long, s, length-append line rest)

-- the last line of a trailer is empty, and no other
no_more : (trailer other : List ℕ) (a : IsTrailer trailer) (b : IsTrailer other) (more : List (List ℕ))
    → IsTrailer.lines b ++ IsTrailer.last b ∷ [] ≡ (IsTrailer.lines a ++ IsTrailer.last a ∷ []) ++ more → IsTrailer.lines b ++ IsTrailer.last b ∷ [] ≡ IsTrailer.lines a ++ IsTrailer.last a ∷ []
no_more trailer other a b [] e = e ∙ append-nil (a.lines ++ a.last ∷ [])
no_more trailer other a b (z ∷ more) e =
    let found = before_last b.lines b.last (a.lines ++ a.last ∷ []) z more e in
    let full = all_last a.lines a.last (all_front (a.lines ++ a.last ∷ []) found.0 (subst (All IsFull) found.1 b.full)) in
    let some = full.some in
    let none = a.ends in
    absurd (cc (some, none))

shorter : (trailer other rest rest2 : List ℕ) (a : IsTrailer trailer) (b : IsTrailer other) → trailer ++ rest ≡ other ++ rest2 → length trailer ≤ length other
    → IsTrailer.lines b ++ IsTrailer.last b ∷ [] ≡ IsTrailer.lines a ++ IsTrailer.last a ∷ []
shorter trailer other rest rest2 a b e le =
    let ours = b.lines ++ b.last ∷ [] in
    let theirs = a.lines ++ a.last ∷ [] in
    let m = ap length a.trailer_is in
    let n = ap length b.trailer_is in
    let same : flat_map ended ours ++ ([] ++ rest2) ≡ flat_map ended theirs ++ rest = ap (λ l. l ++ rest2) (sym b.trailer_is) ∙ sym e ∙ ap (λ l. l ++ rest) a.trailer_is in
    let found = among (length (flat_map ended theirs)) theirs ours [] rest2 rest (trailer_lines trailer a) (trailer_lines other b) (All-nil (λ b. b ≢ 10)) (omega arith) (omega (arith, m, n, le)) same in
    no_more trailer other a b found.0 found.1

-- one trailer begins the bytes
pub one_trailer : (bytes trailer other rest rest2 : List ℕ) → IsTrailer trailer → IsTrailer other → bytes ≡ trailer ++ rest → bytes ≡ other ++ rest2 → rest ≡ rest2
one_trailer bytes trailer other rest rest2 a b e f = by_length (cases_lt (length trailer) (length other))
  where
    alike : (trailer other rest rest2 : List ℕ) (a : IsTrailer trailer) (b : IsTrailer other) → trailer ++ rest ≡ other ++ rest2 → IsTrailer.lines b ++ IsTrailer.last b ∷ [] ≡ IsTrailer.lines a ++ IsTrailer.last a ∷ [] → rest ≡ rest2
    alike trailer other rest rest2 a b e same =
        let t : other ≡ trailer = b.trailer_is ∙ ap (flat_map ended) same ∙ sym a.trailer_is in
        append_cancel_left trailer rest rest2 (e ∙ ap (λ l. l ++ rest2) t)

    by_length : (length trailer < length other) ⊎ (length other ≤ length trailer) → rest ≡ rest2
    by_length (inl less) = alike trailer other rest rest2 a b (sym e ∙ f) (shorter trailer other rest rest2 a b (sym e ∙ f) (omega (arith, less)))
    by_length (inr le) = sym (alike other trailer rest2 rest b a (sym f ∙ e) (shorter other trailer rest2 rest b a (sym f ∙ e) le))

-- lines that aren't empty hold no trailer
not_among : (trailer : List ℕ) (t : IsTrailer trailer) (lines more : List (List ℕ)) → All IsFull lines → lines ≡ (IsTrailer.lines t ++ IsTrailer.last t ∷ []) ++ more → ⊥
not_among trailer t lines more full e =
    let last = all_last t.lines t.last (all_front (t.lines ++ t.last ∷ []) more (subst (All IsFull) e full)) in
    let some = last.some in
    let none = t.ends in
    absurd (cc (some, none))

too_many : (trailer : List ℕ) (t : IsTrailer trailer) (lines more : List (List ℕ)) → All IsFull lines → LINE_COUNT_LIMIT < length lines → IsTrailer.lines t ++ IsTrailer.last t ∷ [] ≡ lines ++ more → ⊥
too_many trailer t lines [] full many e = not_among trailer t lines [] full (sym (append-nil lines) ∙ sym e ∙ sym (append-nil (t.lines ++ t.last ∷ [])))
too_many trailer t lines (z ∷ more) full many e =
    let n = ap length e in
    let f = t.few in
    omega (arith, n, f, many, length-append t.lines (t.last ∷ []), length-append lines (z ∷ more))

trailer_not_many : (trailer rest rest2 : List ℕ) (t : IsTrailer trailer) (lines : List (List ℕ)) → All IsFull lines → LINE_COUNT_LIMIT < length lines → flat_map ended lines ++ rest2 ≡ trailer ++ rest → ⊥
trailer_not_many trailer rest rest2 t lines full many e = by_length (cases_lt (length (flat_map ended lines)) (length trailer))
  where
    by_length : (length (flat_map ended lines) < length trailer) ⊎ (length trailer ≤ length (flat_map ended lines)) → ⊥
    by_length (inl less) =
        let n = ap length t.trailer_is in
        let same : flat_map ended (t.lines ++ t.last ∷ []) ++ ([] ++ rest) ≡ flat_map ended lines ++ rest2 = ap (λ l. l ++ rest) (sym t.trailer_is) ∙ sym e in
        let found = among (length (flat_map ended lines)) lines (t.lines ++ t.last ∷ []) [] rest rest2 (fulls_are_lines lines full) (trailer_lines trailer t) (All-nil (λ b. b ≢ 10)) (omega arith) (omega (arith, n, less)) same in
        too_many trailer t lines found.0 full many found.1
    by_length (inr le) =
        let n = ap length t.trailer_is in
        let same : flat_map ended lines ++ ([] ++ rest2) ≡ flat_map ended (t.lines ++ t.last ∷ []) ++ rest = e ∙ ap (λ l. l ++ rest) t.trailer_is in
        let found = among (length (flat_map ended (t.lines ++ t.last ∷ []))) (t.lines ++ t.last ∷ []) lines [] rest2 rest (trailer_lines trailer t) (fulls_are_lines lines full) (All-nil (λ b. b ≢ 10)) (omega arith) (omega (arith, n, le)) same in
        not_among trailer t lines found.0 full found.1

trailer_not_bad : (bytes trailer rest : List ℕ) → IsTrailer trailer → bytes ≡ trailer ++ rest → IsBadTrailer bytes → ⊥
trailer_not_bad bytes trailer rest t e (inl (lines, rest2, full, many, e2, short)) = trailer_not_many trailer rest rest2 t lines full many (sym e2 ∙ e)
trailer_not_bad bytes trailer rest t e (inr long) = long.1 trailer rest t e

-- a chunk's line, and what comes after it
abbrev pub begins_chunk : (c : Chunk) (rest : List ℕ) → IsChunk c → BeginsChunk (print_chunk c ++ rest) (length c.bytes) (c.bytes ++ (crlf_bytes ++ rest))
begins_chunk c rest is = record {
  line = c.line;
  is_line = IsChunk.line is;
  short = IsChunk.short is;
  size_is = IsChunk.size is;
  bytes_are = append_assoc (print_chunk_line c.line ++ c.bytes) crlf_bytes rest ∙ append_assoc (print_chunk_line c.line) c.bytes (crlf_bytes ++ rest);
}

-- two fronts of one length are one
pub same_front : (a b p q : List ℕ) → length a ≡ length b → a ++ p ≡ b ++ q → (a ≡ b) × (p ≡ q)
same_front a b p q n e =
    let front : a ≡ b = sym (take_at a p (length a) refl) ∙ ap (take (length a)) e ∙ take_at b q (length a) (sym n) in
    (front, sym (drop_at a p (length a) refl) ∙ ap (drop (length a)) e ∙ drop_at b q (length a) (sym n))

-- one chunk comes first
pub one_chunk : (c d : Chunk) (p q : List ℕ) → IsChunk c → IsChunk d → print_chunk c ++ p ≡ print_chunk d ++ q → (c ≡ d) × (p ≡ q)
one_chunk c d p q is js e =
    let a = begins_chunk c p is in
    let b = begins_chunk d q js in
    let bytes = print_chunk d ++ q in
    let lines = chunk_line_unique bytes c.line d.line (c.bytes ++ (crlf_bytes ++ p)) (d.bytes ++ (crlf_bytes ++ q)) (IsChunk.line is, sym e ∙ BeginsChunk.bytes_are a) (IsChunk.line js, BeginsChunk.bytes_are b) in
    let size : length c.bytes ≡ length d.bytes = sym (IsChunk.size is) ∙ ap chunk_size lines.0 ∙ IsChunk.size js in
    let both = same_front c.bytes d.bytes (crlf_bytes ++ p) (crlf_bytes ++ q) size lines.1 in
    (chunk_is c d lines.0 both.0, append_cancel_left crlf_bytes p q both.1)
  where
    chunk_is : (c d : Chunk) → c.line ≡ d.line → c.bytes ≡ d.bytes → c ≡ d
    chunk_is c d l b = λ i. record { line = l i; bytes = b i }

-- two sizes of one chunk line
sizes : (bytes : List ℕ) (m n : ℕ) (p q : List ℕ) → BeginsChunk bytes m p → BeginsChunk bytes n q → m ≡ n
sizes bytes m n p q a b = (one_line bytes m n p q a b).0

ends_late : (size : ℕ) (rest other : List ℕ) → EndsBadly size rest → rest ≡ other → length other < size + 2 → ⊥
ends_late size rest other b e short =
    let k = ap length (sym e ∙ b.bytes_are) in
    let n = b.size_is in
    omega (arith, k, n, short, length-append b.data_bytes (b.x ∷ b.y ∷ b.rest))

bad_long : (limit n : ℕ) (bytes : List ℕ) → FailsAt limit n bytes ChunkFault.bad → FailsAt limit n bytes ChunkFault.too_long → ⊥
bad_long limit n bytes (inl x) (size, rest, b, some, more) = line_not_bad bytes size rest b x
bad_long limit n bytes (inr (inl (rest2, b2, t))) (size, rest, b, some, more) = let e = sizes bytes 0 size rest2 rest b2 b in omega (arith, e, some)
bad_long limit n bytes (inr (inr (size2, rest2, b2, some2, fits, d))) (size, rest, b, some, more) = let e = sizes bytes size2 size rest2 rest b2 b in omega (arith, e, fits, more)

bad_cut : (limit n : ℕ) (bytes : List ℕ) → FailsAt limit n bytes ChunkFault.bad → FailsAt limit n bytes ChunkFault.cut → ⊥
bad_cut limit n bytes (inl x) (inl y) = bad_not_open bytes x y
bad_cut limit n bytes (inl x) (inr (inl (rest, b, t))) = line_not_bad bytes 0 rest b x
bad_cut limit n bytes (inl x) (inr (inr (size, rest, b, some, fits, short))) = line_not_bad bytes size rest b x
bad_cut limit n bytes (inr (inl (rest, b, t))) (inl y) = line_not_open bytes 0 rest b y
bad_cut limit n bytes (inr (inl (rest, b, t))) (inr (inl (rest2, b2, t2))) = let e = (one_line bytes 0 0 rest rest2 b b2).1 in t2.2 (subst IsBadTrailer e t)
bad_cut limit n bytes (inr (inl (rest, b, t))) (inr (inr (size, rest2, b2, some, fits, short))) = let e = sizes bytes 0 size rest rest2 b b2 in omega (arith, e, some)
bad_cut limit n bytes (inr (inr (size, rest, b, some, fits, d))) (inl y) = line_not_open bytes size rest b y
bad_cut limit n bytes (inr (inr (size, rest, b, some, fits, d))) (inr (inl (rest2, b2, t2))) = let e = sizes bytes size 0 rest rest2 b b2 in omega (arith, e, some)
bad_cut limit n bytes (inr (inr (size, rest, b, some, fits, d))) (inr (inr (size2, rest2, b2, some2, fits2, short))) =
    let e = one_line bytes size size2 rest rest2 b b2 in let k = e.0 in ends_late size rest rest2 d e.1 (omega (arith, k, short))

long_cut : (limit n : ℕ) (bytes : List ℕ) → FailsAt limit n bytes ChunkFault.too_long → FailsAt limit n bytes ChunkFault.cut → ⊥
long_cut limit n bytes (size, rest, b, some, more) (inl y) = line_not_open bytes size rest b y
long_cut limit n bytes (size, rest, b, some, more) (inr (inl (rest2, b2, t2))) = let e = sizes bytes size 0 rest rest2 b b2 in omega (arith, e, some)
long_cut limit n bytes (size, rest, b, some, more) (inr (inr (size2, rest2, b2, some2, fits, short))) = let e = sizes bytes size size2 rest rest2 b b2 in omega (arith, e, fits, more)

-- after chunks that were read there is one fault
pub one_fault : (limit n : ℕ) (bytes : List ℕ) (f g : ChunkFault) → FailsAt limit n bytes f → FailsAt limit n bytes g → f ≡ g
one_fault limit n bytes ChunkFault.bad ChunkFault.bad x y = refl
one_fault limit n bytes ChunkFault.too_long ChunkFault.too_long x y = refl
one_fault limit n bytes ChunkFault.cut ChunkFault.cut x y = refl
one_fault limit n bytes ChunkFault.bad ChunkFault.too_long x y = absurd (bad_long limit n bytes x y)
one_fault limit n bytes ChunkFault.too_long ChunkFault.bad x y = absurd (bad_long limit n bytes y x)
one_fault limit n bytes ChunkFault.bad ChunkFault.cut x y = absurd (bad_cut limit n bytes x y)
one_fault limit n bytes ChunkFault.cut ChunkFault.bad x y = absurd (bad_cut limit n bytes y x)
one_fault limit n bytes ChunkFault.too_long ChunkFault.cut x y = absurd (long_cut limit n bytes x y)
one_fault limit n bytes ChunkFault.cut ChunkFault.too_long x y = absurd (long_cut limit n bytes y x)

-- where the chunks end nothing fails
pub end_not_fault : (limit n : ℕ) (bytes behind trailer rest : List ℕ) (f : ChunkFault) → BeginsChunk bytes 0 behind → IsTrailer trailer → behind ≡ trailer ++ rest → FailsAt limit n bytes f → ⊥
end_not_fault limit n bytes behind trailer rest ChunkFault.bad z t e (inl x) = line_not_bad bytes 0 behind z x
end_not_fault limit n bytes behind trailer rest ChunkFault.bad z t e (inr (inl (rest2, b, bad))) =
    trailer_not_bad behind trailer rest t e (subst IsBadTrailer (one_line bytes 0 0 rest2 behind b z).1 bad)
end_not_fault limit n bytes behind trailer rest ChunkFault.bad z t e (inr (inr (size, rest2, b, some, fits, d))) = let k = sizes bytes size 0 rest2 behind b z in omega (arith, k, some)
end_not_fault limit n bytes behind trailer rest ChunkFault.too_long z t e (size, rest2, b, some, more) = let k = sizes bytes size 0 rest2 behind b z in omega (arith, k, some)
end_not_fault limit n bytes behind trailer rest ChunkFault.cut z t e (inl y) = line_not_open bytes 0 behind z y
end_not_fault limit n bytes behind trailer rest ChunkFault.cut z t e (inr (inl (rest2, b, unended))) =
    unended.1 trailer rest t ((one_line bytes 0 0 rest2 behind b z).1 ∙ e)
end_not_fault limit n bytes behind trailer rest ChunkFault.cut z t e (inr (inr (size, rest2, b, some, fits, short))) = let k = sizes bytes size 0 rest2 behind b z in omega (arith, k, some)

-- nor where there is a chunk within the limit
pub chunk_not_fault : (limit n : ℕ) (c : Chunk) (rest : List ℕ) (f : ChunkFault) → IsChunk c → n + length c.bytes ≤ limit → FailsAt limit n (print_chunk c ++ rest) f → ⊥
chunk_not_fault limit n c rest f is fits x = by_fault f x
  where
    by_fault : (f : ChunkFault) → FailsAt limit n (print_chunk c ++ rest) f → ⊥
    by_fault ChunkFault.bad (inl y) = line_not_bad (print_chunk c ++ rest) (length c.bytes) (c.bytes ++ (crlf_bytes ++ rest)) (begins_chunk c rest is) y
    by_fault ChunkFault.bad (inr (inl (rest2, b, t))) = let e = sizes (print_chunk c ++ rest) 0 (length c.bytes) rest2 (c.bytes ++ (crlf_bytes ++ rest)) b (begins_chunk c rest is) in let s = IsChunk.some is in omega (arith, e, s)
    by_fault ChunkFault.bad (inr (inr (size, rest2, b, some, within, d))) =
        let e = one_line (print_chunk c ++ rest) size (length c.bytes) rest2 (c.bytes ++ (crlf_bytes ++ rest)) b (begins_chunk c rest is) in
        let n = EndsBadly.size_is d in
        let k = e.0 in
        let both = same_front (EndsBadly.data_bytes d) c.bytes (EndsBadly.x d ∷ EndsBadly.y d ∷ EndsBadly.rest d) (crlf_bytes ++ rest) (n ∙ k) (sym (EndsBadly.bytes_are d) ∙ e.1) in
        EndsBadly.other d (ap (take 2) both.1)
    by_fault ChunkFault.too_long (size, rest2, b, some, more) = let e = sizes (print_chunk c ++ rest) size (length c.bytes) rest2 (c.bytes ++ (crlf_bytes ++ rest)) b (begins_chunk c rest is) in omega (arith, e, more, fits)
    by_fault ChunkFault.cut (inl y) = line_not_open (print_chunk c ++ rest) (length c.bytes) (c.bytes ++ (crlf_bytes ++ rest)) (begins_chunk c rest is) y
    by_fault ChunkFault.cut (inr (inl (rest2, b, t))) = let e = sizes (print_chunk c ++ rest) 0 (length c.bytes) rest2 (c.bytes ++ (crlf_bytes ++ rest)) b (begins_chunk c rest is) in let s = IsChunk.some is in omega (arith, e, s)
    by_fault ChunkFault.cut (inr (inr (size, rest2, b, some, within, short))) =
        let e = one_line (print_chunk c ++ rest) size (length c.bytes) rest2 (c.bytes ++ (crlf_bytes ++ rest)) b (begins_chunk c rest is) in
        let k = e.0 in let l = ap length e.1 in
        omega (arith, k, l, short, length-append c.bytes (crlf_bytes ++ rest), length-append crlf_bytes rest)
