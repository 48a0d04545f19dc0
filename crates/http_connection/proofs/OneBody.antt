-- What a body is, or its fault: one answer for each list of bytes.
use Rattle.std.proofs.Common.{◌≡◌, ◌⊎◌, ℕ, ◌+◌, ◌<◌, ◌≤◌, List, [], ◌∷◌, ◌++◌, length, All, refl, sym, ap, subst, ◌∙◌, append_assoc, append-nil, arith, length-append, inl, inr}
use Rattle.std.specs.List.{flat_map}
use Rattle.std.proofs.lemmas.List.Elements.{All-head, All-tail}
use Rattle.http_connection.specs.Chunks.{Chunk, IsChunk, print_chunk, joined, HasChunks, BeginsChunk, IsChunkedThen, ChunkFault, FailsAt, FailsChunks}
use Rattle.http_connection.specs.BodyForms.{IsBodyThen, FailsBody}
use Rattle.http_connection.specs.declared.bodies.Body.{Body}
use Rattle.http_grammar.specs.declared.fault.HttpFault.{HttpFault}
use Rattle.http_connection.proofs.OneChunk.{one_line, one_chunk, one_trailer, one_fault, same_front, begins_chunk, end_not_fault, chunk_not_fault}

-- some chunks, and those that come after them
record GoesOn (cs ds : List Chunk) (p q : List ℕ) : Type 0 where
  more : List Chunk
  all : ds ≡ cs ++ more
  rest : p ≡ flat_map print_chunk more ++ q

goes_on_cons : (c d : Chunk) (cs ds : List Chunk) (p q : List ℕ) → c ≡ d → GoesOn cs ds p q → GoesOn (c ∷ cs) (d ∷ ds) p q
goes_on_cons c d cs ds p q e g = record { more = g.more; all = ap (λ k. k ∷ ds) (sym e) ∙ ap (λ l. c ∷ l) g.all; rest = g.rest }

-- of two lists of chunks that begin the bytes one begins the other
nested : (cs ds : List Chunk) (p q : List ℕ) → All IsChunk cs → All IsChunk ds → flat_map print_chunk cs ++ p ≡ flat_map print_chunk ds ++ q → GoesOn cs ds p q ⊎ GoesOn ds cs q p
nested [] ds p q is js e = inl (record { more = ds; all = refl; rest = e })
nested (c ∷ cs) [] p q is js e = inr (record { more = c ∷ cs; all = refl; rest = sym e })
nested (c ∷ cs) (d ∷ ds) p q is js e =
    let same : print_chunk c ++ (flat_map print_chunk cs ++ p) ≡ print_chunk d ++ (flat_map print_chunk ds ++ q) =
    sym (append_assoc (print_chunk c) (flat_map print_chunk cs) p) ∙ e ∙ append_assoc (print_chunk d) (flat_map print_chunk ds) q in
    let both = one_chunk c d (flat_map print_chunk cs ++ p) (flat_map print_chunk ds ++ q) (All-head IsChunk c cs is) (All-head IsChunk d ds js) same in
    behind both.0 (nested cs ds p q (All-tail IsChunk c cs is) (All-tail IsChunk d ds js) both.1)
  where
    behind : c ≡ d → GoesOn cs ds p q ⊎ GoesOn ds cs q p → GoesOn (c ∷ cs) (d ∷ ds) p q ⊎ GoesOn (d ∷ ds) (c ∷ cs) q p
    behind e (inl g) = inl (goes_on_cons c d cs ds p q e g)
    behind e (inr g) = inr (goes_on_cons d c ds cs q p (sym e) g)

-- the first of the chunks after others
first_of : (cs more : List Chunk) (c : Chunk) → All IsChunk (cs ++ c ∷ more) → IsChunk c
first_of [] more c all = All-head IsChunk c more all
first_of (x ∷ cs) more c all = first_of cs more c (All-tail IsChunk x (cs ++ c ∷ more) all)

-- the joined bytes of chunks up to one of them
joined_to : (cs more : List Chunk) (c : Chunk) → length (joined cs) + length c.bytes ≤ length (joined (cs ++ c ∷ more))
joined_to [] more c = omega (arith, length-append c.bytes (joined more))
joined_to (x ∷ cs) more c =
    let less = joined_to cs more c in
    omega (arith, less, length-append x.bytes (joined cs), length-append x.bytes (joined (cs ++ c ∷ more)))

-- after chunks the last line is where no chunk is
end_not_chunk : (p : List ℕ) (c : Chunk) (rest behind : List ℕ) → IsChunk c → p ≡ print_chunk c ++ rest → BeginsChunk p 0 behind → ⊥
end_not_chunk p c rest behind is e z =
    let b = subst (λ l. BeginsChunk l 0 behind) e z in
    let k = (one_line (print_chunk c ++ rest) 0 (length c.bytes) behind _ b (begins_chunk c rest is)).0 in
    let s = IsChunk.some is in
    omega (arith, k, s)

-- more chunks than were read before the last line
ends_there : (cs ds : List Chunk) (p q behind : List ℕ) → All IsChunk ds → BeginsChunk p 0 behind → (g : GoesOn cs ds p q) → (ds ≡ cs) × (p ≡ q)
ends_there cs ds p q behind js z g = by_more g.more g.all g.rest
  where
    by_more : (more : List Chunk) → ds ≡ cs ++ more → p ≡ flat_map print_chunk more ++ q → (ds ≡ cs) × (p ≡ q)
    by_more [] all rest = (all ∙ append-nil cs, rest)
    by_more (c ∷ more) all rest =
        let is = first_of cs more c (subst (All IsChunk) all js) in
        absurd (end_not_chunk p c (flat_map print_chunk more ++ q) behind is (rest ∙ append_assoc (print_chunk c) (flat_map print_chunk more) q) z)

-- one body in chunks begins the bytes
one_chunked : (limit : ℕ) (bytes body rest body2 rest2 : List ℕ) → IsChunkedThen limit bytes body rest → IsChunkedThen limit bytes body2 rest2 → (body ≡ body2) × (rest ≡ rest2)
one_chunked limit bytes body rest body2 rest2 a b =
    by_order (nested a.chunks b.chunks a.last b.last (HasChunks.each a.before) (HasChunks.each b.before) (sym (HasChunks.bytes_are a.before) ∙ HasChunks.bytes_are b.before))
  where
    alike : a.chunks ≡ b.chunks → a.last ≡ b.last → (body ≡ body2) × (rest ≡ rest2)
    alike chunks last =
        let behind : a.behind ≡ b.behind = (one_line b.last 0 0 a.behind b.behind (subst (λ l. BeginsChunk l 0 a.behind) last a.zero) b.zero).1 in
        (a.body_is ∙ ap joined chunks ∙ sym b.body_is, one_trailer b.behind a.trailer b.trailer rest rest2 a.trailer_ends b.trailer_ends (sym behind ∙ a.behind_is) b.behind_is)

    by_order : GoesOn a.chunks b.chunks a.last b.last ⊎ GoesOn b.chunks a.chunks b.last a.last → (body ≡ body2) × (rest ≡ rest2)
    by_order (inl g) = let e = ends_there a.chunks b.chunks a.last b.last a.behind (HasChunks.each b.before) a.zero g in alike (sym e.0) e.1
    by_order (inr g) = let e = ends_there b.chunks a.chunks b.last a.last b.behind (HasChunks.each a.before) b.zero g in alike e.0 (sym e.1)

-- after some of the chunks that are within the limit there is no fault
within_not_fault : (limit : ℕ) (cs ds : List Chunk) (p q : List ℕ) (f : ChunkFault) → All IsChunk ds → length (joined ds) ≤ limit → (g : GoesOn cs ds p q) → FailsAt limit (length (joined cs)) p f → (ds ≡ cs) × (p ≡ q)
within_not_fault limit cs ds p q f js fits g x = by_more g.more g.all g.rest
  where
    by_more : (more : List Chunk) → ds ≡ cs ++ more → p ≡ flat_map print_chunk more ++ q → (ds ≡ cs) × (p ≡ q)
    by_more [] all rest = (all ∙ append-nil cs, rest)
    by_more (c ∷ more) all rest =
        let is = first_of cs more c (subst (All IsChunk) all js) in
        let n = ap (λ l. length (joined l)) all in
        let less = joined_to cs more c in
        absurd (chunk_not_fault limit (length (joined cs)) c (flat_map print_chunk more ++ q) f is (omega (arith, n, less, fits))
        (subst (λ l. FailsAt limit (length (joined cs)) l f) (rest ∙ append_assoc (print_chunk c) (flat_map print_chunk more) q) x))

chunked_not_fault : (limit : ℕ) (bytes body rest : List ℕ) (f : ChunkFault) → IsChunkedThen limit bytes body rest → FailsChunks limit bytes f → ⊥
chunked_not_fault limit bytes body rest f a b =
    by_order (nested a.chunks b.chunks a.last b.behind (HasChunks.each a.before) (HasChunks.each b.before) (sym (HasChunks.bytes_are a.before) ∙ HasChunks.bytes_are b.before))
  where
    by_order : GoesOn a.chunks b.chunks a.last b.behind ⊎ GoesOn b.chunks a.chunks b.behind a.last → ⊥
    by_order (inl g) =
        let e = ends_there a.chunks b.chunks a.last b.behind a.behind (HasChunks.each b.before) a.zero g in
        end_not_fault limit (length (joined b.chunks)) b.behind a.behind a.trailer rest f (subst (λ l. BeginsChunk l 0 a.behind) e.1 a.zero) a.trailer_ends a.behind_is b.fails
    by_order (inr g) =
        let e = within_not_fault limit b.chunks a.chunks b.behind a.last f (HasChunks.each a.before) (HasChunks.within a.before) g b.fails in
        end_not_fault limit (length (joined b.chunks)) b.behind a.behind a.trailer rest f (subst (λ l. BeginsChunk l 0 a.behind) (sym e.1) a.zero) a.trailer_ends a.behind_is b.fails

one_chunk_fault : (limit : ℕ) (bytes : List ℕ) (f g : ChunkFault) → FailsChunks limit bytes f → FailsChunks limit bytes g → f ≡ g
one_chunk_fault limit bytes f g a b =
    by_order (nested a.chunks b.chunks a.behind b.behind (HasChunks.each a.before) (HasChunks.each b.before) (sym (HasChunks.bytes_are a.before) ∙ HasChunks.bytes_are b.before))
  where
    alike : b.chunks ≡ a.chunks → a.behind ≡ b.behind → f ≡ g
    alike chunks last =
        one_fault limit (length (joined b.chunks)) b.behind f g (subst (λ l. FailsAt limit (length (joined b.chunks)) l f) last (subst (λ l. FailsAt limit (length (joined l)) a.behind f) (sym chunks) a.fails)) b.fails

    by_order : GoesOn a.chunks b.chunks a.behind b.behind ⊎ GoesOn b.chunks a.chunks b.behind a.behind → f ≡ g
    by_order (inl x) = let e = within_not_fault limit a.chunks b.chunks a.behind b.behind f (HasChunks.each b.before) (HasChunks.within b.before) x a.fails in alike e.0 e.1
    by_order (inr x) = let e = within_not_fault limit b.chunks a.chunks b.behind a.behind g (HasChunks.each a.before) (HasChunks.within a.before) x b.fails in alike (sym e.0) (sym e.1)

-- one body begins the bytes
pub one_body : (limit : ℕ) (form : Body) (bytes body rest body2 rest2 : List ℕ) → IsBodyThen limit form bytes body rest → IsBodyThen limit form bytes body2 rest2 → (body ≡ body2) × (rest ≡ rest2)
one_body limit Body.Absent bytes body rest body2 rest2 a b = (a.0 ∙ sym b.0, a.1 ∙ sym b.1)
one_body limit (Body.Sized n) bytes body rest body2 rest2 a b = same_front body body2 rest rest2 (a.0 ∙ sym b.0) (sym a.1 ∙ b.1)
one_body limit Body.Chunked bytes body rest body2 rest2 a b = one_chunked limit bytes body rest body2 rest2 a b
one_body limit Body.ToEnd bytes body rest body2 rest2 a b = (a.0 ∙ sym b.0, a.1 ∙ sym b.1)

-- the fault that represents a fault of chunks
abbrev fault_of : ChunkFault → HttpFault
fault_of ChunkFault.bad = HttpFault.BadChunk
fault_of ChunkFault.too_long = HttpFault.BodyTooLong
fault_of ChunkFault.cut = HttpFault.Cut

chunk_fault : (limit : ℕ) (bytes : List ℕ) (fault : HttpFault) → FailsBody limit Body.Chunked bytes fault → (f : ChunkFault) × FailsChunks limit bytes f × (fault ≡ fault_of f)
chunk_fault limit bytes HttpFault.Cut x = (ChunkFault.cut, x, refl)
chunk_fault limit bytes HttpFault.BadChunk x = (ChunkFault.bad, x, refl)
chunk_fault limit bytes HttpFault.BodyTooLong x = (ChunkFault.too_long, x, refl)
chunk_fault limit bytes fault x = absurd x

sized_fault : (limit n : ℕ) (bytes : List ℕ) (fault : HttpFault) → FailsBody limit (Body.Sized n) bytes fault → (fault ≡ HttpFault.Cut) × (length bytes < n)
sized_fault limit n bytes HttpFault.Cut x = (refl, x)
sized_fault limit n bytes fault x = absurd x

to_end_fault : (limit : ℕ) (bytes : List ℕ) (fault : HttpFault) → FailsBody limit Body.ToEnd bytes fault → (fault ≡ HttpFault.BodyTooLong) × (limit < length bytes)
to_end_fault limit bytes HttpFault.BodyTooLong x = (refl, x)
to_end_fault limit bytes fault x = absurd x

absent_fault : (limit : ℕ) (bytes : List ℕ) (fault : HttpFault) → FailsBody limit Body.Absent bytes fault → ⊥
absent_fault limit bytes HttpFault.Cut x = x
absent_fault limit bytes fault x = x

-- a body that is read has no fault
pub body_not_fault : (limit : ℕ) (form : Body) (bytes body rest : List ℕ) (fault : HttpFault) → IsBodyThen limit form bytes body rest → FailsBody limit form bytes fault → ⊥
body_not_fault limit Body.Absent bytes body rest fault a x = absent_fault limit bytes fault x
body_not_fault limit (Body.Sized n) bytes body rest fault a x =
    let s = (sized_fault limit n bytes fault x).1 in let k = ap length a.1 in let l = a.0 in
    omega (arith, s, k, l, length-append body rest)
body_not_fault limit Body.Chunked bytes body rest fault a x = let f = chunk_fault limit bytes fault x in chunked_not_fault limit bytes body rest f.0 a f.1
body_not_fault limit Body.ToEnd bytes body rest fault a x = let s = (to_end_fault limit bytes fault x).1 in let k = ap length a.0 in let l = a.2 in omega (arith, s, k, l)

-- a body has one fault at most
pub one_body_fault : (limit : ℕ) (form : Body) (bytes : List ℕ) (f g : HttpFault) → FailsBody limit form bytes f → FailsBody limit form bytes g → f ≡ g
one_body_fault limit Body.Absent bytes f g x y = absurd (absent_fault limit bytes f x)
one_body_fault limit (Body.Sized n) bytes f g x y = (sized_fault limit n bytes f x).0 ∙ sym (sized_fault limit n bytes g y).0
one_body_fault limit Body.Chunked bytes f g x y =
    let a = chunk_fault limit bytes f x in let b = chunk_fault limit bytes g y in
    a.2 ∙ ap fault_of (one_chunk_fault limit bytes a.0 b.0 a.1 b.1) ∙ sym b.2
one_body_fault limit Body.ToEnd bytes f g x y = (to_end_fault limit bytes f x).0 ∙ sym (to_end_fault limit bytes g y).0
