-- A file represents one list of payloads.
use Rattle.std.proofs.Common.{◌≡◌, ◌≢◌, inl, inr, ℕ, ◌+◌, ◌≤◌, ◌<◌, ◌^◌, List, [], ◌∷◌, ◌++◌, length, get_or, take, drop, All, refl, sym, ◌∙◌, ap, arith, append_assoc, length-append}
use Rattle.std.proofs.lemmas.List.{take_at, drop_at}
use Rattle.std.proofs.lemmas.List.Elements.{All-head, All-tail}
use Rattle.std.proofs.lemmas.Nat.{from_le_bytes-to_le_bytes_4}
use Rattle.std.specs.List.{flat_map}
use Rattle.std.specs.Int.{w32, to_le_bytes, from_le_bytes}
use Rattle.adx_io.specs.Frames.{body}
use Rattle.day_journal.specs.Places.{IsPayload, IsClosed, IsUnfinished, StandsFor, open_place, opened}

pub same_payload : (p q x y : List ℕ) → IsPayload p → IsPayload q → body p ++ x ≡ body q ++ y → (p ≡ q) × (x ≡ y)
same_payload p q x y pp pq same =
    let lens : to_le_bytes w32 (length p) ≡ to_le_bytes w32 (length q) = ap (take 4) same in
    let rests : p ++ x ≡ q ++ y = ap (drop 4) same in
    let small_p : length p < 2 ^ 32 = omega (arith, pp.fits) in
    let small_q : length q < 2 ^ 32 = omega (arith, pq.fits) in
    let len : length p ≡ length q = sym (from_le_bytes-to_le_bytes_4 (length p) small_p) ∙ ap (from_le_bytes w32) lens ∙ from_le_bytes-to_le_bytes_4 (length q) small_q in
    let fronts : p ≡ q = sym (take_at p x (length p) refl) ∙ ap (take (length p)) rests ∙ take_at q y (length p) (sym len) in
    let backs : x ≡ y = sym (drop_at p x (length p) refl) ∙ ap (drop (length p)) rests ∙ drop_at q y (length p) (sym len) in
    (fronts, backs)

pub same_places : (ps qs : List (List ℕ)) (g h : ℕ) (r s : List ℕ) → All IsPayload ps → All IsPayload qs → g ≢ 1 → h ≢ 1
    → flat_map open_place ps ++ g ∷ r ≡ flat_map open_place qs ++ h ∷ s → ps ≡ qs
same_places [] [] g h r s ap_ aq gn hn same = refl
same_places [] (q ∷ qs) g h r s ap_ aq gn hn same = absurd (gn (ap (λ (l : List ℕ). get_or l 0 0) same))
same_places (p ∷ ps) [] g h r s ap_ aq gn hn same = absurd (hn (sym (ap (λ (l : List ℕ). get_or l 0 0) same)))
same_places (p ∷ ps) (q ∷ qs) g h r s ap_ aq gn hn same =
    let tails : body p ++ (flat_map open_place ps ++ g ∷ r) ≡ body q ++ (flat_map open_place qs ++ h ∷ s) =
    sym (append_assoc (body p) (flat_map open_place ps) (g ∷ r)) ∙ ap (drop 1) same ∙ append_assoc (body q) (flat_map open_place qs) (h ∷ s) in
    let both = same_payload p q (flat_map open_place ps ++ g ∷ r) (flat_map open_place qs ++ h ∷ s) (All-head IsPayload p ps ap_) (All-head IsPayload q qs aq) tails in
    (λ i. both.0 i ∷ same_places ps qs g h r s (All-tail IsPayload p ps ap_) (All-tail IsPayload q qs aq) gn hn both.1 i)

pub same_closed : (format other : ℕ) (ps qs : List (List ℕ)) (c : List ℕ) → All IsPayload ps → All IsPayload qs → IsClosed (opened format ps) c → IsClosed (opened other qs) c → ps ≡ qs
same_closed format other ps qs c each_p each_q p q =
    same_places ps qs p.gate q.gate p.rest q.rest each_p each_q p.shut q.shut (ap (drop 9) (sym p.split ∙ q.split))

-- a file that isn't finished is too short for a payload
pub short : (c : List ℕ) → IsUnfinished c → length c ≤ 10
short c (inl one) = omega (arith, one)
short c (inr (inl some)) = some.few
short c (inr (inr whole)) = omega (arith, ap length whole.marked.split)

no_payload : (format : ℕ) (ps : List (List ℕ)) (c : List ℕ) → length c ≤ 10 → All IsPayload ps → IsClosed (opened format ps) c → ps ≡ []
no_payload format [] c le each closed = refl
no_payload format (p ∷ ps) c le each closed =
    let first = All-head IsPayload p ps each in
    absurd (omega (arith, le, ap length closed.split, length-append p (flat_map open_place ps), length-append (p ++ flat_map open_place ps) (closed.gate ∷ closed.rest), first.some))

pub stands_once : (format other : ℕ) (c : List ℕ) (ps qs : List (List ℕ)) → StandsFor format c ps → StandsFor other c qs → ps ≡ qs
stands_once format other c ps qs (inl p) (inl q) = p.1 ∙ sym q.1
stands_once format other c ps qs (inl p) (inr q) = p.1 ∙ sym (no_payload other qs c (short c p.0) q.each q.closed)
stands_once format other c ps qs (inr p) (inl q) = no_payload format ps c (short c q.0) p.each p.closed ∙ sym q.1
stands_once format other c ps qs (inr p) (inr q) = same_closed format other ps qs c p.each q.each p.closed q.closed

-- the head of a file has one digit
pub same_format : (format other : ℕ) (file : List ℕ) (ps qs : List (List ℕ)) (x y : List ℕ) → file ≡ opened format ps ++ x → file ≡ opened other qs ++ y → format ≡ other
same_format format other file ps qs x y p q =
    let digits : 48 + format ≡ 48 + other = ap (λ (l : List ℕ). get_or l 8 0) (sym p ∙ q) in
    omega (arith, digits)

-- a file with payloads has one format
pub one_format : (format other : ℕ) (c p : List ℕ) (ps qs : List (List ℕ)) → StandsFor format c (p ∷ ps) → StandsFor other c qs → format ≡ other
one_format format other c p ps qs (inl un) stands = absurd (cc un.1)
one_format format other c p ps qs (inr is) (inl un) = absurd (cc (no_payload format (p ∷ ps) c (short c un.0) is.each is.closed))
one_format format other c p ps qs (inr is) (inr own) =
    same_format format other c (p ∷ ps) qs (is.closed.gate ∷ is.closed.rest) (own.closed.gate ∷ own.closed.rest) is.closed.split own.closed.split
