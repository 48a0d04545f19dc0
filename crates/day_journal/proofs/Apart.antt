-- A file represents payloads, or has one fault at one place.
use Rattle.std.proofs.Common.{◌≡◌, ◌≢◌, ◌⊎◌, inl, inr, ℕ, ◌≤◌, ◌<◌, List, [], ◌∷◌, ◌++◌, length, get_or, drop, All, refl, sym, ◌∙◌, ap, arith, append_assoc, length-append}
use Rattle.std.specs.Prelude.{slice_get}
use Rattle.std.specs.List.{flat_map}
use Rattle.std.proofs.lemmas.Bool.{cases_lt}
use Rattle.std.proofs.lemmas.List.Elements.{All-head, All-tail}
use Rattle.adx_io.specs.Frames.{body}
use Rattle.day_journal.specs.Places.{IsFormat, IsPayload, IsBadPlace, IsUnfinished, HasBadLength, HasNoHead, StandsFor, head, open_place, opened}
use Rattle.day_journal.proofs.Once.{same_format, same_payload}
use Rattle.day_journal.proofs.Reading.{front_get}

-- an open place where no payload may be
no_place : (place p rest : List ℕ) → IsBadPlace place → IsPayload p → place ≡ open_place p ++ rest → ⊥
no_place place p rest bad is_payload is = bad.payload p rest is_payload is

-- payloads that end at a closed gate, and those that end at a bad place
closed_or_bad : (ps qs : List (List ℕ)) (g : ℕ) (r place : List ℕ) → All IsPayload ps → All IsPayload qs → g ≢ 1 → IsBadPlace place
    → flat_map open_place ps ++ g ∷ r ≡ flat_map open_place qs ++ place → ⊥
closed_or_bad [] [] g r place all_p all_q shut bad same = shut (bad.gate g r (sym same))
closed_or_bad [] (q ∷ qs) g r place all_p all_q shut bad same = shut (ap (λ (l : List ℕ). get_or l 0 0) same)
closed_or_bad (p ∷ ps) [] g r place all_p all_q shut bad same =
    no_place place p (flat_map open_place ps ++ g ∷ r) bad (All-head IsPayload p ps all_p) (sym same ∙ append_assoc (open_place p) (flat_map open_place ps) (g ∷ r))
closed_or_bad (p ∷ ps) (q ∷ qs) g r place all_p all_q shut bad same =
    let tails : body p ++ (flat_map open_place ps ++ g ∷ r) ≡ body q ++ (flat_map open_place qs ++ place) =
    sym (append_assoc (body p) (flat_map open_place ps) (g ∷ r)) ∙ ap (drop 1) same ∙ append_assoc (body q) (flat_map open_place qs) place in
    let both = same_payload p q (flat_map open_place ps ++ g ∷ r) (flat_map open_place qs ++ place) (All-head IsPayload p ps all_p) (All-head IsPayload q qs all_q) tails in
    closed_or_bad ps qs g r place (All-tail IsPayload p ps all_p) (All-tail IsPayload q qs all_q) shut bad both.1

-- payloads that end at a bad place, twice
bad_once : (ps qs : List (List ℕ)) (place other : List ℕ) → All IsPayload ps → All IsPayload qs → IsBadPlace place → IsBadPlace other
    → flat_map open_place ps ++ place ≡ flat_map open_place qs ++ other → ps ≡ qs
bad_once [] [] place other all_p all_q bad worse same = refl
bad_once [] (q ∷ qs) place other all_p all_q bad worse same =
    absurd (no_place place q (flat_map open_place qs ++ other) bad (All-head IsPayload q qs all_q) (same ∙ append_assoc (open_place q) (flat_map open_place qs) other))
bad_once (p ∷ ps) [] place other all_p all_q bad worse same =
    absurd (no_place other p (flat_map open_place ps ++ place) worse (All-head IsPayload p ps all_p) (sym same ∙ append_assoc (open_place p) (flat_map open_place ps) place))
bad_once (p ∷ ps) (q ∷ qs) place other all_p all_q bad worse same =
    let tails : body p ++ (flat_map open_place ps ++ place) ≡ body q ++ (flat_map open_place qs ++ other) =
    sym (append_assoc (body p) (flat_map open_place ps) place) ∙ ap (drop 1) same ∙ append_assoc (body q) (flat_map open_place qs) other in
    let both = same_payload p q (flat_map open_place ps ++ place) (flat_map open_place qs ++ other) (All-head IsPayload p ps all_p) (All-head IsPayload q qs all_q) tails in
    (λ i. both.0 i ∷ bad_once ps qs place other (All-tail IsPayload p ps all_p) (All-tail IsPayload q qs all_q) bad worse both.1 i)

-- an unfinished file has no payload, and the gate that it may have isn't 1
unfinished_or_bad : (format : ℕ) (file : List ℕ) (qs : List (List ℕ)) (place : List ℕ) → IsUnfinished file → All IsPayload qs → IsBadPlace place → file ≡ opened format qs ++ place → ⊥
unfinished_or_bad format file qs place (inl few) all_q bad is = omega (arith, few, ap length is, length-append (opened format qs) place, length-append (head format) (flat_map open_place qs))
unfinished_or_bad format file qs place (inr (inl cleared)) all_q bad is =
    let zero_one : 0 ≡ 1 = ap (λ (l : List ℕ). get_or l 0 0) (sym cleared.split ∙ is) in omega (arith, zero_one)
unfinished_or_bad format file [] place (inr (inr marked)) all_q bad is =
    let gate = bad.gate 0 [] (ap (drop 9) (sym is ∙ marked.marked.split)) in omega (arith, gate)
unfinished_or_bad format file (q ∷ qs) place (inr (inr marked)) all_q bad is =
    let zero_one : 1 ≡ 0 = ap (λ (l : List ℕ). get_or (drop 9 l) 0 0) (sym is ∙ marked.marked.split) in omega (arith, zero_one)

pub stands_or_bad : (format : ℕ) (file : List ℕ) (ps : List (List ℕ)) (at : ℕ) → StandsFor format file ps → HasBadLength file at → ⊥
stands_or_bad format file ps at (inl un) bad = unfinished_or_bad bad.format file bad.payloads bad.place un.0 bad.each bad.bad bad.split
stands_or_bad format file ps at (inr is) bad =
    closed_or_bad ps bad.payloads is.closed.gate is.closed.rest bad.place is.each bad.each is.closed.shut bad.bad (ap (drop 9) (sym is.closed.split ∙ bad.split))

-- the front of a file that has a head
has_head : (format : ℕ) (file rest : List ℕ) (at : ℕ) → IsFormat format → file ≡ head format ++ rest → HasNoHead file at → ⊥
has_head format file rest at known is none =
    none.differs format known (ap (λ (l : List ℕ). slice_get l at) is ∙ sym (front_get (head format ++ rest) 9 at (none.within format known)))

pub stands_or_no_head : (format : ℕ) (file : List ℕ) (ps : List (List ℕ)) (at : ℕ) → StandsFor format file ps → HasNoHead file at → ⊥
stands_or_no_head format file ps at (inl un) none = none.finished un.0
stands_or_no_head format file ps at (inr is) none =
    let rest : List ℕ = is.closed.gate ∷ is.closed.rest in
    has_head format file (flat_map open_place ps ++ rest) at is.known (is.closed.split ∙ append_assoc (head format) (flat_map open_place ps) rest) none

pub bad_or_no_head : (file : List ℕ) (at place : ℕ) → HasBadLength file at → HasNoHead file place → ⊥
bad_or_no_head file at place bad none =
    has_head bad.format file (flat_map open_place bad.payloads ++ bad.place) place bad.known (bad.split ∙ append_assoc (head bad.format) (flat_map open_place bad.payloads) bad.place) none

pub one_bad : (file : List ℕ) (at place : ℕ) → HasBadLength file at → HasBadLength file place → at ≡ place
one_bad file at place a b =
    let same = bad_once a.payloads b.payloads a.place b.place a.each b.each a.bad b.bad (ap (drop 9) (sym a.split ∙ b.split)) in
    let format = same_format a.format b.format file a.payloads b.payloads a.place b.place a.split b.split in
    a.there ∙ (ap (λ (ps : List (List ℕ)). length (opened a.format ps)) same ∙ (ap (λ (f : ℕ). length (opened f b.payloads)) format ∙ sym b.there))

first_known : IsFormat 1
first_known = inl refl

-- the first byte that differs is no later than another
no_later : (file : List ℕ) (at place : ℕ) → HasNoHead file at → HasNoHead file place → at < place → ⊥
no_later file at place a b lt =
    a.differs 1 first_known (sym (front_get file place at lt) ∙ ap (λ (l : List ℕ). slice_get l at) (b.before 1 first_known) ∙ front_get (head 1) place at lt)

one_by : (file : List ℕ) (at place : ℕ) → HasNoHead file at → HasNoHead file place → (at < place) ⊎ (place ≤ at) → (place < at) ⊎ (at ≤ place) → at ≡ place
one_by file at place a b (inl lt) after = absurd (no_later file at place a b lt)
one_by file at place a b (inr le) (inl lt) = absurd (no_later file place at b a lt)
one_by file at place a b (inr le) (inr ge) = omega (arith, le, ge)

pub one_no_head : (file : List ℕ) (at place : ℕ) → HasNoHead file at → HasNoHead file place → at ≡ place
one_no_head file at place a b = one_by file at place a b (cases_lt at place) (cases_lt place at)
