-- The lines of the first elements of a list, each with its number.
use Rattle.std.proofs.Common.{◌≡◌, ℕ, suc, ◌+◌, ◌<◌, ◌≤◌, List, [], ◌∷◌, ◌++◌, map, length, take, get_or, append-nil, append_assoc, sym, ap, ◌∙◌, arith}
use Rattle.std.specs.List.{flat_map, enumerate_from}
use Rattle.std.proofs.lemmas.List.{take_all, take_more, map-append, get_or_default}
use Rattle.std.proofs.lemmas.List.Concat.{flat_map-append}
use Rattle.std.proofs.lemmas.List.FromFn.{get_or-enumerate_from, length-enumerate_from}

pub numbered_more : {X : Type 0} (ended : List ℕ → List ℕ) (line : ℕ × X → List ℕ) (xs : List X) (i : ℕ) (d : X) → i < length xs → flat_map ended (map line (take (i + 1) (enumerate_from 0 xs))) ≡ flat_map ended (map line (take i (enumerate_from 0 xs))) ++ ended (line (i, get_or xs i d))
numbered_more {X} ended line xs i d h =
    let all : List (ℕ × X) = enumerate_from 0 xs in
    let long = length-enumerate_from 0 xs in
    let within : i < length all = omega (arith, long) in
    let is : get_or all i (0, d) ≡ (0 + i, get_or xs i d) = get_or-enumerate_from 0 xs i (0, d) h in
    let start : 0 + i ≡ i = omega arith in
    let at : get_or all i (0, d) ≡ (i, get_or xs i d) = is ∙ ap (λ (n : ℕ). (n, get_or xs i d)) start in
    let cut : take (i + 1) all ≡ take i all ++ (get_or all i (0, d) ∷ []) = take_more all i (0, d) within in
    ap (λ (t : List (ℕ × X)). flat_map ended (map line t)) (cut ∙ ap (λ (p : ℕ × X). take i all ++ (p ∷ [])) at)
    ∙ ap (flat_map ended) (map-append line (take i all) ((i, get_or xs i d) ∷ []))
    ∙ flat_map-append ended (map line (take i all)) (line (i, get_or xs i d) ∷ [])
    ∙ ap (λ (t : List ℕ). flat_map ended (map line (take i all)) ++ t) (append-nil (ended (line (i, get_or xs i d))))

pub numbered_all : {X : Type 0} (ended : List ℕ → List ℕ) (line : ℕ × X → List ℕ) (xs : List X) (i : ℕ) → length xs ≤ i → flat_map ended (map line (take i (enumerate_from 0 xs))) ≡ flat_map ended (map line (enumerate_from 0 xs))
numbered_all {X} ended line xs i h =
    let long = length-enumerate_from 0 xs in
    let past : length (enumerate_from 0 xs) ≤ i = omega (arith, long) in
    ap (λ (t : List (ℕ × X)). flat_map ended (map line t)) (take_all i (enumerate_from 0 xs) past)

-- the lines of a list with one more element
pub numbered_push : {X : Type 0} (line : ℕ × X → List ℕ) (n : ℕ) (xs : List X) (x : X) → map line (enumerate_from n (xs ++ x ∷ [])) ≡ map line (enumerate_from n xs) ++ line (n + length xs, x) ∷ []
numbered_push line n [] x = let same : n + 0 ≡ n = omega arith in ap (λ (k : ℕ). line (k, x) ∷ []) (sym same)
numbered_push line n (y ∷ xs) x =
    let rest = numbered_push line (n + 1) xs x in
    let same : n + 1 + length xs ≡ n + suc (length xs) = omega arith in
    ap (λ (t : List (List ℕ)). line (n, y) ∷ t) (rest ∙ ap (λ (k : ℕ). map line (enumerate_from (n + 1) xs) ++ line (k, x) ∷ []) same)

-- what a loop that appends has put at the end, one piece more
pub joined : (start before after pieces piece more : List ℕ) → after ≡ before ++ piece → before ≡ start ++ pieces → more ≡ pieces ++ piece → after ≡ start ++ more
joined start before after pieces piece more ha hb hm =
    ha ∙ ap (λ (t : List ℕ). t ++ piece) hb ∙ append_assoc start pieces piece ∙ ap (λ (t : List ℕ). start ++ t) (sym hm)

-- an element that was read, by another default
pub at_default : {X : Type 0} (xs : List X) (i : ℕ) (x d : X) → i < length xs → x ≡ get_or xs i x → x ≡ get_or xs i d
at_default xs i x d h is = is ∙ get_or_default xs i x d h
