-- Lists that grow by one item at a turn of a loop.
use Rattle.std.proofs.Common.{◌≡◌, ℕ, zero, suc, ◌+◌, ◌<◌, ◌≤◌, List, [], ◌∷◌, ◌++◌, map, length, take, get_or, Bool, true, false, cond, refl, sym, ap, ◌∙◌, arith, append_assoc}
use Rattle.std.specs.List.{enumerate_from, filter, flat_map, range_with_len}
use Rattle.std.proofs.lemmas.List.{append-nil, get_or_default, length-take, map-append, take-append-le, take_more}
use Rattle.std.proofs.lemmas.Grind.{flat_map-append}
use Rattle.adx_units.specs.declared.offer.Offer.{Offer}
use Rattle.day_rules.specs.declared.ask.Ask.{Ask}
use Rattle.day_rules.proofs.Lists.{enumerate-append}
use Rattle.outbox.specs.declared.row.Row.{Row}
use Rattle.outbox.specs.Bids.{is_award}
use Rattle.outbox.specs.Rows.{row_made, rows_for}

filter_join : {X : Type 0} (p : X → Bool) (xs ys : List X) → filter p (xs ++ ys) ≡ filter p xs ++ filter p ys
filter_join p [] ys = refl
filter_join {X} p (x ∷ xs) ys = ap (λ (t : List X). cond (p x) (x ∷ t) t) (filter_join p xs ys) ∙ one (p x)
  where
    one : (b : Bool) → cond b (x ∷ (filter p xs ++ filter p ys)) (filter p xs ++ filter p ys) ≡ cond b (x ∷ filter p xs) (filter p xs) ++ filter p ys
    one true = refl
    one false = refl

map_one : {X Y : Type 0} (f : X → Y) (b : Bool) (x : X) → map f (cond b (x ∷ []) []) ≡ cond b (f x ∷ []) []
map_one f true x = refl
map_one f false x = refl

-- the rows of the first offers, and of one more
abbrev pub rows_of_first : Ask → ℕ → List Offer → List Row
rows_of_first a imp offers = map (row_made a) (filter (is_award imp) (enumerate_from 0 offers))

pub rows_more : (a : Ask) (imp p : ℕ) (xs : List Offer) (o : Offer) → p < length xs → get_or xs p o ≡ o → rows_of_first a imp (take (p + 1) xs) ≡ rows_of_first a imp (take p xs) ++ cond (is_award imp (p, o)) (row_made a (p, o) ∷ []) []
rows_more a imp p xs o within here =
    let front : List Offer = take p xs in
    let more : take (p + 1) xs ≡ front ++ o ∷ [] = take_more xs p o within ∙ ap (λ (x : Offer). front ++ x ∷ []) here in
    let place : 0 + length front ≡ p = omega (arith, length-take p xs) in
    ap (rows_of_first a imp) more
    ∙ (ap (λ (ps : List (ℕ × Offer)). map (row_made a) (filter (is_award imp) ps)) (enumerate-append 0 front (o ∷ []) ∙ ap (λ n. enumerate_from 0 front ++ (n, o) ∷ []) place)
    ∙ (ap (map (row_made a)) (filter_join (is_award imp) (enumerate_from 0 front) ((p, o) ∷ []))
    ∙ (map-append (row_made a) (filter (is_award imp) (enumerate_from 0 front)) (cond (is_award imp (p, o)) ((p, o) ∷ []) [])
    ∙ ap (λ (rs : List Row). rows_of_first a imp front ++ rs) (map_one (row_made a) (is_award imp (p, o)) (p, o)))))

range_join : (from n : ℕ) → range_with_len from (n + 1) ≡ range_with_len from n ++ (from + n) ∷ []
range_join from zero = ap (λ k. k ∷ []) (omega arith)
range_join from (suc k) =
    let e : suc k + 1 ≡ suc (k + 1) = omega arith in
    ap (range_with_len from) e
    ∙ (ap (λ (t : List ℕ). from ∷ t) (range_join (from + 1) k)
    ∙ ap (λ j. from ∷ (range_with_len (from + 1) k ++ j ∷ [])) (omega arith))

pub imps_more : (a : Ask) (i : ℕ) → flat_map (rows_for a) (range_with_len 0 (i + 1)) ≡ flat_map (rows_for a) (range_with_len 0 i) ++ rows_for a i
imps_more a i =
    ap (flat_map (rows_for a)) (range_join 0 i)
    ∙ (flat_map-append (rows_for a) (range_with_len 0 i) ((0 + i) ∷ [])
    ∙ ap (λ (t : List Row). flat_map (rows_for a) (range_with_len 0 i) ++ t) (append-nil (rows_for a (0 + i)) ∙ ap (rows_for a) (omega arith)))

-- what was put behind a list leaves its front
pub front_stays : {X : Type 0} (n : ℕ) (xs ys zs : List X) → zs ≡ xs ++ ys → n ≤ length xs → take n zs ≡ take n xs
front_stays n xs ys zs e low = ap (take n) e ∙ take-append-le n xs ys low

-- one more of a flat_map
pub flat_more : {X Y : Type 0} (f : X → List Y) (start : List Y) (xs : List X) (i : ℕ) (x : X) (mid new : List Y) → i < length xs → get_or xs i x ≡ x → mid ≡ start ++ flat_map f (take i xs) → new ≡ mid ++ f x → new ≡ start ++ flat_map f (take (i + 1) xs)
flat_more {X} {Y} f start xs i x mid new within here before now =
    now
    ∙ (ap (λ (t : List Y). t ++ f x) before
    ∙ (append_assoc start (flat_map f (take i xs)) (f x)
    ∙ ap (λ (t : List Y). start ++ t)
    (sym (ap (flat_map f) (take_more xs i x within ∙ ap (λ (y : X). take i xs ++ y ∷ []) here)
    ∙ (flat_map-append f (take i xs) (x ∷ []) ∙ ap (λ (t : List Y). flat_map f (take i xs) ++ t) (append-nil (f x)))))))

-- the same, with the offer at its place whatever the default
pub rows_one_more : (a : Ask) (imp p : ℕ) (xs : List Offer) (d : Offer) (start mid new : List Row) → p < length xs
    → mid ≡ start ++ rows_of_first a imp (take p xs)
    → new ≡ mid ++ cond (is_award imp (p, get_or xs p d)) (row_made a (p, get_or xs p d) ∷ []) []
    → new ≡ start ++ rows_of_first a imp (take (p + 1) xs)
rows_one_more a imp p xs d start mid new within before now =
    let o : Offer = get_or xs p d in
    let last : List Row = cond (is_award imp (p, o)) (row_made a (p, o) ∷ []) [] in
    now
    ∙ (ap (λ (t : List Row). t ++ last) before
    ∙ (append_assoc start (rows_of_first a imp (take p xs)) last
    ∙ ap (λ (t : List Row). start ++ t) (sym (rows_more a imp p xs o within (get_or_default xs p o d within)))))
