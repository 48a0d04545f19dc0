-- A list with one changed item is the list with that item set.
use Rattle.std.proofs.Common.{◌≡◌, ◌≢◌, ℕ, ◌<◌, List, map, length, set, get_or, Bool, true, false, cond, eqb, sym, ap, ◌∙◌, subst, refl, arith}
use Rattle.std.specs.List.{enumerate_from}
use Rattle.std.proofs.lemmas.List.{get_or-map, get_or-set_same, get_or-set_other, length-map, length-set, ext_get_or}
use Rattle.std.proofs.lemmas.List.FromFn.{length-enumerate_from, get_or-enumerate_from}
use Rattle.std.proofs.lemmas.Bool.{eqb-true, eqb-false}
use Rattle.adx_units.specs.Changed.{changed_at}

other_place : (i n : ℕ) → eqb i n ≡ false → i ≢ n
other_place i n e = λ same. eqb-false i n e same

at_item : {X : Type 0} (f : X → X) (n i : ℕ) (xs : List X) (d : X) (b : Bool) → eqb i n ≡ b → i < length xs → cond b (f (get_or xs i d)) (get_or xs i d) ≡ get_or (set xs n (f (get_or xs n d))) i d
at_item {X} f n i xs d true e h =
    let same : i ≡ n = eqb-true i n e in
    subst (λ (k : ℕ). f (get_or xs i d) ≡ get_or (set xs k (f (get_or xs k d))) i d) same (sym (get_or-set_same xs i (f (get_or xs i d)) d h))
at_item f n i xs d false e h = sym (get_or-set_other xs n i (f (get_or xs n d)) d (other_place i n e))

pub changed_at_is : {X : Type 0} (f : X → X) (n : ℕ) (xs : List X) (d : X) → changed_at f n xs ≡ set xs n (f (get_or xs n d))
changed_at_is {X} f n xs d =
    let g : ℕ × X → X = λ p. cond (eqb p.0 n) (f p.1) p.1 in
    let long : length (map g (enumerate_from 0 xs)) ≡ length xs = length-map (enumerate_from 0 xs) g ∙ length-enumerate_from 0 xs in
    ext_get_or d (map g (enumerate_from 0 xs)) (set xs n (f (get_or xs n d))) (long ∙ sym (length-set xs n (f (get_or xs n d))))
    (λ i below.
    let within : i < length xs = omega arith in
    let inner : i < length (enumerate_from 0 xs) = omega (arith, length-enumerate_from 0 xs) in
    get_or-map g (enumerate_from 0 xs) i (0, d) d inner
    ∙ (ap g (get_or-enumerate_from 0 xs i (0, d) within)
    ∙ (ap (λ (k : ℕ). g (k, get_or xs i d)) (omega arith)
    ∙ at_item f n i xs d (eqb i n) refl within)))
