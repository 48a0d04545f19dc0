-- Lists in which each item is apart from every later one.
use Rattle.std.proofs.Common.{ℕ, zero, suc, ◌+◌, ◌<◌, ◌≤◌, List, [], ◌∷◌, ◌++◌, length, map, take, Bool, true, false, cond, arith, All}
use Rattle.std.specs.Prelude.{filter, ⊤}
use Rattle.std.specs.List.{enumerate_from, flat_map, range_with_len}
use Rattle.std.proofs.lemmas.List.Elements.{All-append, All-cons, All-filter, All-head, All-map, All-nil, All-tail, All-take, All-weaker}
use Rattle.two_books.specs.Settling.{Distinct}

pub distinct_append : {X : Type 0} (R : X → X → Type 0) (xs ys : List X) → Distinct R xs → Distinct R ys → All (λ x. All (R x) ys) xs → Distinct R (xs ++ ys)
distinct_append R [] ys h k cross = k
distinct_append R (x ∷ xs) ys h k cross = (
  All-append (R x) xs ys h.0 (All-head (λ z. All (R z) ys) x xs cross),
  distinct_append R xs ys h.1 k (All-tail (λ z. All (R z) ys) x xs cross),
)

pub distinct_map : {X Y : Type 0} (R : Y → Y → Type 0) (f : X → Y) (xs : List X) → Distinct (λ x z. R (f x) (f z)) xs → Distinct R (map f xs)
distinct_map R f [] h = tt
distinct_map R f (x ∷ xs) h = (All-map (R (f x)) f xs h.0, distinct_map R f xs h.1)

pub distinct_weaker : {X : Type 0} (R S : X → X → Type 0) → ((x z : X) → R x z → S x z) → (xs : List X) → Distinct R xs → Distinct S xs
distinct_weaker R S f [] h = tt
distinct_weaker R S f (x ∷ xs) h = (All-weaker (R x) (S x) (f x) xs h.0, distinct_weaker R S f xs h.1)

pub distinct_take : {X : Type 0} (R : X → X → Type 0) (n : ℕ) (xs : List X) → Distinct R xs → Distinct R (take n xs)
distinct_take R zero [] h = tt
distinct_take R zero (x ∷ xs) h = tt
distinct_take R (suc n) [] h = tt
distinct_take R (suc n) (x ∷ xs) h = (All-take (R x) n xs h.0, distinct_take R n xs h.1)

pub distinct_filter : {X : Type 0} (R : X → X → Type 0) (p : X → Bool) (xs : List X) → Distinct R xs → Distinct R (filter p xs)
distinct_filter R p [] h = tt
distinct_filter R p (x ∷ xs) h = by (p x) (distinct_filter R p xs h.1)
  where
    by : (t : Bool) → Distinct R (filter p xs) → Distinct R (cond t (x ∷ filter p xs) (filter p xs))
    by true rest = (All-filter p (R x) xs h.0, rest)
    by false rest = rest

-- ---- lists that are made key by key

-- the keys rise, from that one on
abbrev pub Rise : {K : Type 0} → (K → ℕ) → ℕ → List K → Type 0
Rise key n [] = ⊤
Rise key n (k ∷ ks) = (n ≤ key k) × Rise key (key k + 1) ks

module _ {K Y : Type 0} (R : Y → Y → Type 0) (Q : ℕ → Y → Type 0) (key : K → ℕ) (f : K → List Y)
    (apart : (i j : ℕ) (y z : Y) → Q i y → Q j z → i < j → R y z) where
  -- what is made of a key
  pub record IsOfKey (k : K) : Type 0 where
    pub each : All (Q (key k)) (f k)
    pub distinct : Distinct R (f k)

  -- an item of a later key
  abbrev Later : ℕ → Y → Type 0
  Later n z = (j : ℕ) × (n ≤ j) × Q j z

  all_later : (n : ℕ) (ks : List K) → Rise key n ks → All IsOfKey ks → All (Later n) (flat_map f ks)
  all_later n [] rise all = All-nil (Later n)
  all_later n (k ∷ ks) rise all =
      All-append (Later n) (f k) (flat_map f ks)
      (All-weaker (Q (key k)) (Later n) (λ z q. (key k, rise.0, q)) (f k) (IsOfKey.each (All-head IsOfKey k ks all)))
      (All-weaker (Later (key k + 1)) (Later n) (λ z l. (l.0, omega (arith, rise.0, l.1), l.2)) (flat_map f ks) (all_later (key k + 1) ks rise.1 (All-tail IsOfKey k ks all)))

  pub distinct_keys : (n : ℕ) (ks : List K) → Rise key n ks → All IsOfKey ks → Distinct R (flat_map f ks)
  distinct_keys n [] rise all = tt
  distinct_keys n (k ∷ ks) rise all =
      let one : IsOfKey k = All-head IsOfKey k ks all in
      let rest : All IsOfKey ks = All-tail IsOfKey k ks all in
      distinct_append R (f k) (flat_map f ks) one.distinct (distinct_keys (key k + 1) ks rise.1 rest)
      (All-weaker (Q (key k)) (λ y. All (R y) (flat_map f ks))
      (λ y q. All-weaker (Later (key k + 1)) (R y) (λ z l. apart (key k) l.0 y z q l.2 (omega (arith, l.1))) (flat_map f ks) (all_later (key k + 1) ks rise.1 rest))
      (f k) one.each)

pub places_rise : {X : Type 0} (n : ℕ) (xs : List X) → Rise (λ (p : ℕ × X). p.0) n (enumerate_from n xs)
places_rise n [] = tt
places_rise n (x ∷ xs) = (omega arith, places_rise (n + 1) xs)

pub range_rises : (n count : ℕ) → Rise (λ (k : ℕ). k) n (range_with_len n count)
range_rises n zero = tt
range_rises n (suc count) = (omega arith, range_rises (n + 1) count)

-- what holds of each item at its place
pub all_places : {X : Type 0} (P : ℕ × X → Type 0) (bound n : ℕ) (xs : List X) → n + length xs ≤ bound → ((k : ℕ) (x : X) → k < bound → P (k, x)) → All P (enumerate_from n xs)
all_places P bound n [] few each = All-nil P
all_places P bound n (x ∷ xs) few each = All-cons P (n, x) (enumerate_from (n + 1) xs) (each n x (omega (arith, few))) (all_places P bound (n + 1) xs (omega (arith, few)) each)
