-- Sums over lists, the place of the first of the greatest, and lists that a loop writes from the front.
use Rattle.std.proofs.Common.{◌≡◌, ◌≢◌, ◌⊎◌, ℕ, zero, suc, ◌+◌, ◌<◌, ◌≤◌, List, [], ◌∷◌, ◌++◌, map, length, filter, take, drop, set, get_or, Bool, true, false, cond, not, ◌&&◌, ◌||◌, leb, ltb, refl, sym, ap, ◌∙◌, subst, inl, inr, arith, Option, Some, None, is_none, IfSome}
use Rattle.std.specs.List.{All, sum_by, enumerate_from, list_all, position, position_or_len}
use Rattle.std.proofs.lemmas.List.Sums.{sum_by-cons, position_or_len_is, list_all-from_AllPass}
use Rattle.std.proofs.lemmas.List.Elements.{All-head, All-tail}
use Rattle.std.proofs.lemmas.List.FromFn.{length-enumerate_from, get_or-enumerate_from}
use Rattle.std.proofs.lemmas.List.Folds.{list_all_at}
use Rattle.std.proofs.lemmas.Bool.{cases_Bool, cond-true, cond-false, le-leb, lt-leb, and_from, and_left, and_right, or_right, or_left, cases_eq, lt-ltb, le-ltb, false≢true, not_from_true, not_from_false, both_ways, or_from, and_parts, ltb-true, ltb-false}
use Rattle.std.proofs.lemmas.List.{get_or_default, get_or-map, get_or-drop, take_more_set, take_more, take_all, drop-set-lt, drop-drop, length-map, length-set}
use Rattle.std.proofs.lemmas.List.Quantifiers.{position-Some}
use Rattle.allocator_core.specs.declared.best.Best.{Best}
use Rattle.allocator_core.specs.Passes.{best_with}

pub sum_by-same : {X : Type 0} (f g : X → ℕ) (xs : List X) → All (λ x. f x ≡ g x) xs → sum_by f xs ≡ sum_by g xs
sum_by-same f g [] h = refl
sum_by-same {X} f g (x ∷ xs) h =
    let e : f x ≡ g x = All-head (λ (y : X). f y ≡ g y) x xs h in
    let r : sum_by f xs ≡ sum_by g xs = sum_by-same f g xs (All-tail (λ (y : X). f y ≡ g y) x xs h) in
    omega (arith, sum_by-cons f x xs, sum_by-cons g x xs)

pub sum_by-none : {X : Type 0} (f : X → ℕ) (xs : List X) → ((x : X) → f x ≡ 0) → sum_by f xs ≡ 0
sum_by-none f [] h = refl
sum_by-none f (x ∷ xs) h = omega (arith, sum_by-cons f x xs, h x, sum_by-none f xs h)

pub sum_by-map : {X Y : Type 0} (f : Y → ℕ) (h : X → Y) (xs : List X) → sum_by f (map h xs) ≡ sum_by (λ x. f (h x)) xs
sum_by-map f h [] = refl
sum_by-map {X} f h (x ∷ xs) =
    let g = λ (y : X). f (h y) in
    omega (arith, sum_by-cons f (h x) (map h xs), sum_by-cons g x xs, sum_by-map f h xs)

sum_by-kept : {X : Type 0} (f : X → ℕ) (b : Bool) (x : X) (ys : List X) → sum_by f (cond b (x ∷ ys) ys) ≡ cond b (f x) 0 + sum_by f ys
sum_by-kept f true x ys = sum_by-cons f x ys
sum_by-kept f false x ys = omega arith

pub sum_by-filter : {X : Type 0} (f : X → ℕ) (p : X → Bool) (xs : List X) → sum_by f (filter p xs) ≡ sum_by (λ x. cond (p x) (f x) 0) xs
sum_by-filter f p [] = refl
sum_by-filter {X} f p (x ∷ xs) =
    let g = λ (y : X). cond (p y) (f y) 0 in
    let kept : sum_by f (filter p (x ∷ xs)) ≡ cond (p x) (f x) 0 + sum_by f (filter p xs) = sum_by-kept f (p x) x (filter p xs) in
    let all : sum_by g (x ∷ xs) ≡ g x + sum_by g xs = sum_by-cons g x xs in
    let rest : sum_by f (filter p xs) ≡ sum_by g xs = sum_by-filter f p xs in
    kept ∙ (ap (λ n. cond (p x) (f x) 0 + n) rest ∙ sym all)

pub sum_by-enumerate : {X : Type 0} (f g : ℕ × X → ℕ) (n : ℕ) (xs : List X) → ((k : ℕ) (d : X) → k < length xs → f (n + k, get_or xs k d) ≡ g (n + k, get_or xs k d)) → sum_by f (enumerate_from n xs) ≡ sum_by g (enumerate_from n xs)
sum_by-enumerate {X} f g n xs h =
    sum_by-same f g (enumerate_from n xs) (λ k d below.
    let within : k < length xs = omega (arith, length-enumerate_from n xs) in
    let e : get_or (enumerate_from n xs) k d ≡ (n + k, get_or xs k d.1) = get_or-enumerate_from n xs k d within in
    rw e (h k d.1 within))

-- a sum that only one element adds to
pub sum_by-one : {X : Type 0} (f : ℕ × X → ℕ) (n : ℕ) (xs : List X) (place : ℕ) (d : X) → place < length xs → ((k : ℕ) (e : X) → k < length xs → k ≢ place → f (n + k, get_or xs k e) ≡ 0) → sum_by f (enumerate_from n xs) ≡ f (n + place, get_or xs place d)
sum_by-one f n [] place d within others = absurd (omega arith)
sum_by-one {X} f n (x ∷ xs) zero d within others =
    let zero_of : ℕ × X → ℕ = λ p. 0 in
    let rest : sum_by f (enumerate_from (n + 1) xs) ≡ sum_by zero_of (enumerate_from (n + 1) xs) =
    sum_by-enumerate f zero_of (n + 1) xs (λ k e below.
    let h : f (n + suc k, get_or xs k e) ≡ 0 = others (suc k) e (omega arith) (omega arith) in
    let same : n + suc k ≡ n + 1 + k = omega arith in
    subst (λ (j : ℕ). f (j, get_or xs k e) ≡ 0) same h) in
    let first : f (n, x) ≡ f (n + 0, x) = ap (λ (j : ℕ). f (j, x)) (omega arith) in
    omega (arith, sum_by-cons f (n, x) (enumerate_from (n + 1) xs), sum_by-none zero_of (enumerate_from (n + 1) xs) (λ _. refl))
sum_by-one {X} f n (x ∷ xs) (suc place) d within others =
    let first : f (n + 0, x) ≡ 0 = others 0 x (omega arith) (omega arith) in
    let start : f (n, x) ≡ f (n + 0, x) = ap (λ (j : ℕ). f (j, x)) (omega arith) in
    let rest : sum_by f (enumerate_from (n + 1) xs) ≡ f (n + 1 + place, get_or xs place d) =
    sum_by-one f (n + 1) xs place d (omega arith) (λ k e below apart.
    let h : f (n + suc k, get_or xs k e) ≡ 0 = others (suc k) e (omega arith) (omega arith) in
    let same : n + suc k ≡ n + 1 + k = omega arith in
    subst (λ (j : ℕ). f (j, get_or xs k e) ≡ 0) same h) in
    let end : f (n + 1 + place, get_or xs place d) ≡ f (n + suc place, get_or xs place d) =
    ap (λ (j : ℕ). f (j, get_or xs place d)) (omega arith) in
    omega (arith, sum_by-cons f (n, x) (enumerate_from (n + 1) xs))

-- what competes and weighs no less than what competes
abbrev pub greatest : {X : Type 0} → (X → Bool) → (X → ℕ) → List X → X → Bool
greatest p w xs x = p x && list_all (λ y. not (p y) || leb (w y) (w x)) xs

-- the best place so far, of the first n, where one competes
pub record IsBest {X : Type 0} (p : X → Bool) (w : X → ℕ) (xs : List X) (n best : ℕ) : Type 0 where
  pub before : best < n
  pub competes : (d : X) → p (get_or xs best d) ≡ true
  pub most : (k : ℕ) (d : X) → k < n → p (get_or xs k d) ≡ true → w (get_or xs k d) ≤ w (get_or xs best d)
  pub first : (k : ℕ) (d : X) → k < best → p (get_or xs k d) ≡ true → w (get_or xs k d) < w (get_or xs best d)

abbrev pub NoneYet : {X : Type 0} → (X → Bool) → List X → ℕ → Type 0
NoneYet {X} p xs n = (k : ℕ) (d : X) → k < n → p (get_or xs k d) ≡ false

found_within : (n len i : ℕ) → n ≡ i → i < len → cond (ltb n len) (Some n) None ≡ Some i
found_within n len i e within =
    cond-true (ltb n len) (Some n) None (lt-ltb n len (omega arith)) ∙ ap (λ (k : ℕ). Some k) e

found_past : (n len : ℕ) → n ≡ len → cond (ltb n len) (Some n) None ≡ None
found_past n len e = cond-false (ltb n len) (Some n) None (le-ltb n len (omega arith))

-- the best place so far with its weight, or that none competes yet
unfoldable pub BestSoFar : {X : Type 0} → (X → Bool) → (X → ℕ) → List X → ℕ → Option ℕ → ℕ → Type 0
BestSoFar p w xs n None most = NoneYet p xs n
BestSoFar {X} p w xs n (Some best) most = IsBest p w xs n best × ((d : X) → most ≡ w (get_or xs best d))

position_at : {X : Type 0} (q : X → Bool) (xs : List X) (i : ℕ) (d : X) → i < length xs → ((k : ℕ) → k < i → q (get_or xs k d) ≡ false) → q (get_or xs i d) ≡ true → position q xs ≡ Some i
position_at {X} q xs i d within before here =
    let e : position_or_len q xs ≡ i = position_or_len_is q xs i d (omega arith) before (λ _. here) in
    found_within (position_or_len q xs) (length xs) i e within

position_none : {X : Type 0} (q : X → Bool) (xs : List X) (d : X) → ((k : ℕ) → k < length xs → q (get_or xs k d) ≡ false) → position q xs ≡ None
position_none q xs d all =
    let e : position_or_len q xs ≡ length xs = position_or_len_is q xs (length xs) d (omega arith) all (λ h. absurd (omega arith)) in
    found_past (position_or_len q xs) (length xs) e

pub greatest_none : {X : Type 0} (p : X → Bool) (w : X → ℕ) (xs : List X) (d : X) → NoneYet p xs (length xs) → position (greatest p w xs) xs ≡ None
greatest_none p w xs d none =
    position_none (greatest p w xs) xs d (λ k below. and_left (p (get_or xs k d)) _ (none k d below))

pub greatest_some : {X : Type 0} (p : X → Bool) (w : X → ℕ) (xs : List X) (best : ℕ) (d : X) → IsBest p w xs (length xs) best → position (greatest p w xs) xs ≡ Some best
greatest_some {X} p w xs best d is_best =
    let beaten = λ (x y : X). not (p y) || leb (w y) (w x) in
    let top : X = get_or xs best d in
    position_at (greatest p w xs) xs best d is_best.before
    (λ k below. elim (cases_Bool (p (get_or xs k d))) [
      | inl holds ↦
          let less : w (get_or xs k d) < w top = is_best.first k d below holds in
          let fails : beaten (get_or xs k d) top ≡ false =
          or_from (not (p top)) (leb (w top) (w (get_or xs k d))) (not_from_true (p top) (is_best.competes d)) (lt-leb (w top) (w (get_or xs k d)) less) in
          and_right (p (get_or xs k d)) _ (list_all_at (beaten (get_or xs k d)) xs best d is_best.before fails)
      | inr misses ↦ and_left (p (get_or xs k d)) _ misses
    ])
    (and_from (p top) _ (is_best.competes d)
    (list_all-from_AllPass (beaten top) xs (λ k e below. elim (cases_Bool (p (get_or xs k e))) [
      | inl holds ↦
          let most : w (get_or xs k e) ≤ w (get_or xs best e) = is_best.most k e below holds in
          let same : get_or xs best e ≡ top = get_or_default xs best e d is_best.before in
          or_right (not (p (get_or xs k e))) (leb (w (get_or xs k e)) (w top)) (le-leb (w (get_or xs k e)) (w top) (let e' : w (get_or xs best e) ≡ w top = ap w same in omega arith))
      | inr misses ↦ or_left (not (p (get_or xs k e))) _ (not_from_false (p (get_or xs k e)) misses)
    ])))

-- what is at the place that is found
pub greatest_found : {X : Type 0} (p : X → Bool) (w : X → ℕ) (xs : List X) (best : ℕ) (d : X) → position (greatest p w xs) xs ≡ Some best → (best < length xs) × (p (get_or xs best d) ≡ true)
greatest_found p w xs best d h =
    let found = position-Some (greatest p w xs) xs best d h in
    (found.0, (and_parts (p (get_or xs best d)) _ found.1).0)

-- a loop's steps
pub none_more : {X : Type 0} (p : X → Bool) (xs : List X) (i : ℕ) (d : X) → i < length xs → NoneYet p xs i → p (get_or xs i d) ≡ false → NoneYet p xs (i + 1)
none_more p xs i d within none misses = λ k e below. elim (cases_eq k i) [
  | inl same ↦ rw (same, get_or_default xs i e d within) misses
  | inr apart ↦ none k e (omega arith)
]

pub best_first : {X : Type 0} (p : X → Bool) (w : X → ℕ) (xs : List X) (i : ℕ) (d : X) → i < length xs → NoneYet p xs i → p (get_or xs i d) ≡ true → IsBest p w xs (i + 1) i
best_first p w xs i d within none holds = record {
  before = omega arith;
  competes = λ e. rw (get_or_default xs i e d within) holds;
  most = λ k e below here. elim (cases_eq k i) [
    | inl same ↦ let r : w (get_or xs k e) ≡ w (get_or xs i e) = ap (λ (j : ℕ). w (get_or xs j e)) same in omega arith
    | inr apart ↦ absurd (both_ways (p (get_or xs k e)) (none k e (omega arith)) here)
  ];
  first = λ k e below here. absurd (both_ways (p (get_or xs k e)) (none k e below) here);
}

pub best_keeps : {X : Type 0} (p : X → Bool) (w : X → ℕ) (xs : List X) (i best : ℕ) → IsBest p w xs i best → ((d : X) → p (get_or xs i d) ≡ true → w (get_or xs i d) ≤ w (get_or xs best d)) → IsBest p w xs (i + 1) best
best_keeps {X} p w xs i best is_best less = record {
  before = omega (arith, is_best.before);
  competes = is_best.competes;
  most = λ k e below here. elim (cases_eq k i) [
    | inl same ↦
        let holds : p (get_or xs i e) ≡ true = ap (λ (j : ℕ). p (get_or xs j e)) (sym same) ∙ here in
        let r : w (get_or xs k e) ≡ w (get_or xs i e) = ap (λ (j : ℕ). w (get_or xs j e)) same in
        let l = less e holds in
        omega arith
    | inr apart ↦ is_best.most k e (omega arith) here
  ];
  first = is_best.first;
}

pub best_takes : {X : Type 0} (p : X → Bool) (w : X → ℕ) (xs : List X) (i best : ℕ) (d : X) → i < length xs → IsBest p w xs i best → p (get_or xs i d) ≡ true → ((e : X) → w (get_or xs best e) < w (get_or xs i e)) → IsBest p w xs (i + 1) i
best_takes p w xs i best d within is_best holds more = record {
  before = omega arith;
  competes = λ e. rw (get_or_default xs i e d within) holds;
  most = λ k e below here. elim (cases_eq k i) [
    | inl same ↦ let r : w (get_or xs k e) ≡ w (get_or xs i e) = ap (λ (j : ℕ). w (get_or xs j e)) same in omega arith
    | inr apart ↦ let m = is_best.most k e (omega arith) here in let l = more e in omega arith
  ];
  first = λ k e below here. let m = is_best.most k e below here in let l = more e in omega arith;
}

-- a loop that keeps the best place so far
pub best_start : {X : Type 0} (p : X → Bool) (w : X → ℕ) (xs : List X) (most : ℕ) → BestSoFar p w xs 0 None most
unfolding BestSoFar
best_start p w xs most = λ k d below. absurd (omega arith)

pub best_skips : {X : Type 0} (p : X → Bool) (w : X → ℕ) (xs : List X) (i : ℕ) (best : Option ℕ) (most : ℕ) (x : X) → i < length xs → x ≡ get_or xs i x → BestSoFar p w xs i best most → p x ≡ false → BestSoFar p w xs (i + 1) best most
unfolding BestSoFar
best_skips p w xs i None most x within is so_far fails = none_more p xs i x within so_far (ap p (sym is) ∙ fails)
best_skips p w xs i (Some best) most x within is so_far fails = (
  best_keeps p w xs i best so_far.0 (λ d here.
      absurd (both_ways (p x) fails (ap p (is ∙ get_or_default xs i x d within) ∙ here))),
  so_far.1,
)

pub best_stays : {X : Type 0} (p : X → Bool) (w : X → ℕ) (xs : List X) (i : ℕ) (best : ℕ) (most : ℕ) (x : X) → i < length xs → x ≡ get_or xs i x → BestSoFar p w xs i (Some best) most → w x ≤ most → BestSoFar p w xs (i + 1) (Some best) most
unfolding BestSoFar
best_stays p w xs i best most x within is so_far less = (
  best_keeps p w xs i best so_far.0 (λ d here.
      let same : w x ≡ w (get_or xs i d) = ap w (is ∙ get_or_default xs i x d within) in
      let most_is = so_far.1 d in
      omega arith),
  so_far.1,
)

pub best_becomes : {X : Type 0} (p : X → Bool) (w : X → ℕ) (xs : List X) (i : ℕ) (best : Option ℕ) (most : ℕ) (x : X) → i < length xs → x ≡ get_or xs i x → BestSoFar p w xs i best most → p x ≡ true → (is_none best ≡ true) ⊎ (most < w x) → BestSoFar p w xs (i + 1) (Some i) (w x)
unfolding BestSoFar
best_becomes p w xs i None most x within is so_far holds more =
    (best_first p w xs i x within so_far (ap p (sym is) ∙ holds), λ d. ap w (is ∙ get_or_default xs i x d within))
best_becomes p w xs i (Some best) most x within is so_far holds (inl none) = absurd (false≢true none)
best_becomes p w xs i (Some best) most x within is so_far holds (inr more) = (
  best_takes p w xs i best x within so_far.0 (ap p (sym is) ∙ holds) (λ d.
      let same : w x ≡ w (get_or xs i d) = ap w (is ∙ get_or_default xs i x d within) in
      let most_is = so_far.1 d in
      omega arith),
  λ d. ap w (is ∙ get_or_default xs i x d within),
)

pub best_end : {X : Type 0} (p : X → Bool) (w : X → ℕ) (xs : List X) (i : ℕ) (best : Option ℕ) (most : ℕ) (d : X) → length xs ≡ i → BestSoFar p w xs i best most → position (greatest p w xs) xs ≡ best
unfolding BestSoFar
best_end p w xs i None most d end so_far =
    greatest_none p w xs d (λ k e below. so_far k e (omega arith))
best_end {X} p w xs i (Some best) most d end so_far =
    let P : ℕ → Type 0 = λ n. IsBest p w xs n best in
    greatest_some p w xs best d (subst P (sym end) so_far.0)

pub best_within : {X : Type 0} (p : X → Bool) (w : X → ℕ) (xs : List X) (i : ℕ) (best : Option ℕ) (most : ℕ) → i ≤ length xs → BestSoFar p w xs i best most → IfSome best (λ place. place < length xs)
unfolding BestSoFar
best_within p w xs i None most within so_far = tt
best_within p w xs i (Some best) most within so_far = let b = so_far.0.before in omega arith

-- a loop that considers one place after another
considered_some : {X : Type 0} (p : X → Bool) (w : X → ℕ) (xs : List X) (i : ℕ) (place : Option ℕ) (most : ℕ) (x : X) (t : Bool) → i < length xs → x ≡ get_or xs i x → BestSoFar p w xs i place most → p x ≡ true → (is_none place || ltb most (w x)) ≡ t → BestSoFar p w xs (i + 1) (cond t (Some i) place) (cond t (w x) most)
considered_some p w xs i None most x true within is so_far holds h = best_becomes p w xs i None most x within is so_far holds (inl refl)
considered_some p w xs i None most x false within is so_far holds h = absurd (false≢true (sym h))
considered_some p w xs i (Some best) most x true within is so_far holds h = best_becomes p w xs i (Some best) most x within is so_far holds (inr (ltb-true most (w x) h))
considered_some p w xs i (Some best) most x false within is so_far holds h = best_stays p w xs i best most x within is so_far (ltb-false most (w x) h)

best_place : (best : Best) (i v : ℕ) (t : Bool) → (is_none best.place || ltb best.weight v) ≡ t → (best_with best i (Some v)).place ≡ cond t (Some i) best.place
best_place best i v true h = ap (λ (b : Bool). (cond b (record { place = Some i; weight = v }) best).place) h
best_place best i v false h = ap (λ (b : Bool). (cond b (record { place = Some i; weight = v }) best).place) h

best_weight : (best : Best) (i v : ℕ) (t : Bool) → (is_none best.place || ltb best.weight v) ≡ t → (best_with best i (Some v)).weight ≡ cond t v best.weight
best_weight best i v true h = ap (λ (b : Bool). (cond b (record { place = Some i; weight = v }) best).weight) h
best_weight best i v false h = ap (λ (b : Bool). (cond b (record { place = Some i; weight = v }) best).weight) h

abbrev pub BestIs : {X : Type 0} → (X → Bool) → (X → ℕ) → List X → ℕ → Best → Type 0
BestIs p w xs n best = BestSoFar p w xs n best.place best.weight

pub best_considers : {X : Type 0} (p : X → Bool) (w : X → ℕ) (xs : List X) (i : ℕ) (best : Best) (x : X) (weight : Option ℕ) → i < length xs → x ≡ get_or xs i x → weight ≡ cond (p x) (Some (w x)) None → BestIs p w xs i best → BestIs p w xs (i + 1) (best_with best i weight)
best_considers {X} p w xs i best x weight within is weighs so_far = elim (cases_Bool (p x)) [
  | inl holds ↦
      let v : ℕ = w x in
      let t : Bool = is_none best.place || ltb best.weight v in
      let some : weight ≡ Some v = weighs ∙ cond-true (p x) (Some v) None holds in
      let new : BestSoFar p w xs (i + 1) (cond t (Some i) best.place) (cond t v best.weight) =
      considered_some p w xs i best.place best.weight x t within is so_far holds refl in
      let placed : BestSoFar p w xs (i + 1) (best_with best i (Some v)).place (cond t v best.weight) =
      subst (λ (o : Option ℕ). BestSoFar p w xs (i + 1) o (cond t v best.weight)) (sym (best_place best i v t refl)) new in
      let both : BestIs p w xs (i + 1) (best_with best i (Some v)) =
      subst (λ (m : ℕ). BestSoFar p w xs (i + 1) (best_with best i (Some v)).place m) (sym (best_weight best i v t refl)) placed in
      subst (λ (o : Option ℕ). BestIs p w xs (i + 1) (best_with best i o)) (sym some) both
  | inr fails ↦
      let none : weight ≡ None = weighs ∙ cond-false (p x) (Some (w x)) None fails in
      subst (λ (o : Option ℕ). BestIs p w xs (i + 1) (best_with best i o)) (sym none)
      (best_skips p w xs i best.place best.weight x within is so_far fails)
]

-- the same as a loop's answers cite it
pub best_begins : {X : Type 0} (p : X → Bool) (w : X → ℕ) (xs : List X) (best : Best) → best.place ≡ None → BestIs p w xs 0 best
best_begins p w xs best none = subst (λ (o : Option ℕ). BestSoFar p w xs 0 o best.weight) (sym none) (best_start p w xs best.weight)

pub best_goes_on : {X : Type 0} (p : X → Bool) (w : X → ℕ) (xs : List X) (i : ℕ) (best next : Best) (d : X) (weight : Option ℕ) → i < length xs → BestIs p w xs i best → weight ≡ cond (p (get_or xs i d)) (Some (w (get_or xs i d))) None → next ≡ best_with best i weight → BestIs p w xs (i + 1) next
best_goes_on {X} p w xs i best next d weight within so_far weighs is =
    subst (λ (b : Best). BestIs p w xs (i + 1) b) (sym is) (best_considers p w xs i best (get_or xs i d) weight within (get_or_default xs i d (get_or xs i d) within) weighs so_far)

-- there is always a best so far
pub best_exists : {X : Type 0} (p : X → Bool) (w : X → ℕ) (xs : List X) (d : X) (n : ℕ) → n ≤ length xs → (best : Best) × BestIs p w xs n best
best_exists p w xs d zero within = (record { place = None; weight = 0 }, best_start p w xs 0)
best_exists {X} p w xs d (suc n) within =
    let so_far : (best : Best) × BestIs p w xs n best = best_exists p w xs d n (omega arith) in
    let x : X = get_or xs n d in
    let weight : Option ℕ = cond (p x) (Some (w x)) None in
    let next : Best = best_with so_far.0 n weight in
    let new : BestIs p w xs (n + 1) next = best_considers p w xs n so_far.0 x weight (omega arith) (get_or_default xs n d x (omega arith)) refl so_far.1 in
    (next, subst (λ (k : ℕ). BestIs p w xs k next) (let e : n + 1 ≡ suc n = omega arith in e) new)

-- two elements that are equal, or neither of which competes
abbrev pub Alike : {X : Type 0} → (X → Bool) → X → X → Type 0
Alike p x y = (x ≡ y) ⊎ ((p x ≡ false) × (p y ≡ false))

alike_test : {X : Type 0} (p : X → Bool) (x y : X) → Alike p x y → p x ≡ p y
alike_test p x y (inl same) = ap p same
alike_test p x y (inr none) = none.0 ∙ sym none.1

alike_weight : {X : Type 0} (p : X → Bool) (w : X → ℕ) (x y : X) → Alike p x y → p y ≡ true → w x ≡ w y
alike_weight p w x y (inl same) holds = ap w same
alike_weight p w x y (inr none) holds = absurd (both_ways (p y) none.1 holds)

best_alike : {X : Type 0} (p : X → Bool) (w : X → ℕ) (xs ys : List X) (n : ℕ) (place : Option ℕ) (most : ℕ) → ((k : ℕ) (d : X) → k < n → Alike p (get_or xs k d) (get_or ys k d)) → BestSoFar p w xs n place most → BestSoFar p w ys n place most
unfolding BestSoFar
best_alike p w xs ys n None most alike none = λ k d below. sym (alike_test p (get_or xs k d) (get_or ys k d) (alike k d below)) ∙ none k d below
best_alike {X} p w xs ys n (Some best) most alike so_far =
    let h = so_far.0 in
    let holds : (d : X) → p (get_or ys best d) ≡ true = λ d. sym (alike_test p (get_or xs best d) (get_or ys best d) (alike best d h.before)) ∙ h.competes d in
    let top : (d : X) → w (get_or xs best d) ≡ w (get_or ys best d) = λ d. alike_weight p w (get_or xs best d) (get_or ys best d) (alike best d h.before) (holds d) in
    let here : (k : ℕ) (d : X) → k < n → p (get_or ys k d) ≡ true → p (get_or xs k d) ≡ true = λ k d below test. alike_test p (get_or xs k d) (get_or ys k d) (alike k d below) ∙ test in
    let same : (k : ℕ) (d : X) → k < n → p (get_or ys k d) ≡ true → w (get_or xs k d) ≡ w (get_or ys k d) = λ k d below test. alike_weight p w (get_or xs k d) (get_or ys k d) (alike k d below) test in (
      record {
        before = h.before;
        competes = holds;
        most = λ k d below test. let a = h.most k d below (here k d below test) in let b = same k d below test in let c = top d in omega arith;
        first = λ k d below test.
            let inside : k < n = omega (arith, h.before) in
            let a = h.first k d below (here k d inside test) in let b = same k d inside test in let c = top d in omega arith;
      },
      λ d. so_far.1 d ∙ top d,
    )

-- lists that are alike have the same first greatest
pub greatest_alike : {X : Type 0} (p : X → Bool) (w : X → ℕ) (xs ys : List X) (d : X) → length xs ≡ length ys → ((k : ℕ) (e : X) → k < length xs → Alike p (get_or xs k e) (get_or ys k e)) → position (greatest p w xs) xs ≡ position (greatest p w ys) ys
greatest_alike {X} p w xs ys d long alike =
    let best : (best : Best) × BestIs p w xs (length xs) best = best_exists p w xs d (length xs) (omega arith) in
    best_end p w xs (length xs) best.0.place best.0.weight d refl best.1
    ∙ sym (best_end p w ys (length xs) best.0.place best.0.weight d (sym long) (best_alike p w xs ys (length xs) best.0.place best.0.weight alike best.1))

-- a loop that writes one element after another from the front
pub record WrittenTo {X : Type 0} (f : X → X) (xs written : List X) (n : ℕ) : Type 0 where
  pub front : take n written ≡ take n (map f xs)
  pub rest : drop n written ≡ drop n xs
  pub long : length written ≡ length xs

pub written_none : {X : Type 0} (f : X → X) (xs : List X) → WrittenTo f xs xs 0
written_none f xs = record { front = refl; rest = refl; long = refl }

pub written_here : {X : Type 0} (f : X → X) (xs written : List X) (n : ℕ) (d : X) → WrittenTo f xs written n → get_or written n d ≡ get_or xs n d
written_here {X} f xs written n d h =
    let same : n + 0 ≡ n = omega arith in
    let one : get_or (drop n written) 0 d ≡ get_or written n d = get_or-drop n written 0 d ∙ ap (λ (k : ℕ). get_or written k d) same in
    let two : get_or (drop n xs) 0 d ≡ get_or xs n d = get_or-drop n xs 0 d ∙ ap (λ (k : ℕ). get_or xs k d) same in
    sym one ∙ (ap (λ (t : List X). get_or t 0 d) h.rest ∙ two)

pub written_more : {X : Type 0} (f : X → X) (xs written : List X) (n : ℕ) (x : X) → n < length xs → WrittenTo f xs written n → x ≡ get_or written n x → WrittenTo f xs (set written n (f x)) (n + 1)
written_more {X} f xs written n x within h is =
    let goal : List X = map f xs in
    let long : length written ≡ length xs = h.long in
    let here : n < length written = omega arith in
    let inside : n < length goal = omega (arith, length-map xs f) in
    let read : x ≡ get_or xs n x = is ∙ written_here f xs written n x h in
    let next : f x ≡ get_or goal n (f x) = ap f read ∙ sym (get_or-map f xs n x (f x) within) in
    record {
      front = take_more_set written n (f x) here
          ∙ (ap (λ (t : List X). t ++ f x ∷ []) h.front
          ∙ (ap (λ (y : X). take n goal ++ y ∷ []) next ∙ sym (take_more goal n (f x) inside)));
      rest = drop-set-lt (n + 1) written n (f x) (omega arith)
          ∙ (sym (drop-drop 1 n written) ∙ (ap (drop 1) h.rest ∙ drop-drop 1 n xs));
      long = length-set written n (f x) ∙ h.long;
    }

-- the same as a loop's answers cite it
pub written_goes_on : {X : Type 0} (f : X → X) (xs written : List X) (n : ℕ) (d y : X) → n < length xs → WrittenTo f xs written n → y ≡ f (get_or written n d) → WrittenTo f xs (set written n y) (n + 1)
written_goes_on {X} f xs written n d y within h is =
    let long : length written ≡ length xs = h.long in
    let x : X = get_or written n d in
    subst (λ (z : X). WrittenTo f xs (set written n z) (n + 1)) (sym is) (written_more f xs written n x within h (get_or_default written n d x (omega arith)))

pub written_all : {X : Type 0} (f : X → X) (xs written : List X) (n : ℕ) → length xs ≤ n → WrittenTo f xs written n → written ≡ map f xs
written_all f xs written n past h =
    let long : length written ≡ length xs = h.long in
    sym (take_all n written (omega arith))
    ∙ (h.front ∙ take_all n (map f xs) (omega (arith, length-map xs f)))
