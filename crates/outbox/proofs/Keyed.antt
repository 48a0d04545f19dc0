-- Lists of numbered items in order, and what is found at each number.
use Rattle.std.proofs.Common.{◌≡◌, ◌≢◌, ℕ, suc, ◌+◌, ◌-◌, ◌<◌, ◌≤◌, List, [], ◌∷◌, map, Bool, true, false, ◌&&◌, ◌||◌, cond, refl, sym, ap, ◌∙◌, subst, arith, Option, Some, None, ltb, eqb, eqb-true, inl, inr, ◌⊎◌, T, Less}
use Rattle.std.specs.Bool.{⊤}
use Rattle.std.specs.List.{filter, list_any, slice_get}
use Rattle.std.specs.List.Sorted.{IsStrictlySortedBy}
use Rattle.std.specs.Map.{keys_of, lookup}
use Rattle.std.specs.Option.{is_some, option_and_then, option_map_or}
use Rattle.std.specs.Ordering.{nat_cmp}
use Rattle.std.specs.BTreeMap.{is_at}
use Rattle.std.proofs.lemmas.Bool.{ne_eqb}
use Rattle.std.proofs.Math.Nat.{eq-or-lt_of_le}
use Rattle.std.proofs.lemmas.Bool.Decides.{nat_tests}
use Rattle.outbox.specs.Keeping.{due_numbers}

-- a number is found by itself
pub at_is : (n q : ℕ) → is_at (nat_cmp n) q ≡ eqb n q
at_is n q = grind (arith, nat_tests)

pub at_self : (n : ℕ) → is_at (nat_cmp n) n ≡ true
at_self n = grind (arith, nat_tests)

pub at_other : (n q : ℕ) → n ≢ q → is_at (nat_cmp n) q ≡ false
at_other n q apart = at_is n q ∙ ne_eqb n q apart

less_is : (n q : ℕ) → nat_cmp n q ≡ Less → n < q
less_is n q e = grind (arith, nat_tests)

-- the numbers ascend, from one on
abbrev pub Ascends : {X : Type 0} → ℕ → List (ℕ × X) → Type 0
Ascends n [] = ⊤
Ascends n (e ∷ es) = (n ≤ e.0) × Ascends (e.0 + 1) es

ascends_from : {X : Type 0} (n : ℕ) (e : ℕ × X) (es : List (ℕ × X)) → n ≤ e.0 → IsStrictlySortedBy nat_cmp (keys_of (e ∷ es)) → Ascends n (e ∷ es)
unfolding IsStrictlySortedBy
ascends_from n e [] within sorted = (within, tt)
ascends_from n e (f ∷ fs) within sorted =
    (within, ascends_from (e.0 + 1) f fs (omega (arith, less_is e.0 f.0 sorted.0.0)) sorted.1)

pub ascends : {X : Type 0} (es : List (ℕ × X)) → IsStrictlySortedBy nat_cmp (keys_of es) → Ascends 0 es
ascends [] sorted = tt
ascends (e ∷ es) sorted = ascends_from 0 e es (omega arith) sorted

found_here : {X : Type 0} (e : ℕ × X) (es : List (ℕ × X)) → lookup (is_at (nat_cmp e.0)) (e ∷ es) ≡ Some e.1
found_here e es = ap (λ (b : Bool). cond b (Some e.1) (lookup (is_at (nat_cmp e.0)) es)) (at_self e.0)

found_later : {X : Type 0} (q : ℕ) (e : ℕ × X) (es : List (ℕ × X)) → q ≢ e.0 → lookup (is_at (nat_cmp q)) (e ∷ es) ≡ lookup (is_at (nat_cmp q)) es
found_later q e es apart = ap (λ (b : Bool). cond b (Some e.1) (lookup (is_at (nat_cmp q)) es)) (at_other q e.0 apart)

pub missing : {X : Type 0} (n q : ℕ) (es : List (ℕ × X)) → Ascends n es → q < n → lookup (is_at (nat_cmp q)) es ≡ None
missing n q [] asc below = refl
missing n q (e ∷ es) asc below =
    found_later q e es (λ same. absurd (omega (arith, asc.0, same))) ∙ missing (e.0 + 1) q es asc.1 (omega (arith, asc.0))

-- items that some things give, numbered by their places
abbrev pub keyed : {X Y : Type 0} → (X → Option Y) → ℕ → List X → List (ℕ × Y)
keyed f n [] = []
keyed f n (x ∷ xs) = option_map_or (λ y. (n, y) ∷ keyed f (n + 1) xs) (f x) (keyed f (n + 1) xs)

get_behind : {X : Type 0} (n q : ℕ) (x : X) (xs : List X) → n + 1 ≤ q → slice_get (x ∷ xs) (q - n) ≡ slice_get xs (q - (n + 1))
get_behind n q x xs later =
    let e : q - n ≡ suc (q - (n + 1)) = omega arith in
    ap (slice_get (x ∷ xs)) e

get_first : {X : Type 0} (n : ℕ) (x : X) (xs : List X) → slice_get (x ∷ xs) (n - n) ≡ Some x
get_first n x xs = let e : n - n ≡ 0 = omega arith in ap (slice_get (x ∷ xs)) e

-- a test answers one of two
abbrev pub or-not : (b : Bool) → (b ≡ true) ⊎ (b ≡ false)
or-not true = inl refl
or-not false = inr refl

pub eqb-apart : (m n : ℕ) → m ≡ n → eqb m n ≡ false → ⊥
eqb-apart m n same other = grind (arith, nat_tests, same, other)

some_none : {X : Type 0} {Z : Type 0} (x : X) → Some x ≡ None → Z
some_none x e = absurd (subst (λ (o : Option _). T (is_some o)) e tt)

-- a list in order is that one where it has at each number what that has
pub keyed_is : {X Y : Type 0} (f : X → Option Y) (n : ℕ) (xs : List X) (es : List (ℕ × Y)) → Ascends n es → ((q : ℕ) → n ≤ q → lookup (is_at (nat_cmp q)) es ≡ option_and_then f (slice_get xs (q - n))) → es ≡ keyed f n xs
keyed_is f n [] [] asc h = refl
keyed_is f n [] (e ∷ es) asc h = some_none e.1 (sym (found_here e es) ∙ h e.0 asc.0)
keyed_is {X} {Y} f n (x ∷ xs) [] asc h =
    let none : f x ≡ None = sym (h n (omega arith) ∙ ap (option_and_then f) (get_first n x xs)) in
    keyed_is f (n + 1) xs [] tt (λ q later. h q (omega arith) ∙ ap (option_and_then f) (get_behind n q x xs later))
    ∙ sym (ap (λ (o : Option Y). option_map_or (λ y. (n, y) ∷ keyed f (n + 1) xs) o (keyed f (n + 1) xs)) none)
keyed_is {X} {Y} f n (x ∷ xs) (e ∷ es) asc h =
    elim (eq-or-lt_of_le asc.0) [
      | inl same ↦ (
          let at : e.0 - n ≡ 0 = omega (arith, same) in
          let here : Some e.1 ≡ f x = sym (found_here e es) ∙ (h e.0 asc.0 ∙ ap (λ k. option_and_then f (slice_get (x ∷ xs) k)) at) in
          let rest : es ≡ keyed f (n + 1) xs = keyed_is f (n + 1) xs es (subst (λ k. Ascends (k + 1) es) (sym same) asc.1) (λ q later. sym (found_later q e es (λ w. absurd (omega (arith, later, same, w)))) ∙ (h q (omega (arith, later)) ∙ ap (option_and_then f) (get_behind n q x xs later))) in
          ap (λ k. (k, e.1) ∷ es) (sym same)
          ∙ (ap (λ (t : List (ℕ × Y)). (n, e.1) ∷ t) rest
          ∙ ap (λ (o : Option Y). option_map_or (λ y. (n, y) ∷ keyed f (n + 1) xs) o (keyed f (n + 1) xs)) here)
          )
      | inr less ↦ (
          let none : f x ≡ None = sym (ap (option_and_then f) (get_first n x xs)) ∙ (sym (h n (omega arith)) ∙ missing (n + 1) n (e ∷ es) (omega (arith, less), asc.1) (omega arith)) in
          keyed_is f (n + 1) xs (e ∷ es) (omega (arith, less), asc.1) (λ q later. h q (omega (arith, later)) ∙ ap (option_and_then f) (get_behind n q x xs later))
          ∙ sym (ap (λ (o : Option Y). option_map_or (λ y. (n, y) ∷ keyed f (n + 1) xs) o (keyed f (n + 1) xs)) none)
          )
    ]

any_first : (test : ℕ → Bool) (t : Bool) (e : ℕ × ℕ) (es : List (ℕ × ℕ)) → list_any test (map (λ (p : ℕ × ℕ). p.0) (cond t (e ∷ es) es)) ≡ ((t && test e.0) || list_any test (map (λ (p : ℕ × ℕ). p.0) es))
any_first test true e es = refl
any_first test false e es = refl

and_true : (t : Bool) → ((t && true) || false) ≡ t
and_true true = refl
and_true false = refl

and_false : (t b : Bool) → ((t && false) || b) ≡ b
and_false true b = refl
and_false false b = refl

-- a number is due where its deadline is before the moment
pub due_has : (now q n : ℕ) (es : List (ℕ × ℕ)) → Ascends n es → list_any (λ m. is_at (nat_cmp m) q) (due_numbers now es) ≡ option_map_or (λ d. ltb d now) (lookup (is_at (nat_cmp q)) es) false
due_has now q n [] asc = refl
due_has now q n (e ∷ es) asc =
    let test : ℕ → Bool = λ m. is_at (nat_cmp m) q in
    let late : Option ℕ → Bool = λ o. option_map_or (λ d. ltb d now) o false in
    let more : list_any test (due_numbers now es) ≡ late (lookup (is_at (nat_cmp q)) es) = due_has now q (e.0 + 1) es asc.1 in
    let first : list_any test (due_numbers now (e ∷ es)) ≡ ((ltb e.1 now && test e.0) || list_any test (due_numbers now es)) = any_first test (ltb e.1 now) e (filter (λ (p : ℕ × ℕ). ltb p.1 now) es) in
    elim (or-not (eqb e.0 q)) [
      | inl same ↦ (
          let is : e.0 ≡ q = eqb-true e.0 q same in
          let none : late (lookup (is_at (nat_cmp q)) es) ≡ false = ap late (missing (e.0 + 1) q es asc.1 (omega (arith, is))) in
          first
          ∙ (ap (λ (b : Bool). (ltb e.1 now && b) || list_any test (due_numbers now es)) (at_is e.0 q ∙ same)
          ∙ (ap (λ (b : Bool). (ltb e.1 now && true) || b) (more ∙ none)
          ∙ (and_true (ltb e.1 now) ∙ ap late (sym (subst (λ k. lookup (is_at (nat_cmp k)) (e ∷ es) ≡ Some e.1) is (found_here e es))))))
          )
      | inr other ↦ (
          let apart : q ≢ e.0 = λ w. absurd (eqb-apart e.0 q (sym w) other) in
          first
          ∙ (ap (λ (b : Bool). (ltb e.1 now && b) || list_any test (due_numbers now es)) (at_is e.0 q ∙ other)
          ∙ (and_false (ltb e.1 now) (list_any test (due_numbers now es))
          ∙ (more ∙ ap late (sym (found_later q e es apart)))))
          )
    ]
