-- All views but one stay as they are: what that makes of a fact on each, and of a sum over all.
use Rattle.std.proofs.Common.{◌≡◌, ◌≢◌, ℕ, ◌+◌, ◌≤◌, zero, suc, eqb, List, [], ◌∷◌, ◌++◌, set, sym, refl, ap, subst, ⊎_elim, arith, eq-eqb, ne_eqb}
use mathlib.Core.Option.{some, some-injective, some-ne-none}
use lib.ListN.{get_elem?}
use Rattle.atomic_table.proofs.Lists.{at_set, at_snoc}
use Rattle.turnstile.specs.Rule.{Each}
use Rattle.turnstile.specs.Places.{total}

module _ {V : Type 0} where
  -- what holds of each view holds after one has changed, where it stays for the others
  pub each_set : (P Q : ℕ → V → Type 0) (vs : List V) (i : ℕ) (w : V) → Each P vs → ((j : ℕ) (u : V) → j ≢ i → get_elem? vs j ≡ some u → P j u → Q j u) → Q i w → Each Q (set vs i w)
  each_set P Q vs i w each others mine j u e =
      ⊎_elim (λ (t : (j ≡ i) × (w ≡ u)). subst (λ (x : ℕ × V). Q x.0 x.1) (λ k. (sym t.0 k, t.1 k)) mine)
      (λ (t : (j ≢ i) × (get_elem? vs j ≡ some u)). others j u t.0 t.1 (each j u t.1)) (at_set vs i j w u e)

  pub each_snoc : (P Q : ℕ → V → Type 0) (vs : List V) (w : V) → Each P vs → ((j : ℕ) (u : V) → get_elem? vs j ≡ some u → P j u → Q j u) → ((j : ℕ) → Q j w) → Each Q (vs ++ w ∷ [])
  each_snoc P Q vs w each others new j u e =
      ⊎_elim (λ (t : get_elem? vs j ≡ some u). others j u t (each j u t)) (λ (t : w ≡ u). subst (Q j) t (new j)) (at_snoc vs w u j e)

  pub set_at : (vs : List V) (i : ℕ) (v w : V) → get_elem? vs i ≡ some v → get_elem? (set vs i w) i ≡ some w
  set_at [] i v w at = absurd (some-ne-none v (sym at))
  set_at (x ∷ xs) zero v w at = refl
  set_at (x ∷ xs) (suc i) v w at = set_at xs i v w at

  -- a sum after one view has changed
  pub total_set : (f : V → ℕ) (vs : List V) (i : ℕ) (v w : V) → get_elem? vs i ≡ some v → total f (set vs i w) + f v ≡ total f vs + f w
  total_set f [] i v w at = absurd (some-ne-none v (sym at))
  total_set f (x ∷ xs) zero v w at = let e = ap f (some-injective x v at) in omega arith
  total_set f (x ∷ xs) (suc i) v w at = let e = total_set f xs i v w at in omega arith

  pub total_same : (f : V → ℕ) (vs : List V) (i : ℕ) (v w : V) → get_elem? vs i ≡ some v → f w ≡ f v → total f (set vs i w) ≡ total f vs
  total_same f vs i v w at same = let e = total_set f vs i v w at in omega arith

  pub total_snoc : (f : V → ℕ) (vs : List V) (w : V) → total f (vs ++ w ∷ []) ≡ total f vs + f w
  total_snoc f [] w = omega arith
  total_snoc f (x ∷ xs) w = let e = total_snoc f xs w in omega arith

  pub total_one : (f : V → ℕ) (vs : List V) (i : ℕ) (v : V) → get_elem? vs i ≡ some v → f v ≤ total f vs
  total_one f [] i v at = absurd (some-ne-none v (sym at))
  total_one f (x ∷ xs) zero v at = let e = ap f (some-injective x v at) in omega arith
  total_one f (x ∷ xs) (suc i) v at = let e = total_one f xs i v at in omega arith

  -- two views weigh no more than all
  pub total_two : (f : V → ℕ) (vs : List V) (i j : ℕ) (v w : V) → j ≢ i → get_elem? vs i ≡ some v → get_elem? vs j ≡ some w → f v + f w ≤ total f vs
  total_two f [] i j v w ne at there = absurd (some-ne-none v (sym at))
  total_two f (x ∷ xs) zero zero v w ne at there = absurd (ne refl)
  total_two f (x ∷ xs) zero (suc j) v w ne at there = let e = ap f (some-injective x v at) in let o = total_one f xs j w there in omega arith
  total_two f (x ∷ xs) (suc i) zero v w ne at there = let e = ap f (some-injective x w there) in let o = total_one f xs i v at in omega arith
  total_two f (x ∷ xs) (suc i) (suc j) v w ne at there = let o = total_two f xs i j v w (λ e. ne (ap suc e)) at there in omega arith

  pub total_none : (f : V → ℕ) (vs : List V) → Each (λ j u. f u ≡ 0) vs → total f vs ≡ 0
  total_none f [] none = refl
  total_none f (x ∷ xs) none = let a = none zero x refl in let b = total_none f xs (λ j. none (suc j)) in omega arith

  -- where the others weigh nothing, all weigh what the one does
  pub total_alone : (f : V → ℕ) (vs : List V) (i : ℕ) (v : V) → get_elem? vs i ≡ some v → ((j : ℕ) (u : V) → j ≢ i → get_elem? vs j ≡ some u → f u ≡ 0) → total f vs ≡ f v
  total_alone f [] i v at others = absurd (some-ne-none v (sym at))
  total_alone f (x ∷ xs) zero v at others =
      let e = ap f (some-injective x v at) in let n = total_none f xs (λ j u a. others (suc j) u (λ z. omega arith) a) in omega arith
  total_alone f (x ∷ xs) (suc i) v at others =
      let a = others zero x (λ z. omega arith) refl in let n = total_alone f xs i v at (λ j u ne a. others (suc j) u (λ z. ne (omega arith)) a) in omega arith

  pub total_le : (f g : V → ℕ) (vs : List V) → Each (λ j u. f u ≤ g u) vs → total f vs ≤ total g vs
  total_le f g [] each = omega arith
  total_le f g (x ∷ xs) each = let a = each zero x refl in let b = total_le f g xs (λ j. each (suc j)) in omega arith

-- the function f, but x at i
abbrev pub put : (ℕ → ℕ) → ℕ → ℕ → ℕ → ℕ
put f i x j = Rattle.std.proofs.Common.if◌then◌else◌ (eqb j i) x (f j)

pub put_here : (f : ℕ → ℕ) (i x : ℕ) → put f i x i ≡ x
put_here f i x = rw (eq-eqb i i refl) refl

pub put_else : (f : ℕ → ℕ) (i x j : ℕ) → j ≢ i → put f i x j ≡ f j
put_else f i x j ne = rw (ne_eqb j i ne) refl
