-- Places in lists, and lists that begin others.
use Rattle.std.proofs.Common.{◌≡◌, ◌⊎◌, ℕ, ◌+◌, ◌<◌, ◌≤◌, zero, suc, eqb, leb, List, [], ◌∷◌, ◌++◌, length, sym, refl, ap, ◌∙◌, ⊎_elim, inl, inr, arith, eq-eqb, ne_eqb, length-append, append-nil, true, false}
use Rattle.std.proofs.lemmas.Bool.Decides.{leb_tells}
use Rattle.std.proofs.lemmas.List.{append_assoc}
use mathlib.Core.Logic.{dite}
use mathlib.Core.List.{IsPrefix}
use native.Mathlib.Decide.{ℕ_discrete, dec_le}
use Rattle.turnstile.specs.Places.{times, within, one_where}
use Rattle.turnstile.specs.Steps.{places}
use Rattle.turnstile.specs.Places.{longer}

module _ {A : Type 0} where
  pub prefix_refl : (xs : List A) → IsPrefix xs xs
  prefix_refl xs = ([], append-nil xs)

  pub prefix_on : (xs ys zs : List A) → IsPrefix xs ys → IsPrefix xs (ys ++ zs)
  prefix_on xs ys zs p = (p.0 ++ zs, sym (append_assoc xs p.0 zs) ∙ ap (λ (l : List A). l ++ zs) p.1)

  pub prefix_length : (xs ys : List A) → IsPrefix xs ys → length xs ≤ length ys
  prefix_length xs ys p = let a = length-append xs p.0 in let b = ap length p.1 in omega arith

  abbrev tail_or : List A → List A → List A
  tail_or d [] = d
  tail_or d (x ∷ xs) = xs

  abbrev head_or : A → List A → A
  head_or d [] = d
  head_or d (x ∷ xs) = x

  -- of two beginnings of one list the shorter begins the longer
  pub prefix_of_prefix : (xs ys zs : List A) → IsPrefix xs zs → IsPrefix ys zs → length xs ≤ length ys → IsPrefix xs ys
  prefix_of_prefix [] ys zs p q le = (ys, refl)
  prefix_of_prefix (x ∷ xs) [] zs p q le = absurd (omega arith)
  prefix_of_prefix (x ∷ xs) (y ∷ ys) [] p q le = absurd (let a = ap length p.1 in omega arith)
  prefix_of_prefix (x ∷ xs) (y ∷ ys) (z ∷ zs) p q le =
      let t = prefix_of_prefix xs ys zs (p.0, ap (tail_or []) p.1) (q.0, ap (tail_or []) q.1) (omega arith) in
      (t.0, λ k. (ap (head_or x) p.1 ∙ sym (ap (head_or x) q.1)) k ∷ t.1 k)

  pub prefix_whole : (xs ys : List A) → IsPrefix xs ys → length ys ≤ length xs → xs ≡ ys
  prefix_whole xs ys p le = go p.0 p.1
    where
      go : (rest : List A) → xs ++ rest ≡ ys → xs ≡ ys
      go [] e = sym (append-nil xs) ∙ e
      go (z ∷ zs) e = absurd (let a = length-append xs (z ∷ zs) in let b = ap length e in omega arith)

pub times_append : (p : ℕ) (xs ys : List ℕ) → times p (xs ++ ys) ≡ times p xs + times p ys
times_append p [] ys = omega arith
times_append p (x ∷ xs) ys = let e = times_append p xs ys in omega arith

abbrev Told : ℕ → ℕ → ℕ → Type 0
Told a b p = ((a ≤ p) × (p < b) × (within a b p ≡ 1)) ⊎ (((p < a) ⊎ (b ≤ p)) × (within a b p ≡ 0))

pub within_tells : (a b p : ℕ) → Told a b p
within_tells a b p = ⊎_elim
    (λ (l : (leb a p ≡ true) × (a ≤ p)). ⊎_elim (λ (m : (leb (suc p) b ≡ true) × (suc p ≤ b)). let x = m.1 in inl (l.1, omega arith, rw (l.0, m.0) refl))
    (λ (m : (leb (suc p) b ≡ false) × (b < suc p)). let x = m.1 in inr (inr (omega arith), rw (l.0, m.0) refl)) (leb_tells (suc p) b))
    (λ (l : (leb a p ≡ false) × (p < a)). inr (inl l.1, rw l.0 refl)) (leb_tells a p)

pub within_in : (a b p : ℕ) → a ≤ p → p < b → within a b p ≡ 1
within_in a b p le lt = ⊎_elim (λ (t : (a ≤ p) × (p < b) × (within a b p ≡ 1)). t.2)
    (λ (t : ((p < a) ⊎ (b ≤ p)) × (within a b p ≡ 0)). absurd (⊎_elim (λ (o : p < a). omega arith) (λ (o : b ≤ p). omega arith) t.0)) (within_tells a b p)

pub within_out : (a b p : ℕ) → (p < a) ⊎ (b ≤ p) → within a b p ≡ 0
within_out a b p out = ⊎_elim (λ (t : (a ≤ p) × (p < b) × (within a b p ≡ 1)). let x = t.0 in let y = t.1 in absurd (⊎_elim (λ (o : p < a). omega arith) (λ (o : b ≤ p). omega arith) out))
    (λ (t : ((p < a) ⊎ (b ≤ p)) × (within a b p ≡ 0)). t.1) (within_tells a b p)

pub within_one : (a b p : ℕ) → within a b p ≤ 1
within_one a b p = ⊎_elim (λ (t : (a ≤ p) × (p < b) × (within a b p ≡ 1)). let e = t.2 in omega arith)
    (λ (t : ((p < a) ⊎ (b ≤ p)) × (within a b p ≡ 0)). let e = t.1 in omega arith) (within_tells a b p)

-- the places from a to b, and those from b to c
pub within_on : (a b c p : ℕ) → a ≤ b → b ≤ c → within a b p + within b c p ≡ within a c p
within_on a b c p ab bc = dite (dec_le a p)
    (λ (l : a ≤ p). dite (dec_le b p)
    (λ (m : b ≤ p). dite (dec_le c p)
    (λ (n : c ≤ p). let x = within_out a b p (inr m) in let y = within_out b c p (inr n) in let z = within_out a c p (inr n) in omega arith)
    (λ n. let x = within_out a b p (inr m) in let y = within_in b c p m (omega arith) in let z = within_in a c p l (omega arith) in omega arith))
    (λ m. let x = within_in a b p l (omega arith) in let y = within_out b c p (inl (omega arith)) in let z = within_in a c p l (omega arith) in omega arith))
    (λ l. let x = within_out a b p (inl (omega arith)) in let y = within_out b c p (inl (omega arith)) in let z = within_out a c p (inl (omega arith)) in omega arith)

one_place : (n p : ℕ) → one_where (eqb n p) ≡ within n (n + 1) p
one_place n p = dite (ℕ_discrete n p) (λ (e : n ≡ p). ap one_where (eq-eqb n p e) ∙ sym (within_in n (n + 1) p (omega arith) (omega arith)))
    (λ ne. ap one_where (ne_eqb n p ne) ∙ sym (within_out n (n + 1) p (dite (dec_le p n) (λ (l : p ≤ n). inl (let x = ne in omega arith)) (λ l. inr (omega arith)))))

pub times_places : (p n k : ℕ) → times p (places n k) ≡ within n (n + k) p
times_places p n zero = sym (within_out n (n + 0) p (dite (dec_le n p) (λ (l : n ≤ p). inr (omega arith)) (λ l. inl (omega arith))))
times_places p n (suc k) =
    let a = times_places p (n + 1) k in let b = one_place n p in let c = within_on n (n + 1) (n + 1 + k) p (omega arith) (omega arith) in let d = ap (λ (m : ℕ). within n m p) (let g : n + 1 + k ≡ n + suc k = omega arith in g) in omega arith

module _ {A : Type 0} where
  -- one of two beginnings of one list is the longer
  pub longer_is : (xs ys : List A) → ((longer xs ys ≡ ys) × (length xs ≤ length ys)) ⊎ ((longer xs ys ≡ xs) × (length ys ≤ length xs))
  longer_is xs ys = ⊎_elim (λ (l : (leb (length xs) (length ys) ≡ true) × (length xs ≤ length ys)). inl (rw l.0 refl, l.1))
      (λ (l : (leb (length xs) (length ys) ≡ false) × (length ys < length xs)). let x = l.1 in inr (rw l.0 refl, omega arith)) (leb_tells (length xs) (length ys))
