-- A list of at most so many items, put together item by item.
use Rattle.std.proofs.Common.{◌≡◌, ℕ, zero, suc, ◌+◌, ◌<◌, ◌≤◌, List, [], ◌∷◌, ◌++◌, length, take, drop, get_or, refl, sym, ap, ◌∙◌, arith, append_assoc, append-nil, length-append}
use Rattle.std.specs.List.{enumerate_from, flat_map}
use Rattle.std.proofs.lemmas.List.{drop_all, drop_more, take_all, take-append-le, length-take}

module _ {A : Type 0} where
  capped : (n : ℕ) (xs ys : List A) → take n (take n xs ++ ys) ≡ take n (xs ++ ys)
  capped zero xs ys = refl
  capped (suc n) [] ys = refl
  capped (suc n) (x ∷ xs) ys = ap (λ zs. x ∷ zs) (capped n xs ys)

  -- no more behind what fits
  pub none_more : (n : ℕ) (xs : List A) → length xs ≤ n → xs ≡ take n (xs ++ [])
  none_more n xs few = sym (ap (take n) (append-nil xs) ∙ take_all n xs few)

  -- no more behind what is full
  pub full : (n : ℕ) (xs ys : List A) → length xs ≡ n → xs ≡ take n (xs ++ ys)
  full n xs ys all = sym (take-append-le n xs ys (omega arith) ∙ take_all n xs (omega arith))

  pub one_more : (n : ℕ) (xs : List A) (x : A) → length xs < n → xs ++ x ∷ [] ≡ take n (xs ++ x ∷ [])
  one_more n xs x few = sym (take_all n (xs ++ x ∷ []) (omega (arith, length-append xs (x ∷ []))))

  pub at_most : (n : ℕ) (xs ys : List A) → ys ≡ take n xs → length ys ≤ n
  at_most n xs ys is = omega (arith, ap (λ zs. length zs) is, length-take n xs)

  module _ {X : Type 0} (f : ℕ × X → List A) (n : ℕ) where
    -- what was put and what is left give the whole, also after one more item
    pub next_item : (xs : List X) (i : ℕ) (x : X) (before after whole : List A) → i < length xs → x ≡ get_or xs i x → after ≡ take n (before ++ f (i, x))
        → take n (before ++ flat_map f (enumerate_from i (drop i xs))) ≡ whole → take n (after ++ flat_map f (enumerate_from (i + 1) (drop (i + 1) xs))) ≡ whole
    next_item xs i x before after whole low is put h =
        let rest = flat_map f (enumerate_from (i + 1) (drop (i + 1) xs)) in
        let left : drop i xs ≡ x ∷ drop (i + 1) xs = drop_more xs i x low ∙ ap (λ y. y ∷ drop (i + 1) xs) (sym is) in
        ap (λ ys. take n (ys ++ rest)) put
        ∙ capped n (before ++ f (i, x)) rest
        ∙ ap (take n) (append_assoc before (f (i, x)) rest)
        ∙ sym (ap (λ ys. take n (before ++ flat_map f (enumerate_from i ys))) left)
        ∙ h

    -- behind the last item
    pub all_items : (xs : List X) (i : ℕ) (done whole : List A) → length xs ≤ i → length done ≤ n
        → take n (done ++ flat_map f (enumerate_from i (drop i xs))) ≡ whole → done ≡ whole
    all_items xs i done whole end few h =
        none_more n done few ∙ sym (ap (λ ys. take n (done ++ flat_map f (enumerate_from i ys))) (drop_all i xs end)) ∙ h

-- three items, one behind the other
pub three : {A : Type 0} (o x y z : List A) (a b c : A) → x ≡ o ++ a ∷ [] → y ≡ x ++ b ∷ [] → z ≡ y ++ c ∷ [] → z ≡ o ++ a ∷ b ∷ c ∷ []
three o x y z a b c ex ey ez =
    ez ∙ ap (λ l. l ++ c ∷ []) (ey ∙ ap (λ l. l ++ b ∷ []) ex) ∙ append_assoc (o ++ a ∷ []) (b ∷ []) (c ∷ []) ∙ append_assoc o (a ∷ []) (b ∷ c ∷ [])
