-- Lines that are written item by item.
use Rattle.std.proofs.Common.{◌≡◌, ℕ, ◌+◌, ◌<◌, ◌≤◌, List, ◌∷◌, ◌++◌, length, drop, get_or, sym, ap, ◌∙◌, append_assoc, append-nil}
use Rattle.std.specs.List.{enumerate_from, flat_map}
use Rattle.std.proofs.lemmas.List.{drop_all, drop_more}

module _ {X : Type 0} (f : ℕ × X → List ℕ) where
  -- what was written and what is left give the whole, also after one more item
  pub next_numbered : (xs : List X) (i : ℕ) (x : X) (before after whole : List ℕ) → i < length xs → x ≡ get_or xs i x → after ≡ before ++ f (i, x)
      → before ++ flat_map f (enumerate_from i (drop i xs)) ≡ whole → after ++ flat_map f (enumerate_from (i + 1) (drop (i + 1) xs)) ≡ whole
  next_numbered xs i x before after whole low is put h =
      let rest = flat_map f (enumerate_from (i + 1) (drop (i + 1) xs)) in
      let left : drop i xs ≡ x ∷ drop (i + 1) xs = drop_more xs i x low ∙ ap (λ y. y ∷ drop (i + 1) xs) (sym is) in
      ap (λ (ys : List ℕ). ys ++ rest) put
      ∙ append_assoc before (f (i, x)) rest
      ∙ sym (ap (λ (ys : List X). before ++ flat_map f (enumerate_from i ys)) left)
      ∙ h

  pub all_numbered : (xs : List X) (i : ℕ) (done whole : List ℕ) → length xs ≤ i → done ++ flat_map f (enumerate_from i (drop i xs)) ≡ whole → done ≡ whole
  all_numbered xs i done whole end h =
      sym (append-nil done) ∙ sym (ap (λ (ys : List X). done ++ flat_map f (enumerate_from i ys)) (drop_all i xs end)) ∙ h

module _ {X : Type 0} (f : X → List ℕ) where
  pub next_line : (xs : List X) (i : ℕ) (x : X) (before after whole : List ℕ) → i < length xs → x ≡ get_or xs i x → after ≡ before ++ f x
      → before ++ flat_map f (drop i xs) ≡ whole → after ++ flat_map f (drop (i + 1) xs) ≡ whole
  next_line xs i x before after whole low is put h =
      let rest = flat_map f (drop (i + 1) xs) in
      let left : drop i xs ≡ x ∷ drop (i + 1) xs = drop_more xs i x low ∙ ap (λ y. y ∷ drop (i + 1) xs) (sym is) in
      ap (λ (ys : List ℕ). ys ++ rest) put
      ∙ append_assoc before (f x) rest
      ∙ sym (ap (λ (ys : List X). before ++ flat_map f ys) left)
      ∙ h

  pub all_lines : (xs : List X) (i : ℕ) (done whole : List ℕ) → length xs ≤ i → done ++ flat_map f (drop i xs) ≡ whole → done ≡ whole
  all_lines xs i done whole end h = sym (append-nil done) ∙ sym (ap (λ (ys : List X). done ++ flat_map f ys) (drop_all i xs end)) ∙ h

-- four pieces, one after the other
pub four : (o a x b y p q r s : List ℕ) → p ≡ o ++ a → q ≡ p ++ x → r ≡ q ++ b → s ≡ r ++ y → s ≡ o ++ (a ++ x ++ b ++ y)
four o a x b y p q r s ep eq er es =
    es
    ∙ ap (λ (l : List ℕ). l ++ y) (er ∙ ap (λ (l : List ℕ). l ++ b) (eq ∙ ap (λ (l : List ℕ). l ++ x) ep))
    ∙ ap (λ (l : List ℕ). l ++ y) (ap (λ (l : List ℕ). l ++ b) (append_assoc o a x) ∙ append_assoc o (a ++ x) b)
    ∙ append_assoc o (a ++ x ++ b) y
