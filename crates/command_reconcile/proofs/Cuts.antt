-- The bills at the front of bills in order that are the same.
use Rattle.std.proofs.Common.{◌≡◌, ◌∙◌, ℕ, suc, ◌+◌, List, [], ◌∷◌, drop, Bool, true, false, cond, refl, sym, ap, subst, arith}
use Rattle.std.specs.List.{prefix_len}
use Rattle.std.specs.Ordering.{is_lt}
use Rattle.std.specs.declared.cmp.Ordering.TheVariants.{Less}
use Rattle.std.proofs.lemmas.List.Sums.{sum_by-cons}
use Rattle.command_reconcile.specs.Differences.{bill_cmp, is_same, number_of}
use Rattle.command_reconcile.specs.Walks.{AreAfter, AreFrom, AreRising, IsCut}
use Rattle.command_reconcile.specs.declared.bill.Bill.{Bill}
use Rattle.command_reconcile.proofs.Order.{all_later, apart, later_or_same, same_alike, same_back}

pub number_cons : (b x : Bill) (xs : List Bill) → number_of b (x ∷ xs) ≡ cond (is_same b x) 1 0 + number_of b xs
number_cons b x xs = sum_by-cons (λ (y : Bill). cond (is_same b y) 1 0) x xs

-- bills that come later are others
pub none_after : (b : Bill) (xs : List Bill) → AreAfter b xs → number_of b xs ≡ 0
none_after b [] after = refl
none_after b (x ∷ xs) after =
    let one : number_of b (x ∷ xs) ≡ 0 + number_of b xs = number_cons b x xs ∙ ap (λ (t : Bool). cond t 1 0 + number_of b xs) (apart b x after.0) in
    omega (arith, one, none_after b xs after.1)

module _ (p : Bill) where
  stays : (x : Bill) (xs : List Bill) → AreRising (x ∷ xs) → is_lt (bill_cmp x p) ≡ false → is_same p x ≡ false → IsCut p (x ∷ xs) (x ∷ xs) 0
  stays x xs rising from other =
      let first : bill_cmp p x ≡ Less = later_or_same p x from other in
      let after : AreAfter p (x ∷ xs) = (first, all_later p x xs first rising.0) in
      record { number = none_after p (x ∷ xs) after; length = omega arith; behind = after; rising = rising; others = λ b apart. refl }

  goes : (x : Bill) (xs rest : List Bill) (n : ℕ) → is_same p x ≡ true → IsCut p xs rest n → IsCut p (x ∷ xs) rest (1 + n)
  goes x xs rest n same cut =
      let one : number_of p (x ∷ xs) ≡ 1 + number_of p xs = number_cons p x xs ∙ ap (λ (t : Bool). cond t 1 0 + number_of p xs) same in record {
        number = omega (arith, one, cut.number);
        length = omega (arith, cut.length);
        behind = cut.behind;
        rising = cut.rising;
        others = λ b other.
            let none : number_of b (x ∷ xs) ≡ 0 + number_of b xs =
            number_cons b x xs ∙ ap (λ (t : Bool). cond t 1 0 + number_of b xs) (same_back b x ∙ sym (same_alike p x b same) ∙ same_back p b ∙ other) in
            omega (arith, cut.others b other, none);
      }

  pub cut : (xs : List Bill) → AreRising xs → AreFrom p xs → IsCut p xs (drop (prefix_len (is_same p) xs) xs) (prefix_len (is_same p) xs)
  cut [] rising from = record { number = refl; length = refl; behind = tt; rising = tt; others = λ b other. refl }
  cut (x ∷ xs) rising from = by (is_same p x) refl (cut xs rising.1 from.1)
    where
      by : (t : Bool) → is_same p x ≡ t → IsCut p xs (drop (prefix_len (is_same p) xs) xs) (prefix_len (is_same p) xs)
          → IsCut p (x ∷ xs) (drop (cond t (1 + prefix_len (is_same p) xs) 0) (x ∷ xs)) (cond t (1 + prefix_len (is_same p) xs) 0)
      by true same rest =
          let m : ℕ = prefix_len (is_same p) xs in
          let e : suc m ≡ 1 + m = omega arith in
          subst (λ (k : ℕ). IsCut p (x ∷ xs) (drop k (x ∷ xs)) (1 + m)) e (goes x xs (drop m xs) m same rest)
      by false other rest = stays x xs rising from.0 other
