-- Bills that are the same on both sides come to as much.
use Rattle.std.proofs.Common.{◌≡◌, ◌∙◌, ℕ, ◌+◌, ◌≤◌, List, [], ◌∷◌, Bool, true, false, cond, refl, sym, ap, subst, arith}
use Rattle.std.proofs.lemmas.List.Sums.{sum_by-cons}
use Rattle.command_reconcile.specs.Differences.{IsReconciliation, is_same, number_of, price_of, sum_of}
use Rattle.command_reconcile.specs.declared.bill.Bill.{Bill}
use Rattle.command_reconcile.proofs.SameBills.{alike_same, same_itself}
use Rattle.command_reconcile.specs.Agreements.{HaveSameBills, Reconciles}
use Rattle.command_reconcile.proofs.Same.{number_cons, prices_same}
use Rattle.command_reconcile.proofs.Agreed.{agree_alone, alone_told}
use Rattle.command_reconcile.proofs.OneText.{one_text}

-- bills with the first that is the same as that one taken away
abbrev pub taken : Bool → Bill → List Bill → List Bill → List Bill
taken true y ys rest = ys
taken false y ys rest = y ∷ rest

abbrev pub without : Bill → List Bill → List Bill
without x [] = []
without x (y ∷ ys) = taken (is_same x y) y ys (without x ys)

sum_cons : (x : Bill) (xs : List Bill) → sum_of (x ∷ xs) ≡ price_of x + sum_of xs
sum_cons x xs = sum_by-cons price_of x xs

-- some bill of them is the same, and without it there is one fewer of its kind
pub record IsTakenFrom (x : Bill) (ys rest : List Bill) : Type 0 where
  pub sums : sum_of ys ≡ price_of x + sum_of rest
  pub number : (b : Bill) → number_of b ys ≡ cond (is_same b x) 1 0 + number_of b rest

take_first : (x y : Bill) (ys : List Bill) → is_same x y ≡ true → IsTakenFrom x (y ∷ ys) ys
take_first x y ys same = record {
  sums = sum_cons y ys ∙ ap (λ (p : ℕ). p + sum_of ys) (sym (prices_same x y same));
  number = λ b. number_cons b y ys ∙ ap (λ (t : Bool). cond t 1 0 + number_of b ys) (sym (alike_same x y b same));
}

take_later : (x y : Bill) (ys rest : List Bill) → IsTakenFrom x ys rest → IsTakenFrom x (y ∷ ys) (y ∷ rest)
take_later x y ys rest from = record {
  sums = omega (arith, sum_cons y ys, sum_cons y rest, from.sums);
  number = λ b. omega (arith, number_cons b y ys, number_cons b y rest, from.number b);
}

take_one : (x : Bill) (ys : List Bill) → 1 ≤ number_of x ys → IsTakenFrom x ys (without x ys)
take_one x [] some = absurd (omega (arith, some))
take_one x (y ∷ ys) some = by (is_same x y) refl (take_one x ys)
  where
    by : (t : Bool) → is_same x y ≡ t → (1 ≤ number_of x ys → IsTakenFrom x ys (without x ys)) → IsTakenFrom x (y ∷ ys) (taken t y ys (without x ys))
    by true same more = take_first x y ys same
    by false other more =
        let none : number_of x (y ∷ ys) ≡ 0 + number_of x ys = number_cons x y ys ∙ ap (λ (t : Bool). cond t 1 0 + number_of x ys) other in
        take_later x y ys (without x ys) (more (omega (arith, some, none)))

no_bills : (ys : List Bill) → ((b : Bill) → number_of b ys ≡ 0) → sum_of ys ≡ 0
no_bills [] none = refl
no_bills (y ∷ ys) none =
    let one : number_of y (y ∷ ys) ≡ 1 + number_of y ys = number_cons y y ys ∙ ap (λ (t : Bool). cond t 1 0 + number_of y ys) (same_itself y) in
    absurd (omega (arith, one, none y))

pub equal_sums : (exchange bidder : List Bill) → HaveSameBills exchange bidder → sum_of exchange ≡ sum_of bidder
equal_sums [] bidder same = sym (no_bills bidder (λ b. sym (same b)))
equal_sums (x ∷ xs) bidder same =
    let one : number_of x (x ∷ xs) ≡ 1 + number_of x xs = number_cons x x xs ∙ ap (λ (t : Bool). cond t 1 0 + number_of x xs) (same_itself x) in
    let from : IsTakenFrom x bidder (without x bidder) = take_one x bidder (omega (arith, one, same x)) in
    let rest : sum_of xs ≡ sum_of (without x bidder) = equal_sums xs (without x bidder) (λ b. omega (arith, same b, number_cons b x xs, from.number b)) in
    omega (arith, sum_cons x xs, from.sums, rest)

-- what a reconciliation says
pub reconciles : (exchange bidder : List Bill) (out : List ℕ) → IsReconciliation exchange bidder out → Reconciles exchange bidder out
reconciles exchange bidder out is = record {
  written = is;
  one = λ text other. one_text exchange bidder text out other is;
  alone = λ same. alone_told exchange bidder out same is;
  agree = λ sums. agree_alone exchange bidder (subst (IsReconciliation exchange bidder) sums is);
  equal = equal_sums exchange bidder;
}
