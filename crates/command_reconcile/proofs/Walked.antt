-- A walk over the bills of two sides that are in order.
use Rattle.std.proofs.Common.{◌≡◌, ◌⊎◌, ◌∙◌, inl, inr, ℕ, ◌+◌, ◌<◌, length, List, [], ◌∷◌, ◌++◌, Bool, true, false, cond, not, ◌||◌, eqb, refl, sym, ap, ap₂, subst, arith}
use Rattle.std.specs.List.{AllByRecursion, list_any}
use Rattle.std.specs.List.Sorted.{IsStrictlySortedBy}
use Rattle.std.specs.declared.cmp.Ordering.TheVariants.{Less}
use Rattle.std.proofs.lemmas.List.Folds.{list_any-append}
use Rattle.command_reconcile.specs.Differences.{AreDifferences, bill_cmp, is_same, number_of}
use Rattle.command_reconcile.specs.Walks.{AreAfter, AreRising, BeginsWith, IsCut, IsDone, IsLeast, IsToCome, IsWalked}
use Rattle.command_reconcile.specs.declared.bill.Bill.{Bill}
use Rattle.command_reconcile.proofs.Order.{bill_total, same_alike, same_itself}
use Rattle.command_reconcile.proofs.Cuts.{none_after, number_cons}

all_push : {T : Type 0} (P : T → Type 0) (xs : List T) (x : T) → AllByRecursion P xs → P x → AllByRecursion P (xs ++ x ∷ [])
all_push P [] x all one = (one, tt)
all_push P (y ∷ xs) x all one = (all.0, all_push P xs x all.1 one)

all_weaker : {T : Type 0} (P Q : T → Type 0) → ((x : T) → P x → Q x) → (xs : List T) → AllByRecursion P xs → AllByRecursion Q xs
all_weaker P Q f [] all = tt
all_weaker P Q f (x ∷ xs) all = (f x all.0, all_weaker P Q f xs all.1)

sorted_push : (ds : List Bill) (p : Bill) → IsStrictlySortedBy bill_cmp ds → AllByRecursion (λ d. bill_cmp d p ≡ Less) ds → IsStrictlySortedBy bill_cmp (ds ++ p ∷ [])
unfolding IsStrictlySortedBy
sorted_push [] p sorted before = (tt, tt)
sorted_push (d ∷ ds) p sorted before = (all_push (λ x. bill_cmp d x ≡ Less) ds p sorted.0 before.0, sorted_push ds p sorted.1 before.1)

-- the same bills are as many, and stand in the same lists
number_alike : (b p : Bill) (xs : List Bill) → is_same b p ≡ true → number_of b xs ≡ number_of p xs
number_alike b p [] same = refl
number_alike b p (x ∷ xs) same =
    number_cons b x xs ∙ ap₂ (λ (t : Bool) (k : ℕ). cond t 1 0 + k) (same_alike b p x same) (number_alike b p xs same) ∙ sym (number_cons p x xs)

any_alike : (b p : Bill) (ds : List Bill) → is_same b p ≡ true → list_any (is_same b) ds ≡ list_any (is_same p) ds
any_alike b p [] same = refl
any_alike b p (d ∷ ds) same = ap₂ (λ (s t : Bool). s || t) (same_alike b p d same) (any_alike b p ds same)

-- the differences with a further bill, unless its numbers agree
abbrev pub grown : Bool → Bill → List Bill → List Bill
grown true p ds = ds
grown false p ds = ds ++ p ∷ []

all_grown : (P : Bill → Type 0) (agree : Bool) (p : Bill) (ds : List Bill) → AllByRecursion P ds → P p → AllByRecursion P (grown agree p ds)
all_grown P true p ds all one = all
all_grown P false p ds all one = all_push P ds p all one

sorted_grown : (agree : Bool) (p : Bill) (ds : List Bill) → IsStrictlySortedBy bill_cmp ds → AllByRecursion (λ d. bill_cmp d p ≡ Less) ds → IsStrictlySortedBy bill_cmp (grown agree p ds)
sorted_grown true p ds sorted before = sorted
sorted_grown false p ds sorted before = sorted_push ds p sorted before

-- whether a bill stands among them then
same_grown : (agree : Bool) (b p : Bill) (ds : List Bill) → is_same b p ≡ true → list_any (is_same b) ds ≡ false → list_any (is_same b) (grown agree p ds) ≡ not agree
same_grown true b p ds same none = none
same_grown false b p ds same none = list_any-append (is_same b) ds (p ∷ []) ∙ ap₂ (λ (s t : Bool). s || (t || false)) none same

other_grown : (agree : Bool) (b p : Bill) (ds : List Bill) → is_same b p ≡ false → list_any (is_same b) (grown agree p ds) ≡ list_any (is_same b) ds
other_grown true b p ds other = refl
other_grown false b p ds other = list_any-append (is_same b) ds (p ∷ []) ∙ ap (λ (t : Bool). list_any (is_same b) ds || (t || false)) other ∙ or_none (list_any (is_same b) ds)
  where
    or_none : (s : Bool) → (s || false) ≡ s
    or_none true = refl
    or_none false = refl

all_after : (d p : Bill) (rest : List Bill) → bill_cmp d p ≡ Less → AreAfter p rest → AreAfter d rest
all_after d p rest less after = all_weaker (λ x. bill_cmp p x ≡ Less) (λ x. bill_cmp d x ≡ Less) (λ x more. bill_total.trans d p x less more) rest after

module _ (exchange bidder : List Bill) where
  pub walk_start : AreRising exchange → AreRising bidder → IsWalked exchange bidder exchange bidder []
  unfolding IsStrictlySortedBy
  walk_start ours theirs = record {
    sorted = tt;
    before_exchange = tt;
    before_bidder = tt;
    rising_exchange = ours;
    rising_bidder = theirs;
    each = λ b. inr (record { all_exchange = refl; all_bidder = refl; untold = refl });
  }

  pub walk_end : (xs ys ds : List Bill) → xs ≡ [] → ys ≡ [] → IsWalked exchange bidder xs ys ds → AreDifferences exchange bidder ds
  walk_end xs ys ds none nil walked = record { sorted = walked.sorted; just = λ b. by b (walked.each b) }
    where
      by : (b : Bill) → IsDone b exchange bidder xs ys ds ⊎ IsToCome b exchange bidder xs ys ds → list_any (is_same b) ds ≡ not (eqb (number_of b exchange) (number_of b bidder))
      by b (inl done) = done.told
      by b (inr come) =
          let ours : 0 ≡ number_of b exchange = ap (number_of b) (sym none) ∙ come.all_exchange in
          let theirs : 0 ≡ number_of b bidder = ap (number_of b) (sym nil) ∙ come.all_bidder in
          come.untold ∙ ap₂ (λ (n m : ℕ). not (eqb n m)) ours theirs

  module _ (xs ys ds : List Bill) (walked : IsWalked exchange bidder xs ys ds) (p : Bill) (least : IsLeast p xs ys) where
    some : (bills : List Bill) → BeginsWith p bills → number_of p bills ≡ 0 → ⊥
    some bills begins none =
        let one : number_of p bills ≡ 1 + number_of p begins.0 =
        ap (number_of p) begins.1 ∙ number_cons p p begins.0 ∙ ap (λ (t : Bool). cond t 1 0 + number_of p begins.0) (same_itself p) in
        absurd (omega (arith, one, none))

    -- the first bill that is left was not walked over
    pub to_come : IsToCome p exchange bidder xs ys ds
    to_come = by (walked.each p) least.is_first
      where
        by : IsDone p exchange bidder xs ys ds ⊎ IsToCome p exchange bidder xs ys ds → BeginsWith p xs ⊎ BeginsWith p ys → IsToCome p exchange bidder xs ys ds
        by (inl done) (inl first) = absurd (some xs first done.none_exchange)
        by (inl done) (inr first) = absurd (some ys first done.none_bidder)
        by (inr come) first = come

    before_first : AllByRecursion (λ d. bill_cmp d p ≡ Less) ds
    before_first = by least.is_first
      where
        by : BeginsWith p xs ⊎ BeginsWith p ys → AllByRecursion (λ d. bill_cmp d p ≡ Less) ds
        by (inl first) = all_weaker (λ d. AreAfter d xs) (λ d. bill_cmp d p ≡ Less) (λ d after. (subst (AreAfter d) first.1 after).0) ds walked.before_exchange
        by (inr first) = all_weaker (λ d. AreAfter d ys) (λ d. bill_cmp d p ≡ Less) (λ d after. (subst (AreAfter d) first.1 after).0) ds walked.before_bidder

    module _ (xs_rest ys_rest : List Bill) (n m : ℕ) (ours : IsCut p xs xs_rest n) (theirs : IsCut p ys ys_rest m) where
      -- the numbers of the first bill that is left
      pub our_number : n ≡ number_of p exchange
      our_number = sym ours.number ∙ to_come.all_exchange

      pub their_number : m ≡ number_of p bidder
      their_number = sym theirs.number ∙ to_come.all_bidder

      -- the walk comes nearer to its end
      some_cut : (bills rest : List Bill) (k : ℕ) → BeginsWith p bills → IsCut p bills rest k → length rest < length bills
      some_cut bills rest k begins cut =
          let one : number_of p bills ≡ 1 + number_of p begins.0 =
          ap (number_of p) begins.1 ∙ number_cons p p begins.0 ∙ ap (λ (t : Bool). cond t 1 0 + number_of p begins.0) (same_itself p) in
          omega (arith, one, cut.number, cut.length)

      pub falls : length xs_rest + length ys_rest < length xs + length ys
      falls = by least.is_first
        where
          by : BeginsWith p xs ⊎ BeginsWith p ys → length xs_rest + length ys_rest < length xs + length ys
          by (inl first) = let less = some_cut xs xs_rest n first ours in omega (arith, less, theirs.length)
          by (inr first) = let less = some_cut ys ys_rest m first theirs in omega (arith, less, ours.length)

      done_same : (b : Bill) → is_same b p ≡ true → IsDone b exchange bidder xs_rest ys_rest (grown (eqb n m) p ds)
      done_same b same = record {
        none_exchange = number_alike b p xs_rest same ∙ none_after p xs_rest ours.behind;
        none_bidder = number_alike b p ys_rest same ∙ none_after p ys_rest theirs.behind;
        told =
            same_grown (eqb n m) b p ds same (any_alike b p ds same ∙ to_come.untold)
            ∙ ap₂ (λ (k l : ℕ). not (eqb k l)) (our_number ∙ sym (number_alike b p exchange same)) (their_number ∙ sym (number_alike b p bidder same));
      }

      as_before : (b : Bill) → is_same b p ≡ false → IsDone b exchange bidder xs ys ds ⊎ IsToCome b exchange bidder xs ys ds
          → IsDone b exchange bidder xs_rest ys_rest (grown (eqb n m) p ds) ⊎ IsToCome b exchange bidder xs_rest ys_rest (grown (eqb n m) p ds)
      as_before b other (inl done) = inl (record {
        none_exchange = ours.others b other ∙ done.none_exchange;
        none_bidder = theirs.others b other ∙ done.none_bidder;
        told = other_grown (eqb n m) b p ds other ∙ done.told;
      })
      as_before b other (inr come) = inr (record {
        all_exchange = ours.others b other ∙ come.all_exchange;
        all_bidder = theirs.others b other ∙ come.all_bidder;
        untold = other_grown (eqb n m) b p ds other ∙ come.untold;
      })

      each_step : (b : Bill) (t : Bool) → is_same b p ≡ t → IsDone b exchange bidder xs_rest ys_rest (grown (eqb n m) p ds) ⊎ IsToCome b exchange bidder xs_rest ys_rest (grown (eqb n m) p ds)
      each_step b true same = inl (done_same b same)
      each_step b false other = as_before b other (walked.each b)

      -- the walk behind the first bill that is left, and all bills that are the same
      pub walk_step : IsWalked exchange bidder xs_rest ys_rest (grown (eqb n m) p ds)
      walk_step = record {
        sorted = sorted_grown (eqb n m) p ds walked.sorted before_first;
        before_exchange = all_grown (λ d. AreAfter d xs_rest) (eqb n m) p ds (all_weaker (λ d. bill_cmp d p ≡ Less) (λ d. AreAfter d xs_rest) (λ d less. all_after d p xs_rest less ours.behind) ds before_first) ours.behind;
        before_bidder = all_grown (λ d. AreAfter d ys_rest) (eqb n m) p ds (all_weaker (λ d. bill_cmp d p ≡ Less) (λ d. AreAfter d ys_rest) (λ d less. all_after d p ys_rest less theirs.behind) ds before_first) theirs.behind;
        rising_exchange = ours.rising;
        rising_bidder = theirs.rising;
        each = λ b. each_step b (is_same b p) refl;
      }
