-- The differences that were met, as lines; and the same for lists in another order.
use Rattle.std.proofs.Common.{◌≡◌, ◌∙◌, ℕ, List, [], ◌∷◌, ◌++◌, Bool, true, false, cond, eqb, not, refl, sym, ap, ap₂, append_assoc, append-nil}
use Rattle.std.specs.List.{flat_map}
use Rattle.std.specs.List.Sorted.{IsPermutation}
use Rattle.std.specs.Prelude.{codes, decimal}
use Rattle.std.proofs.lemmas.List.Concat.{flat_map-append}
use Rattle.std.proofs.lemmas.List.Sorted.{sum_by-IsPermutation}
use Rattle.command_reconcile.specs.Agreements.{Reconciles}
use Rattle.command_reconcile.specs.Differences.{AreDifferences, difference_line, is_same, number_of, price_of, sums_line}
use Rattle.command_reconcile.specs.Walks.{bill_names, difference_of, numbers_part}
use Rattle.command_reconcile.specs.declared.bill.Bill.{Bill}
use Rattle.command_reconcile.proofs.Sums.{reconciles}
use Rattle.command_reconcile.proofs.Walked.{grown}

-- four pieces that were written one behind the other
pub four : (start a b c d one two three now : List ℕ) → one ≡ start ++ a → two ≡ one ++ b → three ≡ two ++ c → now ≡ three ++ d → now ≡ start ++ (((a ++ b) ++ c) ++ d)
four start a b c d one two three now e f g h =
    h ∙ ap (λ (l : List ℕ). l ++ d) (g ∙ ap (λ (l : List ℕ). l ++ c) (f ∙ ap (λ (l : List ℕ). l ++ b) e)) ∙ (simp append_assoc)

joined : (a c n d m e : List ℕ) → a ++ ((((c ++ n) ++ d) ++ m) ++ e) ≡ ((((a ++ c) ++ n) ++ d) ++ m) ++ e
joined a c n d m e = simp append_assoc

-- the line of a bill with its numbers
line_is : (exchange bidder : List Bill) (p : Bill) → bill_names p ++ numbers_part (number_of p exchange) (number_of p bidder) ≡ difference_line exchange bidder p
line_is exchange bidder p =
    joined (bill_names p) (codes ",\"exchange\":") (decimal (number_of p exchange)) (codes ",\"bidder\":") (decimal (number_of p bidder)) (codes "}\n")

lines_by : (exchange bidder ds : List Bill) (p : Bill) (agree : Bool)
    → flat_map (difference_line exchange bidder) ds ++ cond agree [] (bill_names p ++ numbers_part (number_of p exchange) (number_of p bidder)) ≡ flat_map (difference_line exchange bidder) (grown agree p ds)
lines_by exchange bidder ds p true = append-nil (flat_map (difference_line exchange bidder) ds)
lines_by exchange bidder ds p false =
    ap (λ (l : List ℕ). flat_map (difference_line exchange bidder) ds ++ l) (line_is exchange bidder p ∙ sym (append-nil (difference_line exchange bidder p)))
    ∙ sym (flat_map-append (difference_line exchange bidder) ds (p ∷ []))

-- what was written for the first bill that is left
pub lines_step : (exchange bidder ds : List Bill) (p : Bill) (n m : ℕ) (before mid now : List ℕ) → n ≡ number_of p exchange → m ≡ number_of p bidder → mid ≡ before ++ flat_map (difference_line exchange bidder) ds → now ≡ mid ++ difference_of p n m
    → now ≡ before ++ flat_map (difference_line exchange bidder) (grown (eqb n m) p ds)
lines_step exchange bidder ds p n m before mid now ours theirs so_far more =
    more ∙ ap (λ (l : List ℕ). l ++ difference_of p n m) so_far
    ∙ append_assoc before (flat_map (difference_line exchange bidder) ds) (difference_of p n m)
    ∙ ap (λ (l : List ℕ). before ++ l) (
    ap₂ (λ (k l : ℕ). flat_map (difference_line exchange bidder) ds ++ cond (eqb n m) [] (bill_names p ++ numbers_part k l)) ours theirs
    ∙ lines_by exchange bidder ds p (eqb n m)
    )

-- bills in another order are as many, and come to as much
module _ (exchange bidder ours theirs : List Bill) (moved : IsPermutation exchange ours) (shifted : IsPermutation bidder theirs) where
  our_number : (b : Bill) → number_of b ours ≡ number_of b exchange
  our_number b = sum_by-IsPermutation (λ (x : Bill). cond (is_same b x) 1 0) exchange ours moved

  their_number : (b : Bill) → number_of b theirs ≡ number_of b bidder
  their_number b = sum_by-IsPermutation (λ (x : Bill). cond (is_same b x) 1 0) bidder theirs shifted

  same_line : (b : Bill) → difference_line ours theirs b ≡ difference_line exchange bidder b
  same_line b =
      sym (line_is ours theirs b) ∙ ap₂ (λ (n m : ℕ). bill_names b ++ numbers_part n m) (our_number b) (their_number b) ∙ line_is exchange bidder b

  same_lines : (ds : List Bill) → flat_map (difference_line ours theirs) ds ≡ flat_map (difference_line exchange bidder) ds
  same_lines [] = refl
  same_lines (d ∷ ds) = ap₂ (λ (a b : List ℕ). a ++ b) (same_line d) (same_lines ds)

  same_sums : sums_line ours theirs ≡ sums_line exchange bidder
  same_sums =
      ap₂ (λ (n m : ℕ). codes "{\"exchange\":" ++ decimal n ++ codes ",\"bidder\":" ++ decimal m ++ codes "}\n") (sum_by-IsPermutation price_of exchange ours moved) (sum_by-IsPermutation price_of bidder theirs shifted)

  pub reconciled : (before mid now : List ℕ) → ((ds : List Bill) × AreDifferences ours theirs ds × (mid ≡ before ++ flat_map (difference_line ours theirs) ds)) → now ≡ mid ++ sums_line ours theirs
      → (text : List ℕ) × (now ≡ before ++ text) × Reconciles exchange bidder text
  reconciled before mid now (ds, are, lines) sums = (
    flat_map (difference_line exchange bidder) ds ++ sums_line exchange bidder,
    sums ∙ ap (λ (l : List ℕ). l ++ sums_line ours theirs) lines ∙ append_assoc before (flat_map (difference_line ours theirs) ds) (sums_line ours theirs)
        ∙ ap₂ (λ (a b : List ℕ). before ++ (a ++ b)) (same_lines ds) same_sums,
    reconciles exchange bidder (flat_map (difference_line exchange bidder) ds ++ sums_line exchange bidder) (record {
      differences = ds;
      are_those = record { sorted = are.sorted; just = λ b. are.just b ∙ ap₂ (λ (n m : ℕ). not (eqb n m)) (our_number b) (their_number b) };
      spelled = refl;
    }),
  )
