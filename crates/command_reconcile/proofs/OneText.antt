-- Two lists of differences in order, in which the same bills stand, have the same lines.
use Rattle.std.proofs.Common.{◌≡◌, ◌∙◌, ℕ, List, [], ◌∷◌, ◌++◌, Bool, true, false, ◌||◌, refl, sym, ap, ap₂}
use Rattle.std.specs.List.{AllByRecursion, flat_map, list_any}
use Rattle.std.specs.List.Sorted.{IsStrictlySortedBy}
use Rattle.std.specs.Ordering.{is_eq, ordering_reverse}
use Rattle.std.specs.declared.cmp.Ordering.{Ordering}
use Rattle.std.specs.declared.cmp.Ordering.TheVariants.{Less, Equal, Greater}
use Rattle.std.proofs.lemmas.Bool.{false≢true}
use Rattle.command_reconcile.specs.Differences.{IsReconciliation, bill_cmp, difference_line, is_same, sums_line}
use Rattle.command_reconcile.specs.declared.bill.Bill.{Bill}
use Rattle.command_reconcile.proofs.SameBills.{alike_same, apart, bill_total, same_is, same_itself}
use Rattle.command_reconcile.proofs.Same.{any_alike, lines_same}

or_first : (s t : Bool) → s ≡ true → (s || t) ≡ true
or_first true t is = refl
or_first false t is = absurd (false≢true is)

or_second : (s t : Bool) → s ≡ false → (s || t) ≡ t
or_second true t is = absurd (false≢true (sym is))
or_second false t is = refl

-- a bill that all others come after isn't one of them
none_after : (b : Bill) (ds : List Bill) → AllByRecursion (λ x. bill_cmp b x ≡ Less) ds → list_any (is_same b) ds ≡ false
none_after b [] after = refl
none_after b (d ∷ ds) after = ap₂ (λ (s t : Bool). s || t) (apart b d after.0) (none_after b ds after.1)

later_all : (b d : Bill) (ds : List Bill) → bill_cmp b d ≡ Less → AllByRecursion (λ x. bill_cmp d x ≡ Less) ds → AllByRecursion (λ x. bill_cmp b x ≡ Less) ds
later_all b d [] less after = tt
later_all b d (x ∷ ds) less after = (bill_total.trans b d x less after.0, later_all b d ds less after.1)

first_any : (d : Bill) (ds : List Bill) → list_any (is_same d) (d ∷ ds) ≡ true
first_any d ds = or_first (is_same d d) (list_any (is_same d) ds) (same_itself d)

-- the bill before the first isn't one of them
not_before : (b e : Bill) (es : List Bill) → bill_cmp b e ≡ Less → AllByRecursion (λ x. bill_cmp e x ≡ Less) es → list_any (is_same b) (e ∷ es) ≡ true → ⊥
not_before b e es less after any =
    absurd (false≢true (sym (ap₂ (λ (s t : Bool). s || t) (apart b e less) (none_after b es (later_all b e es less after))) ∙ any))

-- the same bills stand in both
abbrev pub StandInBoth : List Bill → List Bill → Type 0
StandInBoth ds es = (b : Bill) → list_any (is_same b) ds ≡ list_any (is_same b) es

firsts_same : (d e : Bill) (ds es : List Bill) → AllByRecursion (λ x. bill_cmp d x ≡ Less) ds → AllByRecursion (λ x. bill_cmp e x ≡ Less) es → StandInBoth (d ∷ ds) (e ∷ es)
    → is_same d e ≡ true
firsts_same d e ds es ours theirs both = by (bill_cmp d e) refl
  where
    by : (o : Ordering) → bill_cmp d e ≡ o → is_same d e ≡ true
    by Less is = absurd (not_before d e es is theirs (sym (both d) ∙ first_any d ds))
    by Equal is = same_is d e ∙ ap is_eq is
    by Greater is = absurd (not_before e d ds (bill_total.antisymm e d ∙ ap ordering_reverse is) ours (both e ∙ first_any e es))

rest_both : (d e : Bill) (ds es : List Bill) → AllByRecursion (λ x. bill_cmp d x ≡ Less) ds → AllByRecursion (λ x. bill_cmp e x ≡ Less) es → is_same d e ≡ true → StandInBoth (d ∷ ds) (e ∷ es)
    → StandInBoth ds es
rest_both d e ds es ours theirs same both b = by (is_same b d) refl
  where
    by : (t : Bool) → is_same b d ≡ t → list_any (is_same b) ds ≡ list_any (is_same b) es
    by true is =
        any_alike b d ds is ∙ none_after d ds ours
        ∙ sym (any_alike b e es (sym (alike_same d e b same) ∙ is) ∙ none_after e es theirs)
    by false is =
        sym (or_second (is_same b d) (list_any (is_same b) ds) is)
        ∙ both b
        ∙ or_second (is_same b e) (list_any (is_same b) es) (sym (alike_same d e b same) ∙ is)

pub same_lines : (exchange bidder ds es : List Bill) → IsStrictlySortedBy bill_cmp ds → IsStrictlySortedBy bill_cmp es → StandInBoth ds es
    → flat_map (difference_line exchange bidder) ds ≡ flat_map (difference_line exchange bidder) es
unfolding IsStrictlySortedBy
same_lines exchange bidder [] [] ours theirs both = refl
same_lines exchange bidder [] (e ∷ es) ours theirs both = absurd (false≢true (both e ∙ first_any e es))
same_lines exchange bidder (d ∷ ds) [] ours theirs both = absurd (false≢true (sym (both d) ∙ first_any d ds))
same_lines exchange bidder (d ∷ ds) (e ∷ es) ours theirs both =
    let same : is_same d e ≡ true = firsts_same d e ds es ours.0 theirs.0 both in
    ap₂ (λ (a b : List ℕ). a ++ b) (lines_same exchange bidder d e same)
    (same_lines exchange bidder ds es ours.1 theirs.1 (rest_both d e ds es ours.0 theirs.0 same both))

pub one_text : (exchange bidder : List Bill) (out text : List ℕ) → IsReconciliation exchange bidder out → IsReconciliation exchange bidder text → out ≡ text
one_text exchange bidder out text ours theirs =
    ours.spelled
    ∙ ap (λ (l : List ℕ). l ++ sums_line exchange bidder)
    (same_lines exchange bidder ours.differences theirs.differences ours.are_those.sorted theirs.are_those.sorted (λ b. ours.are_those.just b ∙ sym (theirs.are_those.just b)))
    ∙ sym theirs.spelled
