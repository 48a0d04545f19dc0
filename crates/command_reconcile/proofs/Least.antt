-- Bills that were sorted, and the first of two lists.
use Rattle.std.proofs.Common.{◌≡◌, ◌∙◌, inl, inr, ℕ, suc, ◌≤◌, ◌<◌, List, [], ◌∷◌, length, get_or, false, refl, sym, ap, subst, arith}
use Rattle.std.specs.List.Sorted.{IsSortedBy}
use Rattle.std.specs.Ordering.{is_lt, ordering_reverse}
use Rattle.std.specs.declared.cmp.Ordering.TheVariants.{Less}
use Rattle.std.proofs.lemmas.List.Sorted.{ranks_by, sorted_far}
use Rattle.command_reconcile.specs.Differences.{bill_cmp}
use Rattle.command_reconcile.specs.Walks.{AreFrom, AreRising, BeginsWith, IsLeast, IsLesser}
use Rattle.command_reconcile.specs.declared.bill.Bill.{Bill}
use Rattle.command_reconcile.proofs.Order.{all_from, bill_total, from_itself}

from_by : (x : Bill) (xs : List Bill) → ((k : ℕ) → k < length xs → is_lt (bill_cmp (get_or xs k x) x) ≡ false) → AreFrom x xs
from_by x [] h = tt
from_by x (y ∷ ys) h = (h 0 (omega arith), from_by x ys (λ k low. h (suc k) (omega arith)))

rising_by : (xs : List Bill) → ((i j : ℕ) (d : Bill) → i ≤ j → j < length xs → is_lt (bill_cmp (get_or xs j d) (get_or xs i d)) ≡ false) → AreRising xs
rising_by [] h = tt
rising_by (x ∷ xs) h =
    (from_by x xs (λ k low. h 0 (suc k) x (omega arith) (omega arith)), rising_by xs (λ i j d le low. h (suc i) (suc j) d (omega arith) (omega arith)))

-- what was sorted is in order
pub rising_sorted : (xs : List Bill) → IsSortedBy (λ x y. is_lt (bill_cmp x y)) xs → AreRising xs
rising_sorted xs sorted = rising_by xs (sorted_far (λ x y. is_lt (bill_cmp x y)) (ranks_by bill_total (λ (x : Bill). x)) xs sorted)

-- the first of bills in order
pub first_is : (b : Bill) (rest bills : List Bill) → bills ≡ b ∷ rest → AreRising bills → BeginsWith b bills × AreFrom b bills
first_is b rest bills is rising =
    ((rest, is), subst (AreFrom b) (sym is) (from_itself b, (subst AreRising is rising).0))

-- where one is before the other, the other isn't
pub lesser_second : (a b : Bill) → bill_cmp b a ≡ Less → IsLesser a b b
lesser_second a b less = inr (refl, ap is_lt (bill_total.antisymm a b ∙ ap ordering_reverse less))

pub least_both : (a b c : Bill) (xs ys : List Bill) → BeginsWith a xs × AreFrom a xs → BeginsWith b ys × AreFrom b ys → IsLesser a b c → IsLeast c xs ys
least_both a b c xs ys ours theirs (inl (is, from)) =
    subst (λ (x : Bill). IsLeast x xs ys) (sym is) (record { is_first = inl ours.0; from_exchange = ours.1; from_bidder = all_from a b ys from theirs.1 })
least_both a b c xs ys ours theirs (inr (is, from)) =
    subst (λ (x : Bill). IsLeast x xs ys) (sym is) (record { is_first = inr theirs.0; from_exchange = all_from b a xs from ours.1; from_bidder = theirs.1 })
