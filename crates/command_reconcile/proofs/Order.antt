-- The order of bills: by it two bills are the same, or one is before the other.
use Rattle.std.proofs.Common.{◌≡◌, ◌∙◌, List, [], ◌∷◌, true, false, refl, sym, ap}
use Rattle.std.specs.Prelude.{◌==◌}
use Rattle.std.specs.Cmp.{IsTotalOrder, Equal-is, both_tied, then_total, on_total, nat_cmp_total, unsigned_ties}
use Rattle.std.specs.Cmp.Lexicographic.{slice_cmp, nat_list_cmp_total, texts_ties}
use Rattle.std.specs.Ordering.{is_eq, is_lt, nat_cmp, ordering_reverse}
use Rattle.std.specs.Str.{bytes_eq}
use Rattle.std.specs.declared.cmp.Ordering.{Ordering}
use Rattle.std.specs.declared.cmp.Ordering.TheVariants.{Less, Equal, Greater}
use Rattle.std.proofs.lemmas.Bool.{false≢true}
use Rattle.std.proofs.lemmas.Cmp.{tied_itself, alike_right}
use Rattle.command_reconcile.specs.Differences.{auction_of, bill_cmp, is_same, price_of}
use Rattle.command_reconcile.specs.Walks.{AreAfter, AreFrom}
use Rattle.command_reconcile.specs.declared.bill.Bill.{Bill}

pub bill_total : IsTotalOrder bill_cmp
bill_total = then_total (on_total auction_of nat_list_cmp_total) (on_total price_of nat_cmp_total)

-- bills are the same where the order doesn't tell them apart
pub same_is : (a b : Bill) → is_same a b ≡ is_eq (bill_cmp a b)
same_is a b =
    both_tied (bytes_eq a.auction b.auction) (a.price.0 == b.price.0) (slice_cmp nat_cmp a.auction b.auction) (nat_cmp a.price.0 b.price.0) (texts_ties a.auction b.auction) (unsigned_ties a.price.0 b.price.0)

tied : (a b : Bill) → is_same a b ≡ true → bill_cmp a b ≡ Equal
tied a b same = (Equal-is (bill_cmp a b)).0 (sym (same_is a b) ∙ same)

pub same_itself : (a : Bill) → is_same a a ≡ true
same_itself a = same_is a a ∙ ap is_eq (tied_itself bill_total a)

pub same_alike : (a b x : Bill) → is_same a b ≡ true → is_same a x ≡ is_same b x
same_alike a b x same = same_is a x ∙ ap is_eq (bill_total.congr a b x (tied a b same)) ∙ sym (same_is b x)

pub alike_same : (a b x : Bill) → is_same a b ≡ true → is_same x a ≡ is_same x b
alike_same a b x same = same_is x a ∙ ap is_eq (alike_right bill_total a b x (tied a b same)) ∙ sym (same_is x b)

reversed_eq : (o : Ordering) → is_eq (ordering_reverse o) ≡ is_eq o
reversed_eq Less = refl
reversed_eq Equal = refl
reversed_eq Greater = refl

pub same_back : (a b : Bill) → is_same a b ≡ is_same b a
same_back a b = same_is a b ∙ ap is_eq (bill_total.antisymm a b) ∙ reversed_eq (bill_cmp b a) ∙ sym (same_is b a)

pub apart : (a b : Bill) → bill_cmp a b ≡ Less → is_same a b ≡ false
apart a b less = same_is a b ∙ ap is_eq less

-- what isn't before a bill that comes later comes later too
pub later : (p x y : Bill) → bill_cmp p x ≡ Less → is_lt (bill_cmp y x) ≡ false → bill_cmp p y ≡ Less
later p x y less from = by (bill_cmp x y) refl
  where
    by : (o : Ordering) → bill_cmp x y ≡ o → bill_cmp p y ≡ Less
    by Less e = bill_total.trans p x y less e
    by Equal e = sym (alike_right bill_total x y p e) ∙ less
    by Greater e = absurd (false≢true (sym from ∙ ap is_lt (bill_total.antisymm y x ∙ ap ordering_reverse e)))

-- a bill that isn't before another comes later, or is the same
pub later_or_same : (p x : Bill) → is_lt (bill_cmp x p) ≡ false → is_same p x ≡ false → bill_cmp p x ≡ Less
later_or_same p x from other = by (bill_cmp p x) refl
  where
    by : (o : Ordering) → bill_cmp p x ≡ o → bill_cmp p x ≡ Less
    by Less e = e
    by Equal e = absurd (false≢true (sym other ∙ same_is p x ∙ ap is_eq e))
    by Greater e = absurd (false≢true (sym from ∙ ap is_lt (bill_total.antisymm x p ∙ ap ordering_reverse e)))

pub all_later : (p x : Bill) (xs : List Bill) → bill_cmp p x ≡ Less → AreFrom x xs → AreAfter p xs
all_later p x [] less from = tt
all_later p x (y ∷ xs) less from = (later p x y less from.0, all_later p x xs less from.1)

-- none before a bill that another isn't before is before that one
pub from_first : (b x y : Bill) → is_lt (bill_cmp x b) ≡ false → is_lt (bill_cmp y x) ≡ false → is_lt (bill_cmp y b) ≡ false
from_first b x y one two = by (bill_cmp y b) refl
  where
    by : (o : Ordering) → bill_cmp y b ≡ o → is_lt (bill_cmp y b) ≡ false
    by Less e = absurd (false≢true (sym two ∙ ap is_lt (next (bill_cmp b x) refl)))
      where
        next : (o : Ordering) → bill_cmp b x ≡ o → bill_cmp y x ≡ Less
        next Less f = bill_total.trans y b x e f
        next Equal f = sym (alike_right bill_total b x y f) ∙ e
        next Greater f = absurd (false≢true (sym one ∙ ap is_lt (bill_total.antisymm x b ∙ ap ordering_reverse f)))
    by Equal e = ap is_lt e
    by Greater e = ap is_lt e

pub all_from : (b x : Bill) (xs : List Bill) → is_lt (bill_cmp x b) ≡ false → AreFrom x xs → AreFrom b xs
all_from b x [] one rest = tt
all_from b x (y ∷ xs) one rest = (from_first b x y one rest.0, all_from b x xs one rest.1)

pub from_itself : (b : Bill) → is_lt (bill_cmp b b) ≡ false
from_itself b = ap is_lt (tied_itself bill_total b)
