-- The order of bills: two bills are the same where it doesn't tell them apart.
use Rattle.std.proofs.Common.{◌≡◌, ◌∙◌, true, false, sym, ap}
use Rattle.std.specs.Prelude.{◌==◌}
use Rattle.std.specs.Cmp.{IsTotalOrder, Equal-is, both_tied, then_total, on_total, nat_cmp_total, unsigned_ties}
use Rattle.std.specs.Cmp.Lexicographic.{slice_cmp, nat_list_cmp_total, texts_ties}
use Rattle.std.specs.Ordering.{is_eq, nat_cmp}
use Rattle.std.specs.Str.{bytes_eq}
use Rattle.std.specs.declared.cmp.Ordering.TheVariants.{Less, Equal}
use Rattle.std.proofs.lemmas.Cmp.{tied_itself, alike_right}
use Rattle.command_reconcile.specs.Differences.{auction_of, bill_cmp, is_same, price_of}
use Rattle.command_reconcile.specs.declared.bill.Bill.{Bill}

pub bill_total : IsTotalOrder bill_cmp
bill_total = then_total (on_total auction_of nat_list_cmp_total) (on_total price_of nat_cmp_total)

-- bills are the same where the order doesn't tell them apart
pub same_is : (a b : Bill) → is_same a b ≡ is_eq (bill_cmp a b)
same_is a b =
    both_tied (bytes_eq a.auction b.auction) (a.price.0 == b.price.0) (slice_cmp nat_cmp a.auction b.auction) (nat_cmp a.price.0 b.price.0) (texts_ties a.auction b.auction) (unsigned_ties a.price.0 b.price.0)

tied : (a b : Bill) → is_same a b ≡ true → bill_cmp a b ≡ Equal
tied a b same = (Equal-is (bill_cmp a b)).0 (sym (same_is a b) ∙ same)

pub same_itself : (a : Bill) → is_same a a ≡ true
same_itself a = same_is a a ∙ ap is_eq (tied_itself bill_total a)

pub same_alike : (a b x : Bill) → is_same a b ≡ true → is_same a x ≡ is_same b x
same_alike a b x same = same_is a x ∙ ap is_eq (bill_total.congr a b x (tied a b same)) ∙ sym (same_is b x)

pub alike_same : (a b x : Bill) → is_same a b ≡ true → is_same x a ≡ is_same x b
alike_same a b x same = same_is x a ∙ ap is_eq (alike_right bill_total a b x (tied a b same)) ∙ sym (same_is x b)

pub apart : (a b : Bill) → bill_cmp a b ≡ Less → is_same a b ≡ false
apart a b less = same_is a b ∙ ap is_eq less
