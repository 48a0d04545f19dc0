use Rattle.std.proofs.Common.{◌≡◌, ℕ, ◌+◌, ◌*◌, ◌<◌, ◌≤◌, ap, ◌∙◌, subst, sym, get_or}
use Rattle.campaign_book.specs.declared.table.TheConstants.{DISCOUNTS}
use Rattle.campaign_book.specs.Discount.{decline, discount, full_discount}
use Rattle.campaign_book.proofs.Slabs.{at_slab, bounded, covers_next, discount-zero, never_rises_next, positive, used_up}
use Rattle.campaign_book.proofs.table.discount.Goals as goal

pub returns : goal.returns
returns c =
    let read : get_or DISCOUNTS c.from.result 0 ≡ discount c.args.slab = at_slab c.from.result c.args.slab c.from.ensures c.requires in
    let back = sym read in
    record {
      value = read;
      covers = subst (λ (n : ℕ). 101 * n ≤ 100 * discount (c.args.slab + 1) + decline) back (covers_next c.args.slab);
      never_rises = subst (λ (n : ℕ). discount (c.args.slab + 1) ≤ n) back (never_rises_next c.args.slab);
      bounded = subst (λ (n : ℕ). n ≤ full_discount) back (bounded c.args.slab);
      full = λ none. read ∙ (ap discount none ∙ discount-zero);
      positive = λ below. subst (λ (n : ℕ). 0 < n) back (positive c.args.slab below);
      used_up = λ all. read ∙ (ap discount all ∙ used_up);
    }
