use Rattle.std.proofs.Common.{◌≡◌, ap, ◌∙◌, sym, subst, All, List, length, arith}
use Rattle.adx_units.specs.declared.offer.Offer.{Offer}
use Rattle.adx_units.specs.declared.offer.TheConstants.{ADMITTED}
use Rattle.allocator_core.specs.Choice.{Standing, standing_at}
use Rattle.allocator_core.specs.Passes.{decided_offers}
use Rattle.allocator_core.specs.Settling.{budgets_in, standing_in, IsPriced}
use Rattle.allocator_core.proofs.Settled.{below_all_of, below_more, below_none, priced_below, stands_first, stands_next}
use Rattle.allocator_core.proofs.passes.settle.Goals as goal

pub decide-requires-clause-priced : goal.decide-requires-clause-priced
decide-requires-clause-priced c =
    subst (λ (left : List Offer). All (λ o. o.reason ≡ ADMITTED → IsPriced (length c.args.book.now) o) left) (sym c.loop-imp.invariant.offers)
    (priced_below (length c.args.book.now) (budgets_in c.args.book.now) (standing_in c.args.book.now) c.args.offers.now c.loop-imp.imp c.requires.offers)

pub loop-imp-init : goal.loop-imp-init
loop-imp-init c = record {
  offers = below_none (budgets_in c.args.book.now) (standing_in c.args.book.now) c.args.offers.now;
  standing = stands_first c.args.book.now c.args.offers.now c.new-taken.result c.new-taken.ensures;
  few = rw c.new-taken.ensures (omega arith);
}

pub loop-imp-preserved : goal.loop-imp-preserved
loop-imp-preserved c =
    let budgets = budgets_in c.args.book.now in
    let before = standing_in c.args.book.now in
    record {
      offers = c.decide.ensures.offers
          ∙ (ap (λ (s : Standing). decided_offers budgets s c.loop-imp.imp c.loop-imp.offers) c.loop-imp.invariant.standing
          ∙ (ap (decided_offers budgets (standing_at budgets before c.args.offers.now c.loop-imp.imp) c.loop-imp.imp) c.loop-imp.invariant.offers
          ∙ below_more budgets before c.args.offers.now c.loop-imp.imp));
      standing = stands_next c.args.book.now c.args.offers.now c.loop-imp.offers c.loop-imp.taken c.decide.new.taken c.loop-imp.imp c.loop-imp.invariant.offers c.loop-imp.invariant.standing c.decide.ensures.taken;
      few = omega arith;
    }

pub returns : goal.returns
returns c =
    c.loop-imp.invariant.offers
    ∙ below_all_of (budgets_in c.args.book.now) (standing_in c.args.book.now) c.args.offers.now c.args.imps c.loop-imp.imp c.requires.unsettled (omega arith)
