use Rattle.std.proofs.Common.{◌≡◌, ◌<◌, ℕ, IfSome, ap, ◌∙◌, sym, subst, get_or, length, arith}
use Rattle.adx_units.specs.declared.offer.Offer.{Offer}
use Rattle.adx_units.specs.declared.offer.TheConstants.{ADMITTED}
use Rattle.allocator_core.specs.Choice.{competes, no_offer, weight_of}
use Rattle.allocator_core.specs.Passes.{competing_weight, passed, standing_with}
use Rattle.allocator_core.specs.Settling.{budgets_in, IsPriced}
use Rattle.allocator_core.proofs.Lists.{best_begins, best_goes_on, best_within, written_all, written_goes_on, written_here, written_none}
use Rattle.allocator_core.proofs.Choosing.{chosen_best}
use Rattle.allocator_core.proofs.passes.pass.Goals as goal

pub pass_over-weight-requires : goal.pass_over-weight-requires
pass_over-weight-requires c =
    let f = passed (budgets_in c.args.book.now) (standing_with c.args.book.now c.args.taken.now) c.args.imp in
    subst (λ (o : Offer). o.reason ≡ ADMITTED → IsPriced (length c.args.book.now) o)
    (sym (written_here f c.args.offers.now c.loop-place.offers c.loop-place.place no_offer c.loop-place.invariant.written))
    (c.requires c.loop-place.place no_offer c.loop-place-test.true)

pub loop-place-init : goal.loop-place-init
loop-place-init c =
    let budgets = budgets_in c.args.book.now in
    let standing = standing_with c.args.book.now c.args.taken.now in
    record {
      written = written_none (passed budgets standing c.args.imp) c.args.offers.now;
      best = best_begins (competes budgets standing c.args.imp) (weight_of budgets standing) c.args.offers.now c.new-best.result c.new-best.ensures;
    }

pub loop-place-preserved : goal.loop-place-preserved
loop-place-preserved c =
    let budgets = budgets_in c.args.book.now in
    let standing = standing_with c.args.book.now c.args.taken.now in
    let f = passed budgets standing c.args.imp in
    let read : get_or c.loop-place.offers c.loop-place.place no_offer ≡ get_or c.args.offers.now c.loop-place.place no_offer =
    written_here f c.args.offers.now c.loop-place.offers c.loop-place.place no_offer c.loop-place.invariant.written in
    record {
      written = written_goes_on f c.args.offers.now c.loop-place.offers c.loop-place.place no_offer c.pass_over-weight.new.offer c.loop-place-test.true c.loop-place.invariant.written c.pass_over-weight.ensures.offer;
      best = best_goes_on (competes budgets standing c.args.imp) (weight_of budgets standing) c.args.offers.now c.loop-place.place c.loop-place.best c.with-best.result no_offer c.pass_over-weight.result c.loop-place-test.true c.loop-place.invariant.best (c.pass_over-weight.ensures.weight ∙ ap (competing_weight budgets standing c.args.imp) read) c.with-best.ensures;
    }

pub returns : goal.returns
returns c =
    let budgets = budgets_in c.args.book.now in
    let standing = standing_with c.args.book.now c.args.taken.now in
    record {
      chosen = chosen_best budgets standing c.args.offers.now c.args.imp c.loop-place.place c.loop-place.best (omega arith) c.loop-place.invariant.best;
      offers = written_all (passed budgets standing c.args.imp) c.args.offers.now c.loop-place.offers c.loop-place.place c.loop-place-test.false c.loop-place.invariant.written;
      within = subst (λ (n : ℕ). IfSome c.loop-place.best.place (λ place. place < n)) (sym c.loop-place.invariant.written.long)
          (best_within (competes budgets standing c.args.imp) (weight_of budgets standing) c.args.offers.now c.loop-place.place c.loop-place.best.place c.loop-place.best.weight (omega arith) c.loop-place.invariant.best);
    }
