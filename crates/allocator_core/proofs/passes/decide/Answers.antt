use Rattle.std.proofs.Common.{◌≡◌, ap, ◌∙◌, sym, subst, set, get_or, length, List, Some}
use Rattle.adx_units.specs.declared.offer.Offer.{Offer}
use Rattle.allocator_core.specs.declared.reason.TheConstants.{AWARDED}
use Rattle.allocator_core.specs.Choice.{chosen_at, no_offer}
use Rattle.allocator_core.specs.Passes.{standing_with}
use Rattle.allocator_core.specs.Settling.{budgets_in, IsPriced}
use Rattle.allocator_core.proofs.Settled.{chosen_priced, decided_none, decided_some, with_reason}
use Rattle.allocator_core.proofs.passes.decide.Goals as goal

pub push-requires-clause-small : goal.push-requires-clause-small
push-requires-clause-small c =
    let budgets = budgets_in c.args.book.now in
    let standing = standing_with c.args.book.now c.args.taken.now in
    let chosen : chosen_at budgets standing c.args.offers.now c.args.imp ≡ Some c.in-Some.place = sym c.pass.ensures.chosen ∙ c.in-Some.is in
    let P = λ (left : List Offer). IsPriced (length c.args.book.now) (get_or left c.in-Some.place no_offer) in
    (subst P (sym c.pass.ensures.offers) (chosen_priced (length c.args.book.now) budgets standing c.args.imp c.args.offers.now c.in-Some.place no_offer chosen c.requires.priced)).within

pub returns-in-Some-clause-offers : goal.returns-in-Some-clause-offers
returns-in-Some-clause-offers c =
    let budgets = budgets_in c.args.book.now in
    let standing = standing_with c.args.book.now c.args.taken.now in
    let chosen : chosen_at budgets standing c.args.offers.now c.args.imp ≡ Some c.in-Some.place = sym c.pass.ensures.chosen ∙ c.in-Some.is in
    ap (λ (left : List Offer). set left c.in-Some.place (with_reason (get_or left c.in-Some.place no_offer) AWARDED)) c.pass.ensures.offers
    ∙ decided_some budgets standing c.args.imp c.args.offers.now c.in-Some.place no_offer chosen

pub returns-in_default-clause-offers : goal.returns-in_default-clause-offers
returns-in_default-clause-offers c =
    let budgets = budgets_in c.args.book.now in
    let standing = standing_with c.args.book.now c.args.taken.now in
    c.pass.ensures.offers ∙ decided_none budgets standing c.args.imp c.args.offers.now (sym c.pass.ensures.chosen ∙ c.in_default.is)
