use Rattle.std.proofs.Common.{◌≡◌, ◌<◌, List, length, map, sym, ◌∙◌, arith}
use Rattle.std.proofs.lemmas.List.{get_or-map, length-map, same_lists}
use Rattle.adx_units.specs.declared.offer.Offer.{Offer}
use Rattle.day_rules.specs.Asks.{admitted_again}
use Rattle.day_rules.proofs.again.copy_undecided.Goals as goal

pub returns : goal.returns
returns c =
    let offers : List Offer = c.args.offers.now in
    let again : List Offer = c.loop-place.again in
    let many : length again ≡ length offers = c.loop-place.invariant.long in
    same_lists again (map admitted_again offers) (many ∙ sym (length-map offers admitted_again)) (λ k d below.
    let within : k < length offers = omega arith in
    c.loop-place.invariant.copied k d (omega (arith, c.loop-place-test.false)) ∙ sym (get_or-map admitted_again offers k d d within))
