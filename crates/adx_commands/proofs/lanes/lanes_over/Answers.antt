-- Each link that is taken has a lane, as long as there are places.
use Rattle.std.proofs.Common.{◌∙◌, refl, sym, ap, subst, length, slice_get}
use Rattle.std.proofs.lemmas.Option.{slice_get_read}
use Rattle.adx_commands.proofs.LinkLanes.{AreFilled, filled_more, filled_none}
use Rattle.adx_commands.proofs.lanes.lanes_over.Goals as goal

pub links-init : goal.links-init
links-init g c =
    subst (λ lanes. AreFilled c.args.places.now c.args.links.items lanes c.from-left.result.items) (sym c.new-lanes.ensures.items)
    (filled_none c.args.places.now c.args.links.items c.from-left.result.items c.from-left.ensures.0)

pub links-preserved : goal.links-preserved
links-preserved g c =
    let lane = c.in_ok-to-in-Some-get in
    let place = c.in-Some-get in
    let read = slice_get_read c.args.places.now (length c.args.places.now) (length c.as_slice.result.now) place.place.now refl place.ensures.lookup.3.0 place.ensures.lookup.1 in
    subst (λ lanes. AreFilled c.args.places.now c.args.links.items lanes c.pop_front.new.self.items) (sym c.in_ok-push-in-Some-get.ensures.items)
    (filled_more c.args.places.now c.args.links.items c.links.lanes.items c.links.left.items c.pop_front.new.self.items c.in-Some.link c.in-Some-get.place.now lane.field-0
    c.in-Some.ensures.items (ap (λ ls. slice_get c.args.places.now (length ls)) (sym c.as_slice.ensures.value) ∙ read) lane.ensures.place lane.ensures.limit lane.ensures.link
    c.links.invariant)
