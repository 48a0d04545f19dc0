-- One bidder more, and all of them.
use Rattle.std.proofs.Common.{◌+◌, ◌∙◌, take, sym, arith, ap, subst, length, get_or, ℕ, List, []}
use Rattle.deal_floor.specs.declared.place.Place.{Place}
use Rattle.fan_out.specs.declared.lane.Lane.{Lane}
use Rattle.adx_commands.specs.RosterLinks.{AreLanesTo, begins_with, course_of, texts_of}
use Rattle.adx_commands.specs.declared.link.RosterLink.{RosterLink}
use Rattle.adx_commands.proofs.LanesTo.{lanes_all, lanes_more, no_lanes}
use Rattle.adx_commands.proofs.text_lanes.roster_lanes.Goals as goal

pub loop-place-init : goal.loop-place-init
loop-place-init c = subst (λ (lanes : List (Lane RosterLink)). AreLanesTo [] [] lanes) (sym c.new-lanes.ensures.items) (no_lanes c.args.roster.now.replies)

pub loop-place-preserved : goal.loop-place-preserved
loop-place-preserved c =
    let places = c.args.roster.now.bidders in
    let replies = c.args.roster.now.replies in
    let at = c.loop-place.place-index in
    let place = c.place-item.result in
    let here = c.place-item.is ∙ ap (λ (ps : List Place). get_or ps at place) c.as_slice-place-items.ensures in
    let counted = ap length c.as_slice.ensures.value in
    let course = ap course_of c.in_ok-to.ensures.link ∙ c.over.ensures ∙ ap begins_with (c.texts_at-texts.ensures ∙ ap (λ (n : ℕ). get_or replies n []) counted) in
    subst (λ (lanes : List (Lane RosterLink)). AreLanesTo (take (at + 1) places) (texts_of (take (at + 1) places) replies) lanes) (sym c.in_ok-push.ensures.items)
    (lanes_more places replies at c.loop-place.lanes.items place c.in_ok-to.field-0 (omega (arith, ap length c.as_slice-place-items.ensures)) (sym here) c.loop-place.invariant
    c.in_ok-to.ensures.place c.in_ok-to.ensures.limit course)

pub returns : goal.returns
returns c = lanes_all c.args.roster.now.bidders c.args.roster.now.replies c.loop-place.place-index c.loop-place.lanes.items (omega (arith, ap length c.as_slice-place-items.ensures)) c.loop-place.invariant
