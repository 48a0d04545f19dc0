use Rattle.std.proofs.Common.{List, refl, ap, ◌∙◌}
use Rattle.day_rules.specs.declared.entry.Entry.{Entry}
use Rattle.day_rules.specs.DayState.{DayState}
use Rattle.day_rules.specs.Replies.{ask_of, seen_as, seen_in}
use Rattle.day_machine.specs.DayFields.{id_entries, placed_at}
use Rattle.day_machine.proofs.IdPlaces.{ask_place, seen_none, seen_some}
use Rattle.day_machine.proofs.day.Day.seen.Goals as goal

pub returns-in-None : goal.returns-in-None
returns-in-None c =
    let h : List Entry = c.self.inside.history.items in
    let place = ask_place h (id_entries c.self.inside.ids) c.self.inside.totals.asks c.args.auction.now c.self.invariant.ids_are c.self.invariant.totals_are.asks in
    seen_none h c.args.auction.now c.args.digest.now (ask_of c.args.auction.now h) refl (c.in-None.ensures ∙ place)
    ∙ ap (λ (s : DayState). seen_in s.history c.args.auction.now c.args.digest.now) c.self.view_is

pub returns-in-Some : goal.returns-in-Some
returns-in-Some c =
    let h : List Entry = c.self.inside.history.items in
    let place = ask_place h (id_entries c.self.inside.ids) c.self.inside.totals.asks c.args.auction.now c.self.invariant.ids_are c.self.invariant.totals_are.asks in
    c.seen_at.ensures
    ∙ (ap (λ (es : List Entry). seen_as c.args.digest.now (placed_at es c.in-Some.place)) c.deref.ensures.value
    ∙ (seen_some h c.args.auction.now c.args.digest.now c.in-Some.place (ask_of c.args.auction.now h) refl (c.in-Some.ensures ∙ place)
    ∙ ap (λ (s : DayState). seen_in s.history c.args.auction.now c.args.digest.now) c.self.view_is))
