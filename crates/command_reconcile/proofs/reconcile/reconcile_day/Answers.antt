-- The ledger was read for the bidder's bills; or memory was refused before; or the roster has no such bidder.
use Rattle.std.proofs.Common.{◌≡◌, ◌∙◌, List, Option, None, Ok, refl, sym, ap, subst, length, le-add_right}
use Rattle.std.specs.Borrow.{MutBor}
use Rattle.adx_io.specs.Streams.{Tape, WhereTold}
use Rattle.adx_io.specs.TalkState.{state_of}
use Rattle.command_runs.specs.Meanings.{Wrote}
use Rattle.command_runs.specs.declared.outcome.Outcome.{Outcome}
use Rattle.deal_floor.specs.declared.campaign.Campaign.{Campaign}
use Rattle.command_reconcile.specs.DayBills.{day_bills, place_named}
use Rattle.command_reconcile.specs.Reconciling.{EndsDay, at_end, no_bidder_line}
use Rattle.command_reconcile.proofs.Reconciled.{no_place, told_refused, told_unread, with_place}
use Rattle.command_reconcile.proofs.reconcile.reconcile_day.Goals as goal

pub returns-in-Ok-clause-ran : goal.returns-in-Ok-clause-ran
returns-in-Ok-clause-ran g c =
    let roster = c.args.roster.now in
    let history = c.args.entries.now in
    let before = state_of c.args.talk.now in
    let last = c.reconcile_bills.new.talk in
    with_place c.args.name.now roster history before.allowed before.tape (g.S.Source.tape last.source.now) before.held (g.K.Sink.held last.sink.now) c.reconcile_bills.result
    (place_named c.args.name.now roster.bidders) c.in-Some.bidder c.in-Ok.owed.items
    (ap (place_named c.args.name.now) (sym c.as_slice-bidders.ensures) ∙ sym c.place_named.ensures ∙ c.in-Some.is)
    (c.in-Ok.ensures ∙ ap (λ (campaigns : List Campaign). day_bills campaigns c.in-Some.bidder history) c.as_slice-campaigns.ensures)
    c.reconcile_bills.ensures.ran

pub returns-in-Err-clause-ran : goal.returns-in-Err-clause-ran
returns-in-Err-clause-ran g c =
    let talk = c.args.talk.now in
    let before = state_of talk in
    told_refused before.allowed (EndsDay c.args.name.now c.args.roster.now before.allowed (Ok c.args.entries.now)) before.held before.held talk.buffer.now.pending (g.S.Source.tape talk.source.now) (le-add_right (length talk.buffer.now.pending) talk.room) refl

pub returns-in-None-clause-ran : goal.returns-in-None-clause-ran
returns-in-None-clause-ran g c =
    let roster = c.args.roster.now in
    let history = c.args.entries.now in
    let talk = c.args.talk.now in
    let before = state_of talk in
    let last = c.refuse_bidder.new.talk in
    let held = g.K.Sink.held last.sink.now in
    let ends = EndsDay c.args.name.now roster before.allowed (Ok history) in
    let none : place_named c.args.name.now roster.bidders ≡ None = ap (place_named c.args.name.now) (sym c.as_slice-bidders.ensures) ∙ sym c.place_named.ensures ∙ c.in-None.is in
    subst (λ (t : Option Tape). WhereTold before.tape t (λ x y. Wrote (at_end before.allowed ends) x.left y.left before.held held c.refuse_bidder.result)) (sym (ap (λ (x : MutBor _). g.S.Source.tape x.now) c.refuse_bidder.ensures.rest.0))
    (told_unread before.allowed ends before.held held talk.buffer.now.pending no_bidder_line Outcome.Refused (g.S.Source.tape talk.source.now) c.refuse_bidder.result
    (λ left. no_place roster history before.allowed (place_named c.args.name.now roster.bidders) talk.buffer.now.pending left none c.requires.ahead) c.refuse_bidder.ensures.puts)
