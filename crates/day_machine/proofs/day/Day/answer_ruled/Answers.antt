use Rattle.std.proofs.Common.{◌≡◌, List, ap, sym, ◌∙◌, Some, slice_get}
use Rattle.notice_book.specs.declared.award.Award.{Award}
use Rattle.notice_book.specs.declared.ruling.Ruling.{Ruling}
use Rattle.notice_book.specs.Rules.{ruling_of}
use Rattle.day_rules.specs.declared.answer.Answer.{Answer}
use Rattle.day_rules.specs.declared.entry.Entry.{Entry}
use Rattle.day_rules.specs.DayState.{DayState}
use Rattle.day_rules.specs.Books.{awards_of}
use Rattle.day_rules.specs.Replies.{notice_place, ruled_reply}
use Rattle.day_rules.specs.Entries.{notice_of}
use Rattle.day_rules.proofs.Noticing.{repeat_stands}
use Rattle.day_machine.proofs.day.Day.answer_ruled.Goals as goal

pub returns-in-Repeat : goal.returns-in-Repeat
returns-in-Repeat c = λ w at.
    let h : List Entry = c.self.inside.history.items in
    let hist = ap (λ (s : DayState). s.history) c.self.view_is in
    let awards : c.sold.result.now.awards ≡ awards_of c.args.self.now.history = c.sold.ensures ∙ (c.self.invariant.awards_are ∙ ap awards_of hist) in
    let here : slice_get (awards_of h) c.args.n ≡ Some w = ap (λ (es : List Entry). slice_get (awards_of es) c.args.n) hist ∙ at in
    let repeat : Ruling.Repeat ≡ ruling_of c.args.kind w = c.in-Repeat.ensures w (ap (λ (ws : List Award). slice_get ws c.args.n) awards ∙ at) in
    let place : c.from.result ≡ notice_place c.args.self.now.history (notice_of c.args.kind c.args.n) =
    c.from.ensures
    ∙ (c.place.ensures
    ∙ (c.self.invariant.places_are c.args.kind c.args.n (repeat_stands _ h c.args.kind c.args.n w c.self.invariant.day.legal here (sym repeat))
    ∙ ap (λ (es : List Entry). notice_place es (notice_of c.args.kind c.args.n)) hist)) in
    ap Answer.Repeat place ∙ ap (λ (r : Ruling). (ruled_reply c.args.self.now.history c.args.kind c.args.n r).answer) repeat
