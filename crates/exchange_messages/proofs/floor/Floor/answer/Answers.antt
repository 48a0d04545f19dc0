-- By what the message wants.
use Rattle.std.proofs.Common.{List, ℕ, string_bytes, subst, sym}
use Rattle.std.proofs.lemmas.Result.{IfOk-weaker}
use Rattle.adx_desk.proofs.ToldAnswers.{on_err}
use Rattle.exchange_messages.proofs.AskCalls.{err_on}
use Rattle.exchange_messages.proofs.Requested.{books_answered, books_dropped, meters_answered, meters_dropped, nothing_done, refused_answered}
use Rattle.exchange_messages.specs.Courses.{reply_of}
use Rattle.exchange_messages.specs.Meanings.{BodyMeans}
use Rattle.exchange_messages.specs.Wants.{WantsOther}
use Rattle.exchange_messages.proofs.floor.Floor.answer.Goals as goal

pub returns-in-Bids-clause-answered : goal.returns-in-Bids-clause-answered
returns-in-Bids-clause-answered g c =
    IfOk-weaker c.take_body.result _ _
    (λ a given m same wants. given m (λ meaning means. subst (WantsOther m) c.in-Bids.is wants meaning (subst (λ (b : List ℕ). BodyMeans b meaning) (sym same) means)))
    c.take_body.ensures.answered

pub returns-in-Bids-clause-gave_up : goal.returns-in-Bids-clause-gave_up
returns-in-Bids-clause-gave_up g c =
    err_on c.take_body.result _ _ (λ given m same wants. given m (λ meaning means. subst (WantsOther m) c.in-Bids.is wants meaning (subst (λ (b : List ℕ). BodyMeans b meaning) (sym same) means))) c.take_body.ensures.gave_up

pub returns-in-Books-clause-answered : goal.returns-in-Books-clause-answered
returns-in-Books-clause-answered g c =
    let look = c.show_books.ensures.looks in
    IfOk-weaker c.show_books.result _ _
    (λ a replied m same wants. books_answered g.Y.DayDesk g.L.Link g.C.Clock g.met.Y.DayDesk.join c.args.self.now c.show_books.new.self m (reply_of a (string_bytes c.show_books.new.out)) look.0 c.show_books.ensures.lanes look.1 (subst (WantsOther m) c.in-Books.is wants) replied)
    look.2

pub returns-in-Books-clause-gave_up : goal.returns-in-Books-clause-gave_up
returns-in-Books-clause-gave_up g c =
    let look = c.show_books.ensures.looks in
    on_err c.show_books.result _ (λ m same wants. books_dropped g.Y.DayDesk g.L.Link g.C.Clock g.met.Y.DayDesk.join c.args.self.now c.show_books.new.self m look.0 c.show_books.ensures.lanes look.1 (subst (WantsOther m) c.in-Books.is wants))

pub returns-in-Meters-clause-answered : goal.returns-in-Meters-clause-answered
returns-in-Meters-clause-answered g c =
    let read = c.show_meters.ensures.reads in
    IfOk-weaker c.show_meters.result _ _
    (λ a replied m same wants. meters_answered g.Y.DayDesk g.L.Link g.C.Clock g.met.Y.DayDesk.join c.args.self.now c.show_meters.new.self m (reply_of a (string_bytes c.show_meters.new.out)) read.0 read.1 c.show_meters.ensures.lanes read.2 (subst (WantsOther m) c.in-Meters.is wants) replied)
    read.3

pub returns-in-Meters-clause-gave_up : goal.returns-in-Meters-clause-gave_up
returns-in-Meters-clause-gave_up g c =
    let read = c.show_meters.ensures.reads in
    on_err c.show_meters.result _ (λ m same wants. meters_dropped g.Y.DayDesk g.L.Link g.C.Clock g.met.Y.DayDesk.join c.args.self.now c.show_meters.new.self m read.0 read.1 c.show_meters.ensures.lanes read.2 (subst (WantsOther m) c.in-Meters.is wants))

pub returns-in-Budget-clause-answered : goal.returns-in-Budget-clause-answered
returns-in-Budget-clause-answered g c =
    IfOk-weaker c.change_budget.result _ _ (λ a given m same wants. given m (subst (WantsOther m) c.in-Budget.is wants)) c.change_budget.ensures.answered

pub returns-in-Budget-clause-gave_up : goal.returns-in-Budget-clause-gave_up
returns-in-Budget-clause-gave_up g c = err_on c.change_budget.result _ _ (λ given m same wants. given m (subst (WantsOther m) c.in-Budget.is wants)) c.change_budget.ensures.gave_up

pub returns-in-Nothing-clause-answered : goal.returns-in-Nothing-clause-answered
returns-in-Nothing-clause-answered g c =
    IfOk-weaker c.refuse.result _ _
    (λ a replied m same wants. refused_answered g.Y.DayDesk g.L.Link g.C.Clock g.met.Y.DayDesk.join _ m c.in-Nothing.why (reply_of a (string_bytes c.refuse.new.out)) (g.met.Y.DayDesk.none c.args.self.now.desk) (subst (WantsOther m) c.in-Nothing.is wants) replied)
    c.refuse.ensures.replied

pub returns-in-Nothing-clause-gave_up : goal.returns-in-Nothing-clause-gave_up
returns-in-Nothing-clause-gave_up g c = on_err c.refuse.result _ (λ m same wants. nothing_done g.Y.DayDesk g.L.Link g.C.Clock g.met.Y.DayDesk.join _ m (g.met.Y.DayDesk.none c.args.self.now.desk))
