-- A request for bids, or its first fault.
use Rattle.std.proofs.Common.{◌≡◌, Some, inl, inr, refl, rules, string_bytes}
use Rattle.std.proofs.lemmas.Result.{IfOk-weaker}
use Rattle.adx_json.specs.View.{tree_of}
use Rattle.rtb_request.specs.Requests.{request_fault}
use Rattle.adx_desk.proofs.ToldAnswers.{on_err}
use Rattle.exchange_messages.proofs.AskCalls.{err_on}
use Rattle.exchange_messages.proofs.Requested.{nothing_done, refused_answered}
use Rattle.exchange_messages.specs.Courses.{reply_of}
use Rattle.exchange_messages.specs.Meanings.{asks, refused}
use Rattle.exchange_messages.specs.declared.refusal.Refusal.{Refusal}
use Rattle.exchange_messages.proofs.floor.Floor.take_tree.Goals as goal

pub returns-in-Ok-clause-answered : goal.returns-in-Ok-clause-answered
returns-in-Ok-clause-answered g c =
    IfOk-weaker c.take_request.result _ _ (λ a given m means. given m (means (asks (tree_of c.args.tree.now) c.in-Ok.request) (inl (c.in-Ok.request, c.in-Ok.ensures, refl)))) c.take_request.ensures.answered

pub returns-in-Ok-clause-gave_up : goal.returns-in-Ok-clause-gave_up
returns-in-Ok-clause-gave_up g c =
    err_on c.take_request.result _ _ (λ given m means. given m (means (asks (tree_of c.args.tree.now) c.in-Ok.request) (inl (c.in-Ok.request, c.in-Ok.ensures, refl)))) c.take_request.ensures.gave_up

pub returns-in-Err-OutOfMemory-clause-gave_up : goal.returns-in-Err-OutOfMemory-clause-gave_up
returns-in-Err-OutOfMemory-clause-gave_up g c m means = nothing_done g.Y.DayDesk g.L.Link g.C.Clock g.met.Y.DayDesk.join _ m (g.met.Y.DayDesk.none c.args.self.now.desk)

pub returns-in-Err-clause-answered : goal.returns-in-Err-clause-answered
returns-in-Err-clause-answered g c =
    let fault : request_fault (tree_of c.args.tree.now) ≡ Some c.in-Err.fault = search rules in
    IfOk-weaker c.refuse.result _ _
    (λ a replied m means. refused_answered g.Y.DayDesk g.L.Link g.C.Clock g.met.Y.DayDesk.join _ m (Refusal.Request c.in-Err.fault) (reply_of a (string_bytes c.refuse.new.out)) (g.met.Y.DayDesk.none c.args.self.now.desk)
    (means (refused (Refusal.Request c.in-Err.fault)) (inr (c.in-Err.fault, fault, refl))) replied)
    c.refuse.ensures.replied

pub returns-in-Err-clause-gave_up : goal.returns-in-Err-clause-gave_up
returns-in-Err-clause-gave_up g c = on_err c.refuse.result _ (λ m means. nothing_done g.Y.DayDesk g.L.Link g.C.Clock g.met.Y.DayDesk.join _ m (g.met.Y.DayDesk.none c.args.self.now.desk))
