-- The tree of the body, or its fault.
use Rattle.std.proofs.Common.{◌≢◌, inl, inr, refl, rules, string_bytes}
use Rattle.std.proofs.lemmas.Result.{IfOk-weaker}
use Rattle.adx_json.specs.View.{tree_of}
use Rattle.adx_json.specs.declared.fault.JsonFault.{JsonFault}
use Rattle.adx_desk.proofs.ToldAnswers.{on_err}
use Rattle.exchange_messages.proofs.AskCalls.{err_on}
use Rattle.exchange_messages.proofs.Requested.{nothing_done, refused_answered}
use Rattle.exchange_messages.specs.Courses.{reply_of}
use Rattle.exchange_messages.specs.Meanings.{refused}
use Rattle.exchange_messages.specs.declared.refusal.Refusal.{Refusal}
use Rattle.exchange_messages.proofs.floor.Floor.take_body.Goals as goal

pub returns-in-Ok-clause-answered : goal.returns-in-Ok-clause-answered
returns-in-Ok-clause-answered g c =
    IfOk-weaker c.take_tree.result _ _ (λ a given m means. given m (λ meaning told. means meaning (inl (tree_of c.in-Ok.tree, c.in-Ok.ensures.found, told)))) c.take_tree.ensures.answered

pub returns-in-Ok-clause-gave_up : goal.returns-in-Ok-clause-gave_up
returns-in-Ok-clause-gave_up g c =
    err_on c.take_tree.result _ _ (λ given m means. given m (λ meaning told. means meaning (inl (tree_of c.in-Ok.tree, c.in-Ok.ensures.found, told)))) c.take_tree.ensures.gave_up

pub returns-in-Err-OutOfMemory-clause-gave_up : goal.returns-in-Err-OutOfMemory-clause-gave_up
returns-in-Err-OutOfMemory-clause-gave_up g c m means = nothing_done g.Y.DayDesk g.L.Link g.C.Clock g.met.Y.DayDesk.join _ m (g.met.Y.DayDesk.none c.args.self.now.desk)

pub returns-in-Err-clause-answered : goal.returns-in-Err-clause-answered
returns-in-Err-clause-answered g c =
    let named : c.in-Err.fault ≢ JsonFault.OutOfMemory = search rules in
    IfOk-weaker c.refuse.result _ _
    (λ a replied m means. refused_answered g.Y.DayDesk g.L.Link g.C.Clock g.met.Y.DayDesk.join _ m (Refusal.Json c.in-Err.fault) (reply_of a (string_bytes c.refuse.new.out)) (g.met.Y.DayDesk.none c.args.self.now.desk)
    (means (refused (Refusal.Json c.in-Err.fault)) (inr (c.in-Err.fault, named, c.in-Err.ensures.fault, refl))) replied)
    c.refuse.ensures.replied

pub returns-in-Err-clause-gave_up : goal.returns-in-Err-clause-gave_up
returns-in-Err-clause-gave_up g c = on_err c.refuse.result _ (λ m means. nothing_done g.Y.DayDesk g.L.Link g.C.Clock g.met.Y.DayDesk.join _ m (g.met.Y.DayDesk.none c.args.self.now.desk))
