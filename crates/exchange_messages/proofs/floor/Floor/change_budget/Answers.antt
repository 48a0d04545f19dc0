-- A change of a budget, or texts of another form.
use Rattle.std.proofs.Common.{◌∙◌, refl, string_bytes, subst}
use Rattle.std.proofs.lemmas.Result.{IfOk-weaker}
use Rattle.day_rules.specs.Replies.{set_budget}
use Rattle.adx_desk.proofs.ToldAnswers.{on_err}
use Rattle.script_lines.specs.Changes.{change_told}
use Rattle.exchange_messages.proofs.AskCalls.{err_on}
use Rattle.exchange_messages.proofs.Changes.{change_is, no_change}
use Rattle.exchange_messages.proofs.Requested.{change_answered, change_runs, change_stopped, floor_on, nothing_done, refused_answered}
use Rattle.exchange_messages.specs.Courses.{reply_of}
use Rattle.exchange_messages.specs.Meanings.{Means}
use Rattle.exchange_messages.specs.Wants.{change_meant}
use Rattle.exchange_messages.specs.declared.refusal.Refusal.{Refusal}
use Rattle.exchange_messages.proofs.floor.Floor.change_budget.Goals as goal

pub returns-in-Some-clause-answered : goal.returns-in-Some-clause-answered
returns-in-Some-clause-answered g c =
    let x = change_told c.in-Some.change in
    let named = change_is c.args.self.now.roster.now.campaigns c.args.texts.now c.as_str.result.now c.as_str-2.result.now c.as_bytes.result.now c.as_bytes-2.result.now c.as_str.ensures.value c.as_str-2.ensures.value (c.as_bytes.ensures.value ∙ c.as_str-3.ensures.value) (c.as_bytes-2.ensures.value ∙ c.as_str-4.ensures.value) x c.in-Some.ensures.value in
    IfOk-weaker c.take_change.result _ _
    (λ a taken m means. change_answered g.Y.DayDesk g.L.Link g.C.Clock g.met.Y.DayDesk.join c.args.self.now _ m (change_meant c.args.texts.now) x (reply_of a (string_bytes c.take_change.new.out)) refl named taken means)
    c.take_change.ensures.taken

pub returns-in-Some-clause-gave_up : goal.returns-in-Some-clause-gave_up
returns-in-Some-clause-gave_up g c =
    let x = change_told c.in-Some.change in
    let named = change_is c.args.self.now.roster.now.campaigns c.args.texts.now c.as_str.result.now c.as_str-2.result.now c.as_bytes.result.now c.as_bytes-2.result.now c.as_str.ensures.value c.as_str-2.ensures.value (c.as_bytes.ensures.value ∙ c.as_str-3.ensures.value) (c.as_bytes-2.ensures.value ∙ c.as_str-4.ensures.value) x c.in-Some.ensures.value in
    err_on c.take_change.result _ _
    (λ left m means. change_stopped g.Y.DayDesk g.L.Link g.C.Clock g.met.Y.DayDesk.join c.args.self.now _ m (change_meant c.args.texts.now) x refl named left means)
    c.take_change.ensures.left

pub returns-in-Some-clause-floor : goal.returns-in-Some-clause-floor
returns-in-Some-clause-floor g c =
    let runs = change_runs g.Y.DayDesk.runs g.met.Y.DayDesk.join c.args.self.now.desk c.take_change.new.desk c.args.self.now.roster.now (set_budget (change_told c.in-Some.change)) (λ a. reply_of a (string_bytes c.take_change.new.out)) c.take_change.result c.take_change.ensures.taken c.take_change.ensures.left in
    floor_on g.Y.DayDesk g.met.Y.DayDesk.same c.args.self.now _ runs.0 refl c.requires.floor runs.1 c.requires.floor.lanes_are

pub returns-in-None-clause-answered : goal.returns-in-None-clause-answered
returns-in-None-clause-answered g c =
    let none = no_change c.args.self.now.roster.now.campaigns c.args.texts.now c.as_str.result.now c.as_str-2.result.now c.as_bytes.result.now c.as_bytes-2.result.now c.as_str.ensures.value c.as_str-2.ensures.value (c.as_bytes.ensures.value ∙ c.as_str-3.ensures.value) (c.as_bytes-2.ensures.value ∙ c.as_str-4.ensures.value) c.in-None.ensures.value in
    IfOk-weaker c.refuse.result _ _
    (λ a replied m means. refused_answered g.Y.DayDesk g.L.Link g.C.Clock g.met.Y.DayDesk.join _ m Refusal.Call (reply_of a (string_bytes c.refuse.new.out)) (g.met.Y.DayDesk.none c.args.self.now.desk) (subst (Means m) none means) replied)
    c.refuse.ensures.replied

pub returns-in-None-clause-gave_up : goal.returns-in-None-clause-gave_up
returns-in-None-clause-gave_up g c = on_err c.refuse.result _ (λ m means. nothing_done g.Y.DayDesk g.L.Link g.C.Clock g.met.Y.DayDesk.join _ m (g.met.Y.DayDesk.none c.args.self.now.desk))
