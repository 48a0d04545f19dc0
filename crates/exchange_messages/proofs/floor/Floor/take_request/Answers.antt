-- The bidders, and then the tick and the ask.
use Rattle.std.proofs.Common.{◌∙◌, refl, string_bytes}
use Rattle.std.proofs.lemmas.Result.{IfOk-weaker}
use Rattle.adx_json.specs.Spelling.{spelling}
use Rattle.adx_json.specs.View.{tree_of}
use Rattle.day_rules.specs.Replies.{seen_in}
use Rattle.rtb_request.specs.ForBidders.{request_for_bidders}
use Rattle.adx_desk.proofs.ToldAnswers.{on_err}
use Rattle.exchange_messages.proofs.AskCalls.{err_on}
use Rattle.exchange_messages.proofs.Requested.{floor_on, gathered_few, gathered_left, lanes_on, request_answered, request_dropped, request_runs, request_stopped}
use Rattle.exchange_messages.specs.Floors.{IsMomentOf}
use Rattle.fan_out.specs.Lanes.{works}
use Rattle.exchange_messages.specs.Courses.{reply_of}
use Rattle.exchange_messages.proofs.floor.Floor.take_request.Goals as goal

pub ask_now-requires-clause-terms : goal.ask_now-requires-clause-terms
ask_now-requires-clause-terms g c = g.met.Y.DayDesk.same c.args.self.now.desk c.gather_new.new.desk _ c.in_ok-answers.ensures.gathers.1 ∙ c.requires.floor.terms

pub ask_now-requires-clause-answers : goal.ask_now-requires-clause-answers
ask_now-requires-clause-answers g c =
    let asked = c.args.request.now in
    let look = c.in_ok-answers.ensures.gathers in
    gathered_few (works g.L.Link) c.args.self.now.roster.now (seen_in look.0 asked.id asked.digest) (tree_of c.args.tree.now) asked c.args.self.now.lanes.now.items c.gather_new.new.lanes.items c.in_ok-answers.answers.items look.2 c.requires.floor.lanes_are

pub returns-in_err-answers-clause-gave_up : goal.returns-in_err-answers-clause-gave_up
returns-in_err-answers-clause-gave_up g c =
    on_err c.from_residual.result _ (λ m means. request_dropped g.Y.DayDesk g.L.Link g.C.Clock g.met.Y.DayDesk.join _ _ m (tree_of c.args.tree.now) c.args.request.now c.in_err-answers.ensures.left means)

pub returns-in_err-answers-clause-floor : goal.returns-in_err-answers-clause-floor
returns-in_err-answers-clause-floor g c =
    let look = c.in_err-answers.ensures.left in
    floor_on g.Y.DayDesk g.met.Y.DayDesk.same c.args.self.now _ _ refl c.requires.floor look.1
    (lanes_on g.L.Link.exchanges g.L.Link.course g.L.Link.faults g.L.Link.place (spelling (request_for_bidders (tree_of c.args.tree.now))) c.args.request.now.id c.args.self.now.roster.now c.args.self.now.lanes.now.items c.gather_new.new.lanes.items look.2 c.requires.floor.lanes_are)

pub returns-clause-answered : goal.returns-clause-answered
returns-clause-answered g c =
    IfOk-weaker c.ask_now.result _ _
    (λ a at m means. request_answered g.Y.DayDesk g.L.Link g.C.Clock g.met.Y.DayDesk.join _ _ c.gather_new.new.desk m (tree_of c.args.tree.now) c.args.request.now c.in_ok-answers.answers.items c.in_ok-answers.answers.items (reply_of a (string_bytes c.ask_now.new.out))
    refl c.in_ok-answers.ensures.gathers at means)
    c.ask_now.ensures.asked

pub returns-clause-gave_up : goal.returns-clause-gave_up
returns-clause-gave_up g c =
    err_on c.ask_now.result _ _
    (λ stopped m means. request_stopped g.Y.DayDesk g.L.Link g.C.Clock g.met.Y.DayDesk.join _ _ c.gather_new.new.desk m (tree_of c.args.tree.now) c.args.request.now c.in_ok-answers.answers.items c.in_ok-answers.answers.items
    refl c.in_ok-answers.ensures.gathers stopped means)
    c.ask_now.ensures.stopped

pub returns-clause-floor : goal.returns-clause-floor
returns-clause-floor g c =
    let asked = c.args.request.now in
    let look = c.in_ok-answers.ensures.gathers in
    let r = c.args.self.now.roster.now in
    let runs = request_runs g.Y.DayDesk.runs g.met.Y.DayDesk.join c.args.self.now.desk c.gather_new.new.desk c.ask_now.new.desk r (IsMomentOf (g.C.Clock.moment c.args.self.now.clock.now)) asked c.in_ok-answers.answers.items (λ a. reply_of a (string_bytes c.ask_now.new.out)) look.0 c.ask_now.result look.1 c.ask_now.ensures.asked c.ask_now.ensures.stopped in
    floor_on g.Y.DayDesk g.met.Y.DayDesk.same c.args.self.now _ runs.0 refl c.requires.floor runs.1
    (lanes_on g.L.Link.exchanges g.L.Link.course g.L.Link.faults g.L.Link.place (spelling (request_for_bidders (tree_of c.args.tree.now))) asked.id r c.args.self.now.lanes.now.items c.gather_new.new.lanes.items
    (gathered_left (works g.L.Link) (seen_in look.0 asked.id asked.digest) (tree_of c.args.tree.now) asked c.args.self.now.lanes.now.items c.gather_new.new.lanes.items c.in_ok-answers.answers.items look.2) c.requires.floor.lanes_are)
