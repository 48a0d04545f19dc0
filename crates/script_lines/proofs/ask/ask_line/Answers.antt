-- The ask of the request and the answers, or the request's first fault.
use Rattle.std.proofs.Common.{◌≤◌, length, option_map, ap, subst, ◌∙◌}
use Rattle.adx_json.specs.View.{tree_of, trees_of}
use Rattle.script_lines.specs.Members.{answers_in}
use Rattle.script_lines.specs.Meanings.{GivesAnswer}
use Rattle.script_lines.proofs.Asked.{answers_few, ask_found, ask_refused}
use Rattle.script_lines.proofs.ask.ask_line.Goals as goal

pub returns-in-Err-clause-means : goal.returns-in-Err-clause-means
returns-in-Err-clause-means c =
    let given = option_map (λ t. tree_of t.now) c.args.members.answers in
    ask_refused c.args.roster.now (tree_of c.args.request.now) _ _ (trees_of c.in-Some.answers.now) c.in-Some-ask_moment.now c.in-Err.fault
    (c.in-Some.ensures.value ∙ ap (λ n. answers_in n given) c.len.ensures) c.in-Some-ask_moment.ensures.value c.in-Err.ensures

pub make_ask-requires-clause-answers : goal.make_ask-requires-clause-answers
make_ask-requires-clause-answers c =
    let few : length c.in-Some.answers.now ≤ length c.args.roster.now.bidders = subst (λ n. length c.in-Some.answers.now ≤ n) c.len.ensures c.in-Some.ensures.few in
    answers_few (GivesAnswer c.in-Ok.request.id) c.in-Some.answers.now c.in_ok-answers.answers.items (length c.args.roster.now.bidders) c.in_ok-answers.ensures few

pub returns-clause-means : goal.returns-clause-means
returns-clause-means c =
    let given = option_map (λ t. tree_of t.now) c.args.members.answers in
    ask_found c.args.roster.now (tree_of c.args.request.now) _ _ (trees_of c.in-Some.answers.now) c.in-Some-ask_moment.now c.in-Ok.request c.in_ok-answers.answers.items c.in_ok-make_ask.field-0
    (c.in-Some.ensures.value ∙ ap (λ n. answers_in n given) c.len.ensures) c.in-Some-ask_moment.ensures.value c.in-Ok.ensures
    c.in_ok-answers.ensures c.in_ok-make_ask.ensures.gives
