-- Lanes over links that fit are the roster's, one list for each of the workers.
use Rattle.std.proofs.Common.{sym, subst, ◌<◌, ◌≤◌, ℕ}
use Rattle.std.proofs.lemmas.List.Elements.{All-get_or}
use Rattle.command_words.specs.declared.network.TheConstants.{MOST_WORKERS}
use Rattle.exchange_messages.specs.Floors.{AreLanes}
use Rattle.exchange_serving.specs.Lanes.{lists_of}
use Rattle.adx_commands.specs.Lanes.{AreWorkersOver, FitWorkers, links_in}
use Rattle.adx_commands.proofs.LinkLanes.{all_lanes, as_many}
use Rattle.adx_commands.proofs.serving.serve_roster.Goals as goal

pub serve_day-requires-clause-workers : goal.serve_day-requires-clause-workers
serve_day-requires-clause-workers g c κs within =
    let fit = subst (λ places. AreWorkersOver places (links_in c.args.objects.links.items) (lists_of c.in-Ok-Some.lanes.items)) c.as_slice.ensures
    (subst (FitWorkers c.as_slice.result.now c.args.objects.links.items) c.in-Ok-Some.field-0-is c.in-Ok-Some.ensures) in
    subst (λ (n : ℕ). (0 < n) × (n ≤ MOST_WORKERS)) (sym (as_many c.args.roster.now c.args.objects.links.items c.in-Ok-Some.lanes.items fit)) c.requires.workers

pub serve_day-requires-clause-lanes : goal.serve_day-requires-clause-lanes
serve_day-requires-clause-lanes g c κs within =
    let fit = subst (λ places. AreWorkersOver places (links_in c.args.objects.links.items) (lists_of c.in-Ok-Some.lanes.items)) c.as_slice.ensures
    (subst (FitWorkers c.as_slice.result.now c.args.objects.links.items) c.in-Ok-Some.field-0-is c.in-Ok-Some.ensures) in
    let workers = lists_of c.in-Ok-Some.lanes.items in
    λ k d below. All-get_or (AreLanes c.args.roster.now) workers k d below (all_lanes c.args.roster.now (links_in c.args.objects.links.items) workers fit)
