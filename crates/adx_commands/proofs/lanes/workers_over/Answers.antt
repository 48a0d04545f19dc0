-- Each list that is taken has a worker, unless its links don't fit.
use Rattle.std.proofs.Common.{sym, subst}
use Rattle.adx_commands.specs.Lanes.{FitLanes}
use Rattle.adx_commands.proofs.LinkLanes.{AreFilledWorkers, workers_more, workers_unfit}
use Rattle.adx_commands.proofs.lanes.workers_over.Goals as goal

pub lists-preserved : goal.lists-preserved
lists-preserved g c =
    let links = c.in-Some.links in
    subst (λ workers. AreFilledWorkers c.args.places.now c.args.lists.items workers c.pop_front.new.self.items) (sym c.in_ok-push-in-Some-2.ensures.items)
    (workers_more c.args.places.now c.args.lists.items c.lists.workers.items c.lists.left.items c.pop_front.new.self.items links c.in-Some-2.lanes c.in-Some.ensures.items
    (subst (FitLanes c.args.places.now links.items) c.in-Some-2.is c.in_ok-lanes.ensures) c.lists.invariant)

pub returns-in-None : goal.returns-in-None
returns-in-None g c =
    let links = c.in-Some.links in
    workers_unfit c.args.places.now c.args.lists.items c.lists.workers.items c.lists.left.items c.pop_front.new.self.items links c.in-Some.ensures.items
    (subst (FitLanes c.args.places.now links.items) c.in-None.is c.in_ok-lanes.ensures) c.lists.invariant
