-- Both passes are the desk's, the other desk is of the same day, and each bidder has its lane.
use Rattle.std.proofs.Common.{◌≡◌}
use Rattle.adx_desk.specs.Rosters.{desk_terms}
use Rattle.exchange_messages.specs.Floors.{AreLanes}
use Rattle.turnstile.specs.Passes.{IsOf}
use Rattle.shared_serving_tests.proofs.alike.are_same.Given as goal

abbrev pub invariant-loop-course : goal.invariant-loop-course
invariant-loop-course g l = record {
  ours : IsOf l.ours l.desk;
  theirs : IsOf l.theirs l.desk;
  terms : l.other.desk.terms ≡ desk_terms l.roster;
  lanes : AreLanes l.roster l.lanes.items;
}
