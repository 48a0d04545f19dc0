-- A desk that was opened has its roster's terms.
use Rattle.shared_serving_tests.proofs.days.desk_of.Goals as goal

pub returns-in-Ok : goal.returns-in-Ok
returns-in-Ok c = c.in-Ok.ensures.opens.same_terms
