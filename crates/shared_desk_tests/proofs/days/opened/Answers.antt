use Rattle.adx_desk.proofs.Rosters.{as_many_budgets}
use Rattle.shared_desk_tests.proofs.days.opened.Goals as goal

pub returns-in-Ok-clause-two : goal.returns-in-Ok-clause-two
returns-in-Ok-clause-two c = as_many_budgets c.in-Ok.desk.desk.terms c.args.roster.now 2 c.in-Ok.ensures.opens.same_terms c.requires
