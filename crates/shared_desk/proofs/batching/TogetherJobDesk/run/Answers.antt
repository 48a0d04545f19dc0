-- By what the batch made of the desk.
use Rattle.shared_desk.proofs.Together.{ran_together}
use Rattle.shared_desk.proofs.batching.TogetherJobDesk.run.Goals as goal

pub returns-clause-items : goal.returns-clause-items
returns-clause-items g c = c.answered.ensures.made.run.items

pub returns-clause-few : goal.returns-clause-few
returns-clause-few g c = c.answered.ensures.made.run.few

pub returns-clause-fixed : goal.returns-clause-fixed
returns-clause-fixed g c = c.answered.ensures.made.run.fixed

pub returns-clause-no_fewer : goal.returns-clause-no_fewer
returns-clause-no_fewer g c = c.answered.ensures.made.run.no_fewer

pub returns-clause-one_at_most : goal.returns-clause-one_at_most
returns-clause-one_at_most g c = c.answered.ensures.made.run.one_at_most

pub returns-clause-right : goal.returns-clause-right
returns-clause-right g c = c.answered.ensures.made.run.right

pub returns-clause-noted : goal.returns-clause-noted
returns-clause-noted g c = c.answered.ensures.made.run.noted

pub returns-clause-counted : goal.returns-clause-counted
returns-clause-counted g c = c.answered.ensures.made.run.counted

pub returns-clause-ran : goal.returns-clause-ran
returns-clause-ran g c =
    ran_together c.args.desk.now c.answered.new.desk c.args.lent.now c.answered.new.batch c.answered.result c.answered.ensures.made c.answered.ensures.ends
