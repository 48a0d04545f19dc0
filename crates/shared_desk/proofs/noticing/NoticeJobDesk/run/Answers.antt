-- By what the notice made of the desk.
use Rattle.std.proofs.Common.{refl}
use Rattle.adx_desk.specs.declared.turn.Call.{Call}
use Rattle.shared_desk.proofs.Running.{ran_at}
use Rattle.shared_desk.proofs.noticing.NoticeJobDesk.run.Goals as goal

pub returns-clause-items : goal.returns-clause-items
returns-clause-items g c = c.noticed.ensures.made.run.items

pub returns-clause-few : goal.returns-clause-few
returns-clause-few g c = c.noticed.ensures.made.run.few

pub returns-clause-fixed : goal.returns-clause-fixed
returns-clause-fixed g c = c.noticed.ensures.made.run.fixed

pub returns-clause-no_fewer : goal.returns-clause-no_fewer
returns-clause-no_fewer g c = c.noticed.ensures.made.run.no_fewer

pub returns-clause-one_at_most : goal.returns-clause-one_at_most
returns-clause-one_at_most g c = c.noticed.ensures.made.run.one_at_most

pub returns-clause-right : goal.returns-clause-right
returns-clause-right g c = c.noticed.ensures.made.run.right

pub returns-clause-noted : goal.returns-clause-noted
returns-clause-noted g c = c.noticed.ensures.made.run.noted

pub returns-clause-counted : goal.returns-clause-counted
returns-clause-counted g c = c.noticed.ensures.made.run.counted

pub returns-clause-ran : goal.returns-clause-ran
returns-clause-ran g c =
    (refl, refl, refl, ran_at c.args.desk.now c.noticed.new.desk (Call.Notice c.args.self.now.kind c.args.self.now.auction.now c.args.self.now.award) c.noticed.result c.noticed.ensures.made)
