-- By what the record came to.
use Rattle.std.proofs.Common.{Some}
use Rattle.day_rules.specs.declared.answer.Answer.{Answer}
use Rattle.adx_desk.proofs.Ending.{ends_ask}
use Rattle.adx_desk.proofs.Serving.{told_err, told_ok}
use Rattle.adx_desk.proofs.journaled_day.JournaledDay.append_answer.Goals as goal

pub returns-in-Ok-clause-serves : goal.returns-in-Ok-clause-serves
returns-in-Ok-clause-serves g c =
    let D = g.D.Disk in
    told_ok D.may_leave D.moment D.left_since _ c.args.answer _ _ (Some c.args.entry) c.in-Ok.ensures.serves

pub returns-in-Ok-clause-ends : goal.returns-in-Ok-clause-ends
returns-in-Ok-clause-ends g c = c.in-Ok.ensures.ends

pub returns-in-Err-clause-serves : goal.returns-in-Err-clause-serves
returns-in-Err-clause-serves g c =
    let D = g.D.Disk in
    told_err D.may_leave D.moment D.left_since c.in-Err.fault _ _ (Some c.args.entry) c.in-Err.ensures.serves

pub returns-in-Err-clause-ends : goal.returns-in-Err-clause-ends
returns-in-Err-clause-ends g c = ends_ask (Unit {0}) Answer _ _ _ _ c.args.entry c.in-Err.fault c.in-Err.ensures.ends
