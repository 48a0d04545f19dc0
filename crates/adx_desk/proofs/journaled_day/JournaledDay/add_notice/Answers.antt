-- An answer, and the entry of a notice or a tick.
use Rattle.std.proofs.Common.{Option, Some, sym, ◌∙◌, subst}
use Rattle.std.specs.Prelude.{Err, Ok}
use Rattle.std.proofs.lemmas.Option.{none-some}
use Rattle.day_rules.specs.declared.answer.Answer.{Answer}
use Rattle.day_rules.specs.declared.entry.Entry.{Entry}
use Rattle.adx_desk.specs.Journaled.{on_disk}
use Rattle.adx_desk.specs.Serving.{Serves}
use Rattle.adx_desk.proofs.Ending.{ends_notice}
use Rattle.adx_desk.proofs.Serving.{nothing, told_err, told_ok}
use Rattle.adx_desk.proofs.journaled_day.JournaledDay.add_notice.Goals as goal

pub returns-in-None-clause-serves : goal.returns-in-None-clause-serves
returns-in-None-clause-serves g c =
    let D = g.D.Disk in
    nothing D.may_leave D.moment D.left_since c.args.answer (on_disk c.args.self.now c.args.disk.now) (on_disk c.args.self.now c.args.disk.now) c.args.entry c.in-None.is (λ i. on_disk c.args.self.now c.args.disk.now) (g.met.D.Disk.only_now c.args.disk.now)

pub returns-in-Ok-clause-serves : goal.returns-in-Ok-clause-serves
returns-in-Ok-clause-serves g c =
    let D = g.D.Disk in
    subst (λ (o : Option Entry). Serves D.may_leave D.moment D.left_since (on_disk c.args.self.now c.args.disk.now) (on_disk c.append.new.self c.append.new.disk) o (Ok c.args.answer)) (sym c.in-Some.is)
    (told_ok D.may_leave D.moment D.left_since _ c.args.answer _ _ (Some c.in-Some.entry) c.in-Ok.ensures.serves)

pub returns-in-Ok-clause-ends : goal.returns-in-Ok-clause-ends
returns-in-Ok-clause-ends g c = c.in-Ok.ensures.ends.1

pub returns-in-Err-clause-serves : goal.returns-in-Err-clause-serves
returns-in-Err-clause-serves g c =
    let D = g.D.Disk in
    subst (λ (o : Option Entry). Serves {T = Answer} D.may_leave D.moment D.left_since (on_disk c.args.self.now c.args.disk.now) (on_disk c.append.new.self c.append.new.disk) o (Err c.in-Err.fault)) (sym c.in-Some.is)
    (told_err D.may_leave D.moment D.left_since c.in-Err.fault _ _ (Some c.in-Some.entry) c.in-Err.ensures.serves)

pub returns-in-Err-clause-ends : goal.returns-in-Err-clause-ends
returns-in-Err-clause-ends g c =
    ends_notice (Unit {0}) Answer _ _ _ _ c.in-Some.entry c.in-Err.fault (c.in-Err.ensures.always (c.requires.no_ask c.in-Some.entry c.in-Some.is)) c.in-Err.ensures.ends

pub returns-in-Ok-clause-unmoved : goal.returns-in-Ok-clause-unmoved
returns-in-Ok-clause-unmoved g c = λ none. absurd (none-some c.in-Some.entry (sym none ∙ c.in-Some.is))

pub returns-in-Err-clause-unmoved : goal.returns-in-Err-clause-unmoved
returns-in-Err-clause-unmoved g c = λ none. absurd (none-some c.in-Some.entry (sym none ∙ c.in-Some.is))
