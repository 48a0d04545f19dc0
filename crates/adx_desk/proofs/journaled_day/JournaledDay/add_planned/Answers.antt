-- By the memory that was taken, and what the record came to.
use Rattle.std.proofs.Common.{◌≡◌, Some, sym, ap, subst}
use Rattle.std.specs.Prelude.{IfErr}
use Rattle.day_rules.specs.Legal.{MayFollow}
use Rattle.adx_desk.specs.declared.fault.DeskFault.{DeskFault}
use Rattle.adx_desk.specs.Desks.{DeskState}
use Rattle.adx_desk.specs.Endings.{EndsAsk}
use Rattle.adx_desk.specs.Journaled.{on_disk, unopened}
use Rattle.adx_desk.specs.Serving.{Serves}
use Rattle.adx_desk.proofs.Serving.{refused}
use Rattle.adx_desk.proofs.journaled_day.JournaledDay.add_planned.Goals as goal

pub append_answer-requires-clause-follows : goal.append_answer-requires-clause-follows
append_answer-requires-clause-follows g c = subst (λ (d : DeskState). MayFollow d.terms.day d.history c.args.entry) (sym c.take_room.ensures.desk) c.requires

pub returns-in-Ok-clause-serves : goal.returns-in-Ok-clause-serves
returns-in-Ok-clause-serves g c =
    let D = g.D.Disk in
    subst (λ (d : DeskState). Serves D.may_leave D.moment D.left_since (record { desk = d; disk = c.args.disk.now; since = unopened }) (on_disk c.append_answer.new.self c.append_answer.new.disk) (Some c.args.entry) c.append_answer.result) c.take_room.ensures.desk c.append_answer.ensures.serves

pub returns-in-Ok-clause-ends : goal.returns-in-Ok-clause-ends
returns-in-Ok-clause-ends g c =
    let D = g.D.Disk in
    subst (λ (d : DeskState). EndsAsk (D.faults c.args.disk.now) (D.faults c.append_answer.new.disk) d c.append_answer.new.self.desk (Some c.args.entry) c.append_answer.result) c.take_room.ensures.desk c.append_answer.ensures.ends

pub returns-in-Ok-clause-refused : goal.returns-in-Ok-clause-refused
returns-in-Ok-clause-refused g c =
    subst (λ (d : DeskState). IfErr c.append_answer.result (λ e. (e ≡ DeskFault.DiskFault → ⊥) → on_disk c.append_answer.new.self c.append_answer.new.disk ≡ record { desk = d; disk = c.args.disk.now; since = unopened })) c.take_room.ensures.desk c.append_answer.ensures.refused

pub returns-in-Err-clause-serves : goal.returns-in-Err-clause-serves
returns-in-Err-clause-serves g c =
    let D = g.D.Disk in
    refused D.may_leave D.moment D.left_since DeskFault.OutOfMemory (on_disk c.args.self.now c.args.disk.now) (on_disk c.take_room.new.self c.args.disk.now) (Some c.args.entry)
    (λ i. record { desk = c.take_room.ensures.desk i; disk = c.args.disk.now; since = unopened }) (g.met.D.Disk.only_now c.args.disk.now)

pub returns-in-Err-clause-ends : goal.returns-in-Err-clause-ends
returns-in-Err-clause-ends g c = record { disk = λ i. g.D.Disk.faults c.args.disk.now; desk = ap (λ (d : DeskState). d.faults) c.take_room.ensures.desk }

pub returns-in-Err-clause-refused : goal.returns-in-Err-clause-refused
returns-in-Err-clause-refused g c = λ other i. record { desk = c.take_room.ensures.desk i; disk = c.args.disk.now; since = unopened }
