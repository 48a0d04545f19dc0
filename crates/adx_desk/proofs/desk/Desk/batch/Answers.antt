-- By the day with its journal.
use Rattle.std.proofs.Common.{◌≡◌, ◌+◌, ◌<◌, ◌≤◌, length, Some, ◌∙◌, ap, subst}
use Rattle.adx_desk.specs.Journaled.{unopened}
use Rattle.std.specs.Prelude.{is_some, OnOk}
use Rattle.day_entries.specs.Entries.{entries_bytes}
use Rattle.day_journal.specs.Tails.{size_of}
use Rattle.day_machine.specs.Batches.{BatchState, answers_in_turn, entries_in_turn}
use Rattle.day_machine.specs.declared.batch.TheConstants.{BATCH_LIMIT}
use Rattle.adx_desk.specs.Desks.{OnDisk}
use Rattle.adx_desk.specs.Endings.{EndsNotice}
use Rattle.adx_desk.specs.Serving.{ServesAll}
use Rattle.adx_desk.proofs.Rises.{notice_within}
use Rattle.adx_desk.proofs.Serving.{keeps_some_all, notice_counts, serves_all_since}
use Rattle.adx_desk.proofs.desk.Desk.batch.Goals as goal

pub returns-clause-answers : goal.returns-clause-answers
returns-clause-answers g c =
    let was : BatchState = c.args.batch.now in
    subst (λ (o : OnDisk _). OnOk c.batch.result (c.batch.new.batch ≡ record was { answers = Some (answers_in_turn o.desk.history was.calls) })) c.self.view_is c.batch.ensures.answers

pub returns-clause-serves : goal.returns-clause-serves
returns-clause-serves g c =
    let D = g.D.Disk in
    subst (λ (o : OnDisk _). ServesAll D.may_leave D.moment D.left_since o (record { desk = c.batch.new.self.desk; disk = c.batch.new.disk; since = record { count = g.D.Disk.faults c.self.inside.opened.value; tells = is_some (g.D.Disk.reads c.self.inside.began.value) } }) (entries_in_turn o.desk.history c.args.batch.now.calls) c.batch.result) c.self.view_is
    (serves_all_since D.may_leave D.moment D.left_since (record { count = D.faults c.self.inside.opened.value; tells = is_some (D.reads c.self.inside.began.value) }) c.self.inside.kept.desk c.batch.new.self.desk c.self.inside.disk c.batch.new.disk _ c.batch.result c.batch.ensures.serves)

pub returns-clause-ends : goal.returns-clause-ends
returns-clause-ends g c =
    let D = g.D.Disk in
    subst (λ (o : OnDisk _). EndsNotice (D.faults o.disk) (D.faults c.batch.new.disk) o.desk c.batch.new.self.desk c.batch.result) c.self.view_is c.batch.ensures.ends

pub returns-clause-unmoved : goal.returns-clause-unmoved
returns-clause-unmoved g c = λ none.
    ap (λ (o : OnDisk _). record o { since = record { count = g.D.Disk.faults c.self.inside.opened.value; tells = is_some (g.D.Disk.reads c.self.inside.began.value) } }) (c.batch.ensures.unmoved (ap (λ (o : OnDisk _). entries_in_turn o.desk.history c.args.batch.now.calls) c.self.view_is ∙ none)) ∙ c.self.view_is

pub returns-clause-few : goal.returns-clause-few
returns-clause-few g c = subst (λ (o : OnDisk _). length (entries_in_turn o.desk.history c.args.batch.now.calls) ≤ BATCH_LIMIT) c.self.view_is c.batch.ensures.few

pub returns-clause-grown : goal.returns-clause-grown
returns-clause-grown g c =
    subst (λ (o : OnDisk _). OnOk c.batch.result (0 < length (entries_in_turn o.desk.history c.args.batch.now.calls) → size_of c.batch.new.self.desk.journal ≡ size_of o.desk.journal + (length (entries_bytes o.desk.journal.format (entries_in_turn o.desk.history c.args.batch.now.calls)) + 5))) c.self.view_is c.batch.ensures.grown

pub returns-clause-lasts : goal.returns-clause-lasts
returns-clause-lasts g c = subst (λ (o : OnDisk _). g.D.Disk.lasts o.disk c.batch.new.disk) c.self.view_is c.batch.ensures.lasts

pub invariant_of-self : goal.invariant_of-self
invariant_of-self g c =
    let D = g.D.Disk in
    record {
      room = c.batch.ensures.frame;
      within = notice_within (D.faults c.self.inside.opened.value) (D.faults c.self.inside.disk) (D.faults c.batch.new.disk) c.self.inside.kept.desk c.batch.new.self.desk c.batch.result c.batch.ensures.ends c.self.invariant.within;
      keeps = λ told. keeps_some_all D.may_leave D.moment D.left_since (record { desk = c.self.inside.kept.desk; disk = c.self.inside.disk; since = unopened }) (record { desk = c.batch.new.self.desk; disk = c.batch.new.disk; since = unopened }) _ c.batch.result c.batch.ensures.few (notice_counts (D.faults c.self.inside.disk) (D.faults c.batch.new.disk) (record { desk = c.self.inside.kept.desk; disk = c.self.inside.disk; since = unopened }) (record { desk = c.batch.new.self.desk; disk = c.batch.new.disk; since = unopened }) c.batch.result c.batch.ensures.ends) c.batch.ensures.serves (c.self.invariant.keeps told);
    }
