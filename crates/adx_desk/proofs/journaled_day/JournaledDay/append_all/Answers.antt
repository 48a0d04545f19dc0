-- The entries of a batch in the journal, and then in the history.
use Rattle.std.proofs.Common.{◌≡◌, ◌++◌, List, length, Some, sym, ◌∙◌, ap, arith}
use Rattle.day_rules.specs.declared.entry.Entry.{Entry}
use Rattle.day_rules.specs.Laws.{after_arrivals}
use Rattle.day_machine.specs.Batches.{answers_in_turn, entries_in_turn}
use Rattle.adx_desk.specs.Desks.{DeskState}
use Rattle.adx_desk.specs.Journaled.{JournaledState}
use Rattle.day_machine.proofs.InTurn.{arrivals_are}
use Rattle.adx_desk.proofs.Batching.{may_add_all}
use Rattle.adx_desk.proofs.Inside.{journaled_added, known}
use Rattle.adx_desk.proofs.Serving.{added, failed}
use Rattle.adx_desk.proofs.Sizes.{bytes_some}
use Rattle.adx_desk.proofs.journaled_day.JournaledDay.append_all.Goals as goal

pub append-requires : goal.append-requires
append-requires g c =
    omega (arith, ap length c.requires.payload, bytes_some c.args.self.now.desk.journal.format (entries_in_turn c.args.self.now.desk.history c.args.batch.now.calls) c.requires.some)

pub commit-self-inside-requires-clause-answers : goal.commit-self-inside-requires-clause-answers
commit-self-inside-requires-clause-answers g c =
    c.requires.answers ∙ ap (λ (t : JournaledState). Some (answers_in_turn t.desk.history c.args.batch.now.calls)) (sym c.self.view_is)

pub invariant_of-self : goal.invariant_of-self
invariant_of-self g c =
    let s : JournaledState = c.args.self.now in
    let xs = c.args.batch.now.calls in
    let es = entries_in_turn s.desk.history xs in
    let k = known c.self.inside.day c.self.inside.digest c.self.inside.journal c.self.inside.faults c.self.inside.without_end s c.self.invariant c.self.view_is in
    let add = may_add_all s.desk xs k.is_day k.room c.requires.some c.requires.fits in
    let was = ap (λ (t : JournaledState). t.desk.history) c.self.view_is in
    journaled_added c.self.inside.day c.commit-self-inside.new.day c.self.inside.digest c.self.inside.journal c.append.new.self s.desk c.self.inside.without_end c.commit-self-inside.result c.args.frame.now.payload es
    c.commit-self-inside.ensures.terms
    (c.commit-self-inside.ensures.history ∙ (arrivals_are c.self.inside.day.history xs ∙ ap (λ (h : List Entry). c.self.inside.day.history ++ entries_in_turn h xs) was))
    c.self.invariant (ap (λ (t : JournaledState). t.desk.journal) c.self.view_is) (ap (λ (t : JournaledState). t.desk.terms.day) c.self.view_is) was
    c.requires.payload c.in-Ok.ensures.grown c.append.ensures.format add c.commit-self-inside.ensures.counted

pub returns-in-Ok-clause-serves : goal.returns-in-Ok-clause-serves
returns-in-Ok-clause-serves g c =
    let D = g.D.Disk in
    let s : JournaledState = c.args.self.now in
    let xs = c.args.batch.now.calls in
    let es = entries_in_turn s.desk.history xs in
    let k = known c.self.inside.day c.self.inside.digest c.self.inside.journal c.self.inside.faults c.self.inside.without_end s c.self.invariant c.self.view_is in
    let add = may_add_all s.desk xs k.is_day k.room c.requires.some c.requires.fits in
    let next : DeskState = record {
      terms = record { day = c.commit-self-inside.new.day.terms; digest = c.self.inside.digest };
      history = c.commit-self-inside.new.day.history;
      journal = c.append.new.self;
      faults = c.self.inside.faults;
    } in
    let terms : next.terms ≡ s.desk.terms =
    ap (λ t. record { day = t; digest = c.self.inside.digest }) c.commit-self-inside.ensures.terms ∙ ap (λ (t : JournaledState). t.desk.terms) c.self.view_is in
    let history : next.history ≡ s.desk.history ++ es = c.commit-self-inside.ensures.history ∙ (ap (λ (t : JournaledState). after_arrivals t.desk.history xs) c.self.view_is ∙ arrivals_are s.desk.history xs) in
    added D.may_leave D.moment D.left_since _ s.desk next c.self.inside.journal c.args.frame.now.payload c.args.disk.now c.append.new.disk es
    (ap (λ (t : JournaledState). t.desk.journal) c.self.view_is) c.requires.payload terms history c.append.ensures.format add c.in-Ok.ensures.any_moment c.in-Ok.ensures.acknowledged

pub returns-in-Ok-clause-ends : goal.returns-in-Ok-clause-ends
returns-in-Ok-clause-ends g c = record { disk = c.in-Ok.ensures.ends.1; desk = ap (λ (t : JournaledState). t.desk.faults) c.self.view_is }

pub returns-in-Ok-clause-grown : goal.returns-in-Ok-clause-grown
returns-in-Ok-clause-grown g c =
    omega (arith, c.in-Ok.ensures.grown, ap (λ (t : JournaledState). t.desk.journal.gate) c.self.view_is, ap length c.requires.payload)

pub returns-in-Err-DiskFault-clause-serves : goal.returns-in-Err-DiskFault-clause-serves
returns-in-Err-DiskFault-clause-serves g c =
    let D = g.D.Disk in
    let s : JournaledState = c.args.self.now in
    let xs = c.args.batch.now.calls in
    let es = entries_in_turn s.desk.history xs in
    let k = known c.self.inside.day c.self.inside.digest c.self.inside.journal c.self.inside.faults c.self.inside.without_end s c.self.invariant c.self.view_is in
    let add = may_add_all s.desk xs k.is_day k.room c.requires.some c.requires.fits in
    let next : DeskState = record {
      terms = record { day = c.self.inside.day.terms; digest = c.self.inside.digest };
      history = c.self.inside.day.history;
      journal = c.append.new.self;
      faults = c.saturating_add-faults.result;
    } in
    failed D.may_leave D.moment D.left_since _ s.desk next c.self.inside.journal c.args.frame.now.payload c.args.disk.now c.append.new.disk es
    (ap (λ (t : JournaledState). t.desk.journal) c.self.view_is) c.requires.payload (ap (λ (t : JournaledState). t.desk.terms) c.self.view_is) (ap (λ (t : JournaledState). t.desk.history) c.self.view_is)
    c.append.ensures.format add c.in-Err-DiskFault.ensures.any_moment c.in-Err-DiskFault.ensures.doubted

pub returns-in-Err-DiskFault-clause-ends : goal.returns-in-Err-DiskFault-clause-ends
returns-in-Err-DiskFault-clause-ends g c =
    let ends = rw c.in-Err-DiskFault.field-0-is at c.in-Err-DiskFault.ensures.ends in
    record {
      later = ends.1;
      risen = ends.2;
      counted = omega (arith, c.saturating_add-faults.ensures, ap (λ (t : JournaledState). t.desk.faults) c.self.view_is);
    }

pub unreachable-requires : goal.unreachable-requires
unreachable-requires g c =
    let s : JournaledState = c.args.self.now in
    let xs = c.args.batch.now.calls in
    let k = known c.self.inside.day c.self.inside.digest c.self.inside.journal c.self.inside.faults c.self.inside.without_end s c.self.invariant c.self.view_is in
    let add = may_add_all s.desk xs k.is_day k.room c.requires.some c.requires.fits in
    let ends = rw c.in-Err-Full.field-0-is at c.in-Err-Full.ensures.ends in
    omega (arith, ends.0, add.room, ap length c.requires.payload, ap (λ (t : JournaledState). t.desk.journal.gate) c.self.view_is)
