-- By the day with its journal.
use Rattle.std.proofs.Common.{◌≡◌, ◌≤◌, ◌∙◌, ap, subst}
use Rattle.adx_desk.specs.Journaled.{unopened}
use Rattle.std.specs.Prelude.{is_some, IfErr, IfOk}
use Rattle.day_journal.specs.Tails.{size_of}
use Rattle.day_rules.specs.Entries.{change_of}
use Rattle.day_rules.specs.Replies.{budget_reply}
use Rattle.adx_desk.specs.declared.fault.DeskFault.{DeskFault}
use Rattle.adx_desk.specs.Desks.{OnDisk}
use Rattle.adx_desk.specs.Endings.{EndsAsk}
use Rattle.adx_desk.specs.Histories.{longest_size}
use Rattle.adx_desk.specs.Serving.{Serves}
use Rattle.adx_desk.proofs.Rises.{ask_within}
use Rattle.adx_desk.proofs.Serving.{ask_counts, keeps_some, refused_since, serves_since}
use Rattle.adx_desk.proofs.desk.Desk.set_budget.Goals as goal

pub returns-clause-answer : goal.returns-clause-answer
returns-clause-answer g c = subst (λ (o : OnDisk _). IfOk c.set_budget.result (λ a. a ≡ (budget_reply o.desk.terms.day o.desk.history (change_of c.args.campaign c.args.change c.args.budget)).answer)) c.self.view_is c.set_budget.ensures.answer

pub returns-clause-serves : goal.returns-clause-serves
returns-clause-serves g c =
    let D = g.D.Disk in
    subst (λ (o : OnDisk _). Serves D.may_leave D.moment D.left_since o (record { desk = c.set_budget.new.self.desk; disk = c.set_budget.new.disk; since = record { count = g.D.Disk.faults c.self.inside.opened.value; tells = is_some (g.D.Disk.reads c.self.inside.began.value) } }) (budget_reply o.desk.terms.day o.desk.history (change_of c.args.campaign c.args.change c.args.budget)).entry c.set_budget.result) c.self.view_is
    (serves_since D.may_leave D.moment D.left_since (record { count = D.faults c.self.inside.opened.value; tells = is_some (D.reads c.self.inside.began.value) }) c.self.inside.kept.desk c.set_budget.new.self.desk c.self.inside.disk c.set_budget.new.disk _ c.set_budget.result c.set_budget.ensures.serves)

pub returns-clause-ends : goal.returns-clause-ends
returns-clause-ends g c =
    let D = g.D.Disk in
    subst (λ (o : OnDisk _). EndsAsk (D.faults o.disk) (D.faults c.set_budget.new.disk) o.desk c.set_budget.new.self.desk (budget_reply o.desk.terms.day o.desk.history (change_of c.args.campaign c.args.change c.args.budget)).entry c.set_budget.result) c.self.view_is c.set_budget.ensures.ends

pub returns-clause-unmoved : goal.returns-clause-unmoved
returns-clause-unmoved g c = λ none.
    ap (λ (o : OnDisk _). record o { since = record { count = g.D.Disk.faults c.self.inside.opened.value; tells = is_some (g.D.Disk.reads c.self.inside.began.value) } }) (c.set_budget.ensures.unmoved (ap (λ (o : OnDisk _). (budget_reply o.desk.terms.day o.desk.history (change_of c.args.campaign c.args.change c.args.budget)).entry) c.self.view_is ∙ none)) ∙ c.self.view_is

pub returns-clause-lasts : goal.returns-clause-lasts
returns-clause-lasts g c = subst (λ (o : OnDisk _). g.D.Disk.lasts o.disk c.set_budget.new.disk) c.self.view_is c.set_budget.ensures.lasts

pub returns-clause-refused : goal.returns-clause-refused
returns-clause-refused g c =
    subst (λ (o : OnDisk _). IfErr c.set_budget.result (λ e. (e ≡ DeskFault.DiskFault → ⊥) → record { desk = c.set_budget.new.self.desk; disk = c.set_budget.new.disk; since = record { count = g.D.Disk.faults c.self.inside.opened.value; tells = is_some (g.D.Disk.reads c.self.inside.began.value) } } ≡ o)) c.self.view_is
    (refused_since (record { count = g.D.Disk.faults c.self.inside.opened.value; tells = is_some (g.D.Disk.reads c.self.inside.began.value) }) c.self.inside.kept.desk c.set_budget.new.self.desk c.self.inside.disk c.set_budget.new.disk c.set_budget.result c.set_budget.ensures.refused)

pub invariant_of-self : goal.invariant_of-self
invariant_of-self g c =
    let D = g.D.Disk in
    record {
      room = c.self.invariant.room;
      within = ask_within (D.faults c.self.inside.opened.value) (D.faults c.self.inside.disk) (D.faults c.set_budget.new.disk) c.self.inside.kept.desk c.set_budget.new.self.desk (budget_reply c.self.inside.kept.desk.terms.day c.self.inside.kept.desk.history (change_of c.args.campaign c.args.change c.args.budget)).entry c.set_budget.result c.set_budget.ensures.ends c.self.invariant.within;
      keeps = λ told. keeps_some D.may_leave D.moment D.left_since (record { desk = c.self.inside.kept.desk; disk = c.self.inside.disk; since = unopened }) (record { desk = c.set_budget.new.self.desk; disk = c.set_budget.new.disk; since = unopened }) _ c.set_budget.result (ask_counts (D.faults c.self.inside.disk) (D.faults c.set_budget.new.disk) (record { desk = c.self.inside.kept.desk; disk = c.self.inside.disk; since = unopened }) (record { desk = c.set_budget.new.self.desk; disk = c.set_budget.new.disk; since = unopened }) _ c.set_budget.result c.set_budget.ensures.ends c.set_budget.ensures.refused) c.set_budget.ensures.serves (c.self.invariant.keeps told);
    }

pub returns-clause-size : goal.returns-clause-size
returns-clause-size g c = subst (λ (o : OnDisk _). size_of o.desk.journal ≤ longest_size o.desk.terms o.desk.history) c.self.view_is c.set_budget.ensures.size
