-- By the day with its journal.
use Rattle.std.proofs.Common.{◌≡◌, ◌≤◌, length, sym, ◌∙◌, ap, subst}
use Rattle.adx_desk.specs.Journaled.{unopened}
use Rattle.std.specs.Prelude.{is_some, IfErr, IfOk}
use Rattle.day_journal.specs.Tails.{size_of}
use Rattle.day_rules.specs.Asks.{IsWellFormed}
use Rattle.day_rules.specs.Replies.{ask_reply}
use Rattle.adx_desk.specs.declared.fault.DeskFault.{DeskFault}
use Rattle.adx_desk.specs.Desks.{OnDisk}
use Rattle.adx_desk.specs.Endings.{EndsAsk}
use Rattle.adx_desk.specs.Histories.{longest_size}
use Rattle.adx_desk.specs.Serving.{Serves}
use Rattle.adx_desk.proofs.Rises.{ask_within}
use Rattle.adx_desk.proofs.Serving.{ask_counts, keeps_some, refused_since, serves_since}
use Rattle.adx_desk.proofs.desk.Desk.take_ask.Goals as goal

pub returns-clause-answer : goal.returns-clause-answer
returns-clause-answer g c = subst (λ (o : OnDisk _). IfOk c.take_ask.result (λ a. a ≡ (ask_reply o.desk.terms.day o.desk.history c.args.ask).answer)) c.self.view_is c.take_ask.ensures.answer

pub returns-clause-serves : goal.returns-clause-serves
returns-clause-serves g c =
    let D = g.D.Disk in
    subst (λ (o : OnDisk _). Serves D.may_leave D.moment D.left_since o (record { desk = c.take_ask.new.self.desk; disk = c.take_ask.new.disk; since = record { count = g.D.Disk.faults c.self.inside.opened.value; tells = is_some (g.D.Disk.reads c.self.inside.began.value) } }) (ask_reply o.desk.terms.day o.desk.history c.args.ask).entry c.take_ask.result) c.self.view_is
    (serves_since D.may_leave D.moment D.left_since (record { count = D.faults c.self.inside.opened.value; tells = is_some (D.reads c.self.inside.began.value) }) c.self.inside.kept.desk c.take_ask.new.self.desk c.self.inside.disk c.take_ask.new.disk _ c.take_ask.result c.take_ask.ensures.serves)

pub returns-clause-ends : goal.returns-clause-ends
returns-clause-ends g c =
    let D = g.D.Disk in
    subst (λ (o : OnDisk _). EndsAsk (D.faults o.disk) (D.faults c.take_ask.new.disk) o.desk c.take_ask.new.self.desk (ask_reply o.desk.terms.day o.desk.history c.args.ask).entry c.take_ask.result) c.self.view_is c.take_ask.ensures.ends

pub returns-clause-unmoved : goal.returns-clause-unmoved
returns-clause-unmoved g c = λ none.
    ap (λ (o : OnDisk _). record o { since = record { count = g.D.Disk.faults c.self.inside.opened.value; tells = is_some (g.D.Disk.reads c.self.inside.began.value) } }) (c.take_ask.ensures.unmoved (ap (λ (o : OnDisk _). (ask_reply o.desk.terms.day o.desk.history c.args.ask).entry) c.self.view_is ∙ none)) ∙ c.self.view_is

pub returns-clause-lasts : goal.returns-clause-lasts
returns-clause-lasts g c = subst (λ (o : OnDisk _). g.D.Disk.lasts o.disk c.take_ask.new.disk) c.self.view_is c.take_ask.ensures.lasts

pub take_ask-requires-clause-formed : goal.take_ask-requires-clause-formed
take_ask-requires-clause-formed g c = subst (λ (o : OnDisk _). IsWellFormed (length o.desk.terms.day.budgets) c.args.ask) (sym c.self.view_is) c.requires.formed

pub returns-clause-refused : goal.returns-clause-refused
returns-clause-refused g c =
    subst (λ (o : OnDisk _). IfErr c.take_ask.result (λ e. (e ≡ DeskFault.DiskFault → ⊥) → record { desk = c.take_ask.new.self.desk; disk = c.take_ask.new.disk; since = record { count = g.D.Disk.faults c.self.inside.opened.value; tells = is_some (g.D.Disk.reads c.self.inside.began.value) } } ≡ o)) c.self.view_is
    (refused_since (record { count = g.D.Disk.faults c.self.inside.opened.value; tells = is_some (g.D.Disk.reads c.self.inside.began.value) }) c.self.inside.kept.desk c.take_ask.new.self.desk c.self.inside.disk c.take_ask.new.disk c.take_ask.result c.take_ask.ensures.refused)

pub invariant_of-self : goal.invariant_of-self
invariant_of-self g c =
    let D = g.D.Disk in
    record {
      room = c.self.invariant.room;
      within = ask_within (D.faults c.self.inside.opened.value) (D.faults c.self.inside.disk) (D.faults c.take_ask.new.disk) c.self.inside.kept.desk c.take_ask.new.self.desk (ask_reply c.self.inside.kept.desk.terms.day c.self.inside.kept.desk.history c.args.ask).entry c.take_ask.result c.take_ask.ensures.ends c.self.invariant.within;
      keeps = λ told. keeps_some D.may_leave D.moment D.left_since (record { desk = c.self.inside.kept.desk; disk = c.self.inside.disk; since = unopened }) (record { desk = c.take_ask.new.self.desk; disk = c.take_ask.new.disk; since = unopened }) _ c.take_ask.result (ask_counts (D.faults c.self.inside.disk) (D.faults c.take_ask.new.disk) (record { desk = c.self.inside.kept.desk; disk = c.self.inside.disk; since = unopened }) (record { desk = c.take_ask.new.self.desk; disk = c.take_ask.new.disk; since = unopened }) _ c.take_ask.result c.take_ask.ensures.ends c.take_ask.ensures.refused) c.take_ask.ensures.serves (c.self.invariant.keeps told);
    }

pub returns-clause-size : goal.returns-clause-size
returns-clause-size g c = subst (λ (o : OnDisk _). size_of o.desk.journal ≤ longest_size o.desk.terms o.desk.history) c.self.view_is c.take_ask.ensures.size
