-- A change of a budget was done, or given up, or wasn't taken for lack of memory.
use Rattle.day_rules.specs.Entries.{change_of}
use Rattle.day_rules.specs.Replies.{set_budget}
use Rattle.exchange_http.proofs.OwnCalls.{own_changed, own_refused}
use Rattle.exchange_http.proofs.own_desk.OwnDeskDayDesk.set_budget.Goals as goal

pub returns-clause-done : goal.returns-clause-done
returns-clause-done g c =
    let b = c.set_budget.ensures in
    own_changed _ c.args.self.now.desk.now c.set_budget.new.self (change_of c.args.campaign c.args.change c.args.budget) c.entries-entries.ensures.legal.legal c.requires.change c.requires.budget b.lasts c.set_budget.result b.answer b.serves b.ends

pub returns-clause-failed : goal.returns-clause-failed
returns-clause-failed g c =
    let b = c.set_budget.ensures in
    let old = c.args.self.now.desk.now in
    let x = change_of c.args.campaign c.args.change c.args.budget in
    own_refused _ old c.set_budget.new.self (set_budget x) c.entries-entries.ensures.legal.legal (c.requires.change, c.requires.budget) tt b.lasts (g.met.D.Disk.only_now old.disk) c.set_budget.result b.serves b.ends b.refused b.size
