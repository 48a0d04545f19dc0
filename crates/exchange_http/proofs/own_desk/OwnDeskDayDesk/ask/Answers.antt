-- An ask was done, or given up, or wasn't taken for lack of memory.
use Rattle.day_rules.specs.Replies.{ask}
use Rattle.exchange_http.proofs.OwnCalls.{own_asked, own_refused}
use Rattle.exchange_http.proofs.own_desk.OwnDeskDayDesk.ask.Goals as goal

pub returns-clause-done : goal.returns-clause-done
returns-clause-done g c =
    let a = c.ask.ensures in
    own_asked _ c.args.self.now.desk.now c.ask.new.self c.args.ask c.entries-entries.ensures.legal.legal c.requires.formed c.requires.undecided a.lasts c.ask.result a.answer a.copy a.serves a.ends

pub returns-clause-failed : goal.returns-clause-failed
returns-clause-failed g c =
    let a = c.ask.ensures in
    let old = c.args.self.now.desk.now in
    own_refused _ old c.ask.new.self (ask c.args.ask) c.entries-entries.ensures.legal.legal (c.requires.formed, c.requires.undecided) tt a.lasts (g.met.D.Disk.only_now old.disk) c.ask.result a.serves a.ends a.refused a.size
