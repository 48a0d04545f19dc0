-- The history was looked at.
use Rattle.std.proofs.Common.{◌≡◌, List, OnOk, string_bytes}
use Rattle.adx_desk.specs.Rosters.{desk_terms}
use Rattle.answer_lines.specs.Table.{closing_table}
use Rattle.day_rules.specs.declared.entry.Entry.{Entry}
use Rattle.exchange_http.proofs.OwnCalls.{behind_none, own_looked}
use Rattle.exchange_http.proofs.own_desk.OwnDeskDayDesk.push_books.Goals as goal

pub returns-clause-looks : goal.returns-clause-looks
returns-clause-looks g c =
    let old = c.args.self.now.desk.now in
    let r = c.args.roster.now in
    own_looked g.D.Disk old (λ (at : List Entry). OnOk c.push_books.result (string_bytes c.push_books.new.out ≡ closing_table r.campaigns (desk_terms r).day at)) (g.met.D.Disk.only_now old.disk) (g.met.D.Disk.lasts_same old.disk) c.entries-entries.ensures.legal.legal
    (behind_none c.push_books.result _ _ _ c.requires.empty c.push_books.ensures)
