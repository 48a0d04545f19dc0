-- The history was looked at.
use Rattle.std.proofs.Common.{◌≡◌, List}
use Rattle.day_rules.specs.declared.entry.Entry.{Entry}
use Rattle.day_rules.specs.Replies.{seen_in}
use Rattle.exchange_http.proofs.OwnCalls.{own_looked}
use Rattle.exchange_http.proofs.own_desk.OwnDeskDayDesk.seen.Goals as goal

pub returns-clause-looks : goal.returns-clause-looks
returns-clause-looks g c =
    let old = c.args.self.now.desk.now in
    own_looked g.D.Disk old (λ (at : List Entry). c.seen.result ≡ seen_in at c.args.auction.now c.args.digest.now) (g.met.D.Disk.only_now old.disk) (g.met.D.Disk.lasts_same old.disk) c.entries-entries.ensures.legal.legal c.seen.ensures
