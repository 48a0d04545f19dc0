use Rattle.std.proofs.Common.{List, refl, sym, subst}
use Rattle.adx_links.specs.Told.{told_by}
use Rattle.day_rules.specs.declared.entry.Entry.{Entry}
use Rattle.exchange_messages.specs.Floors.{IsMomentOf}
use Rattle.exchange_serving.specs.Lanes.{lists_of}
use Rattle.exchange_serving.specs.Served.{ServesDay}
use Rattle.exchange_serving.specs.Unserved.{LeavesPost}
use Rattle.exchange_serving.proofs.Begun.{has_own}
use Rattle.exchange_serving.proofs.serving.serve_connections.Goals as goal

pub serve_shared_desk-requires-clause-mail : goal.serve_shared_desk-requires-clause-mail
serve_shared_desk-requires-clause-mail g c κs within = has_own g.L.Link c.args.desk.desk.history c.in-Ok-share.begun.first.seen c.args.post c.in-Ok.prepared.mail c.in-Ok-share.ensures.begun.seen c.in-Ok.ensures.link c.in-Ok.ensures.mail

pub returns-in-Ok-serve_shared_desk-clause-serves : goal.returns-in-Ok-serve_shared_desk-clause-serves
returns-in-Ok-serve_shared_desk-clause-serves g c =
    let told = told_by g.A.Acceptor g.A.In.Source g.A.Out.Sink in
    let s = c.in-Ok-serve_shared_desk.served in
    subst (λ (k : g.row.L.Denot). ServesDay g.D.Disk g.L.Link (IsMomentOf (g.C.Clock.moment c.args.clock.now)) c.args.roster.now (lists_of c.args.lanes.items) c.args.desk s.disk
    (told c.args.acceptor) (told s.acceptor) k s.post s.ending)
    c.in-Ok.ensures.link
    (c.in-Ok-serve_shared_desk.ensures.serves c.args.desk c.in-Ok-share.ensures.begun.seen (sym c.in-Ok-share.ensures.opened))

pub returns-in-Err-serve_shared_desk-clause-unserved : goal.returns-in-Err-serve_shared_desk-clause-unserved
returns-in-Err-serve_shared_desk-clause-unserved g c =
    let post = c.in-Err-serve_shared_desk.post in
    subst (λ (k : g.row.L.Denot). LeavesPost g.L.Link c.args.roster.now c.args.desk.desk.history k post) c.in-Ok.ensures.link
    (subst (λ (h : List Entry). LeavesPost g.L.Link c.args.roster.now h c.in-Ok.prepared.mail.link post) (sym c.in-Ok-share.ensures.begun.seen) c.in-Err-serve_shared_desk.ensures.lost)

pub returns-in-Err-share-clause-unserved : goal.returns-in-Err-share-clause-unserved
returns-in-Err-share-clause-unserved g c = (refl, refl, c.in-Ok.ensures.link)

pub returns-in-Err-clause-unserved : goal.returns-in-Err-clause-unserved
returns-in-Err-clause-unserved g c = (refl, refl, refl, c.in-Err.ensures.back)
