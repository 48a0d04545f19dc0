use Rattle.std.proofs.Common.{sym}
use Rattle.adx_links.specs.Told.{pair_by, told_by}
use Rattle.adx_links.proofs.Answered.{starts}
use Rattle.adx_links.proofs.Keeping.{opens}
use Rattle.adx_links.proofs.lobby.Lobby.open.Goals as goal

pub invariant_of-result : goal.invariant_of-result
invariant_of-result g c =
    let tells = told_by g.A.Acceptor g.A.In.Source g.A.Out.Sink in
    let r = c.requires in let a = c.args in
    let t = starts g.A.Acceptor.faults g.A.Acceptor.is_over g.A.Acceptor.pairs (pair_by g.A.In.Source g.A.Out.Sink) a.acceptor g.B.Hall.faults r.faults r.none in
    (sym r.taken, sym r.given, opens g.B.Hall.served g.B.Hall.first g.B.Hall.others g.B.Hall.faults (tells a.acceptor) a.pass r.first r.is_first r.out r.turns t.0 t.1)
