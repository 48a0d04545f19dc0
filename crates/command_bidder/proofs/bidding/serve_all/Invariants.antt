use Rattle.std.specs.Prelude.{◌≡◌}
use Rattle.adx_links.specs.Told.{told_by}
use Rattle.command_bidder.specs.Turns.{HasServedSome}
use Rattle.command_bidder.proofs.bidding.serve_all.Given as goal

-- so far these connections were served, and the acceptor has not failed
abbrev pub invariant-loop : goal.invariant-loop
invariant-loop g l =
    let tells = told_by g.A.Acceptor g.A.In.Source g.A.Out.Sink in
    HasServedSome (tells l.acceptor) l.fn.bidder l.bidder l.short × (g.A.Acceptor.faults l.acceptor ≡ g.A.Acceptor.faults l.fn.acceptor)
