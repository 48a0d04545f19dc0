use Rattle.std.proofs.Common.{sym, subst}
use Rattle.adx_links.specs.Pairs.{PairTold}
use Rattle.adx_links.specs.Told.{pair_by}
use Rattle.command_bidder.specs.Connections.{IsServed}
use Rattle.command_bidder.proofs.turn.serve_pair.Goals as goal

pub returns-clause-served : goal.returns-clause-served
returns-clause-served g c =
    let came = pair_by g.A.In.Source g.A.Out.Sink c.args.pair.now in
    let end = c.serve_bidder-end in
    subst (λ (left : PairTold). IsServed c.args.bidder.now (record { came = came; left = left; end = end.result }) end.new.bidder) (sym c.finish.ensures.same)
    (record { new = c.requires; ends = end.ensures.ends; causes = end.ensures.causes })
