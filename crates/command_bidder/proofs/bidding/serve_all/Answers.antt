use Rattle.std.proofs.Common.{◌∙◌}
use Rattle.adx_links.specs.Told.{told_by}
use Rattle.command_bidder.proofs.Served.{serves_more}
use Rattle.command_bidder.proofs.bidding.serve_all.Goals as goal

pub loop-preserved : goal.loop-preserved
loop-preserved g c =
    let tells = told_by g.A.Acceptor g.A.In.Source g.A.Out.Sink in
    let so_far = c.loop.invariant in let turn = c.in-Served.ensures in (
      serves_more (tells c.loop.acceptor) (tells c.take_turn.new.acceptor) c.args.bidder.now c.loop.bidder c.take_turn.new.bidder c.loop.short c.in-Served.wanting so_far.0 turn,
      turn.faults ∙ so_far.1,
    )
