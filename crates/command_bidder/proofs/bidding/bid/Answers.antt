use Rattle.adx_links.specs.Told.{told_by}
use Rattle.command_bidder.proofs.Served.{ends_bid}
use Rattle.command_bidder.proofs.bidding.bid.Goals as goal

pub returns-in-Ok : goal.returns-in-Ok
returns-in-Ok g c =
    let tells = told_by g.A.Acceptor g.A.In.Source g.A.Out.Sink in
    record {
      ends = ends_bid c.args.document.now (tells c.args.acceptor.now) (tells c.serve_all.new.acceptor) c.in-Ok.found c.serve_all.new.bidder c.serve_all.result
          c.in-Ok.ensures.finds c.in-Ok.ensures.fresh c.serve_all.ensures;
    }
