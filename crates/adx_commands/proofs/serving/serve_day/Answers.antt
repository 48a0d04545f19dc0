-- A day that is opened is served.
use Rattle.std.proofs.Common.{refl}
use Rattle.adx_links.specs.Told.{pair_by}
use Rattle.exchange_messages.specs.Floors.{IsMomentOf}
use Rattle.exchange_serving.specs.Lanes.{lists_of}
use Rattle.history_runs.proofs.Opened.{stands_lent}
use Rattle.adx_commands.proofs.ServedRuns.{all_lists, opened_ends, unused_pairs}
use Rattle.adx_commands.proofs.serving.serve_day.Goals as goal

pub serve_connections-requires-clause-none : goal.serve_connections-requires-clause-none
serve_connections-requires-clause-none g c κs within =
    unused_pairs (pair_by g.A.In.Source g.A.Out.Sink) (g.A.Acceptor.pairs c.args.acceptor) c.requires.unused

pub returns-in-Ok : goal.returns-in-Ok
returns-in-Ok g c =
    let desk = c.in-Ok.desk in let opened = c.in-Ok.ensures in record {
      ends = opened_ends g.A.Acceptor g.A.In.Source g.A.Out.Sink g.D.Disk g.L.Link (IsMomentOf (g.C.Clock.moment c.args.clock.now)) c.args.acceptor c.args.disk c.args.post
          c.served_by.result c.args.roster.now (lists_of c.args.lanes.items) desk c.args.lanes c.serve_connections.result
          (stands_lent g.D.Disk (λ disk. disk) c.args.roster.now c.args.disk desk c.args.disk desk.disk refl refl opened.opens opened.legal.legal opened.same_count)
          opened.since opened.same_count c.serve_connections.ensures.serves (all_lists c.args.lanes.items c.serve_connections.result c.serve_connections.ensures.workers)
          c.serve_connections.ensures.unserved c.served_by.ensures;
    }
