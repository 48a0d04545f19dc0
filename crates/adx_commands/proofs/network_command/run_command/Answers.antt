-- Serving is what the words ask for.
use Rattle.std.proofs.Common.{sym, subst, Some}
use Rattle.exchange_messages.specs.Floors.{IsMomentOf}
use Rattle.adx_commands.specs.Causes.{HasCausesAs}
use Rattle.adx_commands.specs.NetworkCommands.{Runs}
use Rattle.adx_commands.proofs.ServedRuns.{serving_causes}
use Rattle.adx_commands.proofs.network_command.run_command.Goals as goal

pub returns-in-Serve-clause-runs : goal.returns-in-Serve-clause-runs
returns-in-Serve-clause-runs g c =
    subst (λ command. Runs g.A.Acceptor g.A.In.Source g.A.Out.Sink g.D.Disk g.L.Link (IsMomentOf (g.C.Clock.moment c.args.clock.now)) c.args.document.now c.args.objects c.run_serve.result (Some command))
    (sym c.in-Serve.is) c.run_serve.ensures.runs

pub returns-in-Serve-clause-causes : goal.returns-in-Serve-clause-causes
returns-in-Serve-clause-causes g c =
    subst (λ command. HasCausesAs g.A.Acceptor g.D.Disk c.args.objects c.run_serve.result (Some command)) (sym c.in-Serve.is)
    (serving_causes g.A.Acceptor g.A.In.Source g.A.Out.Sink g.D.Disk g.L.Link (IsMomentOf (g.C.Clock.moment c.args.clock.now)) c.args.objects c.run_serve.result
    c.args.document.now c.in-Serve.workers c.run_serve.ensures.runs)
