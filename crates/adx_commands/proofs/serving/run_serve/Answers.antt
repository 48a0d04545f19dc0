-- The roster that the document begins with is served, or the document has none.
use Rattle.std.proofs.Common.{◌≡◌, ◌∙◌, Err, Some, ap, length, subst, arith}
use Rattle.exchange_messages.specs.Floors.{IsMomentOf}
use Rattle.command_notices.specs.Rosters.{FindsFirst}
use Rattle.script_lines.specs.declared.refusal.RosterRefusal.{RosterRefusal}
use Rattle.adx_commands.specs.declared.not_begun.NotBegun.{NotBegun}
use Rattle.adx_commands.proofs.ServedRuns.{runs_by, runs_refused}
use Rattle.adx_commands.proofs.serving.run_serve.Goals as goal

pub returns-in-Ok : goal.returns-in-Ok
returns-in-Ok g c =
    let counted : length c.args.objects.links.items ≡ c.args.workers = omega (arith, c.if-as_slice-workers.false, ap length c.as_slice.ensures.value) in record {
      runs = runs_by g.A.Acceptor g.A.In.Source g.A.Out.Sink g.D.Disk g.L.Link (IsMomentOf (g.C.Clock.moment c.args.clock.now)) c.args.objects c.serve_roster.result c.args.document.now
          c.args.workers c.in-Ok.roster c.in-Ok.ensures.finds counted c.serve_roster.ensures.ends;
    }

pub returns-in-Err-Refused : goal.returns-in-Err-Refused
returns-in-Err-Refused g c =
    let refused = c.in-Err-Refused in let back = c.give_back-in-Err-Refused in record {
      runs = runs_refused g.A.Acceptor g.A.In.Source g.A.Out.Sink g.D.Disk g.L.Link (IsMomentOf (g.C.Clock.moment c.args.clock.now)) c.args.objects back.result c.args.document.now c.args.workers
          refused.why (subst (λ fault. FindsFirst c.args.document.now (Err fault)) refused.field-0-is refused.ensures.finds)
          (record { status_is = back.ensures.status; untouched = back.ensures.untouched }) (back.ensures.why ∙ ap (λ (why : RosterRefusal). Some (NotBegun.Line why)) refused.why-is);
    }
