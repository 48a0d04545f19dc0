-- The talk's run is the command's, and without memory for the talk nothing was begun.
use Rattle.std.proofs.Common.{◌∙◌, Err, refl, sym, ap, subst, rules}
use Rattle.std.proofs.lemmas.Result.{err_from_is_err_and}
use Rattle.adx_io.specs.TalkState.{state_of}
use Rattle.command_runs.specs.Meanings.{Wrote}
use Rattle.command_runs.specs.Runs.{Runs}
use Rattle.command_runs.proofs.Ran.{counted, ran_over, unbegun_counted, unbegun_wrote}
use Rattle.command_runs.proofs.command.run_command.Goals as goal

pub returns-in_err-buffer-clause-runs : goal.returns-in_err-buffer-clause-runs
returns-in_err-buffer-clause-runs g c =
    let p = err_from_is_err_and c.from_residual.result c.from_residual.ensures.1 in
    let none = g.met.C.Command.unbegun c.args.command.now in
    let source = c.args.source.now in
    let sink = c.args.sink.now in
    subst (λ r. (x : g.C.Command.course) × g.C.Command.leaves c.args.command.now c.args.command.now x r × Runs g.S.Source g.K.Sink (g.C.Command.meaning x) source source sink sink r) (sym (p.1 ∙ ap Err p.2)) (
      none.0,
      none.1,
      record {
        wrote = unbegun_wrote (g.C.Command.meaning none.0) (g.S.Source.tape source) (g.K.Sink.held sink) none.2;
        causes = unbegun_counted (g.S.Source.faults source) (g.K.Sink.faults sink);
        source_same = refl;
        sink_same = refl;
      },
    )

pub returns-clause-runs : goal.returns-clause-runs
returns-clause-runs g c =
    let ran = c.run.ensures.ran in
    let first = c.over-talk.result in
    let last = c.run.new.talk in (
      ran.0,
      ran.1,
      record {
        wrote = ran_over (state_of first).tape (g.S.Source.tape c.args.source.now) (g.S.Source.tape last.source.now) _ (g.K.Sink.held first.sink.now) (g.K.Sink.held c.args.sink.now) (g.K.Sink.held last.sink.now) _
            (λ held held_now before now. Wrote (g.C.Command.meaning ran.0) before.left now.left held held_now c.run.result) (search rules) (search rules) (search rules) (search rules) ran.2;
        causes = counted (state_of first) (state_of last) c.run.result _ _ _ _ (search rules) (search rules) (search rules) (search rules) c.run.ensures.causes;
        source_same = search rules;
        sink_same = search rules;
      },
    )
