use Rattle.std.proofs.Common.{◌∙◌, subst}
use Rattle.turnstile.specs.Passes.{IsTurn}
use Rattle.turnstile.specs.Hand.{shown}
use Rattle.turnstile.proofs.Resting.{seat_turn, rests_turned, is_turn}
use Rattle.turnstile.proofs.turnstile.Turnstile.turn.Goals as goal

pub invariant_of-pass : goal.invariant_of-pass
invariant_of-pass g c = rests_turned g.T.Counted.adds g.T.Counted.is_fault g.T.Counted.legal g.T.Counted.right g.J.Job.ran g.J.Job.notes g.J.Job.risen (c.args.job.now, c.args.lent.now) (c.run_in.new.job, c.run_in.new.lent) c.pass.inside.out _ _ c.pass.invariant
    (seat_turn g.T.Counted.adds g.T.Counted.is_fault g.T.Counted.legal g.T.Counted.right g.J.Job.ran g.J.Job.notes g.J.Job.risen g.T.Counted.items g.T.Counted.fault_count g.T.Counted.fixed (c.args.job.now, c.args.lent.now) (c.run_in.new.job, c.run_in.new.lent) c.pass.inside.seat.me c.wait_for.new.seat.me c.run_in.new.seat.me c.wait_for.ensures.took.0 c.wait_for.ensures.took.1 c.run_in.ensures.ran)

pub returns-clause-turn : goal.returns-clause-turn
returns-clause-turn g c =
    let t = seat_turn g.T.Counted.adds g.T.Counted.is_fault g.T.Counted.legal g.T.Counted.right g.J.Job.ran g.J.Job.notes g.J.Job.risen g.T.Counted.items g.T.Counted.fault_count g.T.Counted.fixed (c.args.job.now, c.args.lent.now) (c.run_in.new.job, c.run_in.new.lent) c.pass.inside.seat.me c.wait_for.new.seat.me c.run_in.new.seat.me c.wait_for.ensures.took.0 c.wait_for.ensures.took.1 c.run_in.ensures.ran in
    subst (λ p. IsTurn g.T.Counted.adds g.J.Job.ran g.J.Job.notes g.J.Job.risen (c.args.job.now, c.args.lent.now) (c.run_in.new.job, c.run_in.new.lent) p (shown c.run_in.new.seat.table_id c.pass.inside.out c.run_in.new.seat.me.0)) c.pass.view_is
    (is_turn g.T.Counted.adds g.T.Counted.is_fault g.T.Counted.legal g.T.Counted.right g.J.Job.ran g.J.Job.notes g.J.Job.risen (c.args.job.now, c.args.lent.now) (c.run_in.new.job, c.run_in.new.lent) c.pass.inside.seat.table_id c.run_in.new.seat.table_id c.pass.inside.out c.pass.inside.seat.me c.run_in.new.seat.me (c.run_in.ensures.id.0 ∙ c.wait_for.ensures.id.0) t)

pub returns-clause-stand : goal.returns-clause-stand
returns-clause-stand g c =
    let r = rests_turned g.T.Counted.adds g.T.Counted.is_fault g.T.Counted.legal g.T.Counted.right g.J.Job.ran g.J.Job.notes g.J.Job.risen (c.args.job.now, c.args.lent.now) (c.run_in.new.job, c.run_in.new.lent) c.pass.inside.out _ _ c.pass.invariant
    (seat_turn g.T.Counted.adds g.T.Counted.is_fault g.T.Counted.legal g.T.Counted.right g.J.Job.ran g.J.Job.notes g.J.Job.risen g.T.Counted.items g.T.Counted.fault_count g.T.Counted.fixed (c.args.job.now, c.args.lent.now) (c.run_in.new.job, c.run_in.new.lent) c.pass.inside.seat.me c.wait_for.new.seat.me c.run_in.new.seat.me c.wait_for.ensures.took.0 c.wait_for.ensures.took.1 c.run_in.ensures.ran) in r.stand
