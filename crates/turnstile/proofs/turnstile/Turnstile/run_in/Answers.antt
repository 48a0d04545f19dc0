use Rattle.std.proofs.Common.{refl, ◌++◌, ◌∙◌, [], ap, subst}
use Rattle.turnstile.specs.Turns.{added_by, AreRight}
use Rattle.turnstile.proofs.Turning.{after_run, raised_in_hand, counted_in_hand, ends_turned, rise_of}
use Rattle.turnstile.proofs.turnstile.Turnstile.run_in.Goals as goal

pub run_there-run-requires-clause-hand : goal.run_there-run-requires-clause-hand
run_there-run-requires-clause-hand g c = let h = c.requires.hand in (h.0, h.1.carried, h.2)

pub raise_all-requires-clause-hand : goal.raise_all-requires-clause-hand
raise_all-requires-clause-hand g c =
    let a = after_run g.T.Counted.items g.T.Counted.fault_count g.T.Counted.fixed g.T.Counted.adds g.T.Counted.is_fault g.T.Counted.legal g.T.Counted.right g.J.Job.ran g.J.Job.notes g.J.Job.risen c.requires.hand.1 c.run_there-run.ensures.ran.1 c.run_there-run.ensures.ran.2 c.run_there-run.ensures.view in
    (added_by g.T.Counted.adds (g.J.Job.notes (c.run_there-run.new.job, c.run_there-run.new.lent)), c.run_there-run.result.risen, a.hand, a.count)

pub count_all-requires-clause-hand : goal.count_all-requires-clause-hand
count_all-requires-clause-hand g c =
    let a = after_run g.T.Counted.items g.T.Counted.fault_count g.T.Counted.fixed g.T.Counted.adds g.T.Counted.is_fault g.T.Counted.legal g.T.Counted.right g.J.Job.ran g.J.Job.notes g.J.Job.risen c.requires.hand.1 c.run_there-run.ensures.ran.1 c.run_there-run.ensures.ran.2 c.run_there-run.ensures.view in
    let e = c.raise_all.ensures.raised _ a.count a.hand.grown a.known in
    (c.run_there-run.result.left.value, [], raised_in_hand g.T.Counted.items g.T.Counted.fault_count g.T.Counted.fixed _ _ _ _ _ a.hand e)

pub serve-requires-clause-hand : goal.serve-requires-clause-hand
serve-requires-clause-hand g c =
    let a = after_run g.T.Counted.items g.T.Counted.fault_count g.T.Counted.fixed g.T.Counted.adds g.T.Counted.is_fault g.T.Counted.legal g.T.Counted.right g.J.Job.ran g.J.Job.notes g.J.Job.risen c.requires.hand.1 c.run_there-run.ensures.ran.1 c.run_there-run.ensures.ran.2 c.run_there-run.ensures.view in
    let e = c.raise_all.ensures.raised _ a.count a.hand.grown a.known in
    (c.run_there-run.result.left.value, counted_in_hand g.T.Counted.items g.T.Counted.fault_count g.T.Counted.fixed _ _ _ _ (raised_in_hand g.T.Counted.items g.T.Counted.fault_count g.T.Counted.fixed _ _ _ _ _ a.hand e) c.count_all.ensures.counted)

pub returns-clause-ran : goal.returns-clause-ran
returns-clause-ran g c =
    let m = c.args.seat.now.me in
    let run = c.run_there-run.result in
    let x = c.run_there-run.ensures.ran.0 in
    let r = c.run_there-run.ensures.ran.2 in
    let ts = g.J.Job.notes (c.run_there-run.new.job, c.run_there-run.new.lent) in
    let a = after_run g.T.Counted.items g.T.Counted.fault_count g.T.Counted.fixed g.T.Counted.adds g.T.Counted.is_fault g.T.Counted.legal g.T.Counted.right g.J.Job.ran g.J.Job.notes g.J.Job.risen c.requires.hand.1 c.run_there-run.ensures.ran.1 c.run_there-run.ensures.ran.2 c.run_there-run.ensures.view in
    let e = c.raise_all.ensures.raised _ a.count a.hand.grown a.known in
    record {
      fixed = g.T.Counted.fixed x;
      rise = run.risen;
      fixed_is = a.begun.fixed_is;
      ran_on = subst (λ l. g.J.Job.ran (c.args.job.now, c.args.lent.now) (g.T.Counted.fixed x) l (c.run_there-run.new.job, c.run_there-run.new.lent)) a.begun.list r.ran_on;
      noted = r.noted;
      legal_is = subst (λ l. g.T.Counted.legal (g.T.Counted.fixed x) l) (r.grown ∙ ap (λ l. l ++ added_by g.T.Counted.adds ts) a.begun.list) (subst (λ f. g.T.Counted.legal f (g.T.Counted.items run.left.value)) r.fixed_is r.legal_is);
      right_are = subst (λ l. AreRight g.T.Counted.adds (g.T.Counted.right (g.T.Counted.fixed x)) l ts) a.begun.list r.right_are;
      counted = rise_of (g.J.Job.risen (c.run_there-run.new.job, c.run_there-run.new.lent)) (g.T.Counted.fault_count x) (g.T.Counted.fault_count run.left.value) run.risen m.0.faults r.faults_more a.begun.faults r.counted;
      view = ends_turned g.T.Counted.adds m.0 c.run_there-run.new.seat.me c.raise_all.new.seat.me c.count_all.new.seat.me c.serve.new.seat.me c.wake_next.new.seat.me (g.T.Counted.items x) (added_by g.T.Counted.adds ts) run.risen run.before ts
          a.same e c.count_all.ensures.counted c.serve.ensures.noted c.wake_next.ensures.same r.before_is a.begun.list refl;
    }
