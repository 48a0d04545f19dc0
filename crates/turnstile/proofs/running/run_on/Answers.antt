use Rattle.std.proofs.Common.{ap, arith, length, length-append}
use Rattle.turnstile.specs.Turns.{added_by}
use Rattle.turnstile.proofs.running.run_on.Goals as goal

pub returns-clause-ran : goal.returns-clause-ran
returns-clause-ran g c =
    let long = ap length c.run.ensures.items in
    let sum = length-append (g.T.Counted.items c.args.value.now) (added_by g.T.Counted.adds (g.J.Job.notes (c.run.new.self, c.run.new.lent))) in
    let m = c.count-before.ensures.items in
    let n = c.count.ensures.items in
    let p = c.faults-faults.ensures.faults in
    let q = c.faults.ensures.faults in
    let more = c.run.ensures.no_fewer in
    let big = c.count.type_inv in
    let large = c.faults.type_inv in record {
      ran_on = c.run.ensures.ran;
      grown = c.run.ensures.items;
      fixed_is = c.run.ensures.fixed;
      legal_is = c.is_legal.ensures.legal;
      right_are = c.run.ensures.right;
      noted = c.run.ensures.noted;
      counted = c.run.ensures.counted;
      before_is = m;
      more = omega arith;
      faults_more = omega arith;
      fits = omega arith;
      faults_fit = omega arith;
    }
