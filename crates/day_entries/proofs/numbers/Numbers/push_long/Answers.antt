use Rattle.std.proofs.Common.{arith}
use Rattle.std.proofs.lemmas.Result.{on_ok_weaker}
use Rattle.day_entries.proofs.Steps.{adds_group, group_long}
use Rattle.day_entries.proofs.numbers.Numbers.push_long.Goals as goal

pub returns-then-number-lt128-clause-ok : goal.returns-then-number-lt128-clause-ok
returns-then-number-lt128-clause-ok c =
    let pushed = c.push-then-number-lt128 in
    on_ok_weaker pushed.result (adds_group c.args.self c.args.out.now.payload pushed.new.self.payload c.args.number c.in-Grouped.is (omega (arith, c.if-number-lt128.true))) pushed.ensures.ok

pub returns-then-number-lt128-clause-spare : goal.returns-then-number-lt128-clause-spare
returns-then-number-lt128-clause-spare c =
    omega (arith, c.push-then-number-lt128.ensures.spare, group_long c.args.self c.args.number c.in-Grouped.is (omega (arith, c.if-number-lt128.true)))
