use Rattle.std.proofs.Common.{◌≡◌, ◌<◌, length, sym, ◌∙◌, rules, arith}
use Rattle.formats.proofs.Days.{is_shaped, not_shaped_at}
use Rattle.formats.proofs.form.is_day.Goals as goal

pub returns-then-zeroed-i-clause-value : goal.returns-then-zeroed-i-clause-value
returns-then-zeroed-i-clause-value c =
    let below : c.loop-i.i < length c.args.day.now = c.loop-i-test.true in
    sym (not_shaped_at c.args.day.now c.loop-i.i below (λ e. c.if-zeroed-i.true (c.zeroed.ensures ∙ e)))

pub returns-clause-value : goal.returns-clause-value
returns-clause-value c =
    let len : length c.args.day.now ≡ 10 = search rules in
    sym (is_shaped c.args.day.now len (λ k below. c.loop-i.invariant k (omega (arith, below, c.loop-i-test.false, len))))
