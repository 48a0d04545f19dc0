use Rattle.std.proofs.Common.{◌∙◌, ap, arith}
use Rattle.std.specs.List.{slice_get}
use Rattle.std.proofs.lemmas.List.{take_all}
use Rattle.day_machine.specs.Held.{open_count}
use Rattle.day_machine.proofs.OpenAwards.{open_at_most, open_more}
use Rattle.day_machine.proofs.held.open_awards.Goals as goal

pub loop-n-preserved : goal.loop-n-preserved
loop-n-preserved c =
    let ws = c.args.awards.now.awards in
    let n = c.loop-n.n in
    record {
      counted = omega (arith, c.loop-n.invariant.counted, c.open_at-open.ensures, open_more ws n);
      few = omega (arith, c.loop-n.invariant.few, c.open_at-open.ensures, open_at_most (slice_get ws n));
    }

pub returns : goal.returns
returns c =
    let ws = c.args.awards.now.awards in
    c.loop-n.invariant.counted ∙ ap open_count (take_all c.loop-n.n ws (omega arith))
