use Rattle.std.proofs.Common.{◌∙◌, arith}
use Rattle.std.proofs.lemmas.Grind.{common_steps}
use Rattle.exchange_serving.proofs.beginning.board_of.Goals as goal

pub loop-reader-preserved : goal.loop-reader-preserved
loop-reader-preserved g c =
    let was = c.loop-reader.invariant in
    record {
      taken = c.in_ok-reader.ensures.taken ∙ was.taken;
      published = c.in_ok-reader.ensures.published ∙ was.published;
      of = grind (arith, common_steps, was.of, c.in_ok-reader.ensures.same, c.in_ok-reader.ensures.of);
    }
