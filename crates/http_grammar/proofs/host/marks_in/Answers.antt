-- One mark more.
use Rattle.std.proofs.Common.{IsTrue, get_or, below_more, sym, ◌∙◌, arith}
use Rattle.http_grammar.specs.Fields.{is_mark}
use Rattle.http_grammar.proofs.host.marks_in.Goals as goal

pub loop-end-preserved : goal.loop-end-preserved
loop-end-preserved c =
    let i = c.loop-end.invariant in record {
      within = omega (arith, c.loop-end-test.true);
      marks = below_more (λ k. IsTrue (is_mark (get_or c.args.value.now k 0))) c.loop-end.end i.marks (sym c.is_name_byte.ensures ∙ c.if-is_name_byte.true);
    }
