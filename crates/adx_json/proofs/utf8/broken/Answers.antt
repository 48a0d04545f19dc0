use Rattle.std.proofs.Common.{sym, ◌∙◌}
use Rattle.adx_json.proofs.Breaks.{broken_more, broken_at, broken_end}
use Rattle.adx_json.proofs.utf8.broken.Goals as goal

pub returns-in_default-clause-stops : goal.returns-in_default-clause-stops
returns-in_default-clause-stops c = broken_end c.args.run.now c.bytes.tail c.bytes.left.now c.bytes.invariant c.in_default.ensures.cases c.requires.broken

pub returns-in_default-utf8_step-clause-stops : goal.returns-in_default-utf8_step-clause-stops
returns-in_default-utf8_step-clause-stops c =
    broken_at c.args.run.now c.bytes.tail c.bytes.left.now c.in-Some.byte.now c.in-Some.rest.now c.bytes.invariant c.in-Some.ensures.cases.0 (sym c.utf8_step.ensures ∙ c.in_default-utf8_step.is)

pub bytes-preserved : goal.bytes-preserved
bytes-preserved c =
    broken_more c.args.run.now c.bytes.tail c.in-Some-utf8_step.next c.bytes.left.now c.in-Some.byte.now c.in-Some.rest.now c.bytes.invariant c.in-Some.ensures.cases.0 (sym c.utf8_step.ensures ∙ c.in-Some-utf8_step.is)
