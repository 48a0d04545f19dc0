use Rattle.std.proofs.Common.{sym, ◌∙◌}
use Rattle.adx_json.proofs.TextParts.{digits_empty, digit_refused}
use Rattle.adx_json.proofs.text.digit_at.Goals as goal

pub returns-in_default-clause-stops : goal.returns-in_default-clause-stops
returns-in_default-clause-stops c role fs k = digits_empty role fs k c.args.bytes.now c.in_default.ensures.cases

pub returns-then-not-is_hex-clause-stops : goal.returns-then-not-is_hex-clause-stops
returns-then-not-is_hex-clause-stops c role fs k =
    digit_refused role fs k c.fault_within.result c.args.bytes.now c.in-Some.byte.now c.in-Some.rest.now c.in-Some.ensures.cases.0 (sym c.is_hex.ensures ∙ c.if-not-is_hex.true) c.fault_within.ensures
