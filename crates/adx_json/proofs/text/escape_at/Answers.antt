use Rattle.std.proofs.Common.{ℕ, List}
use Rattle.std.proofs.lemmas.Bool.{ne_eqb}
use Rattle.std.proofs.lemmas.Result.{err_from_is_err_and}
use Rattle.adx_json.specs.Machine.{Frame, Role, in_text, escaped, stop_of, Tells}
use Rattle.adx_json.specs.declared.fault.Stop.{Stop}
use Rattle.adx_json.proofs.TextParts.{handed, escaped_empty, escape_refused, short_found, unit_found, unit_refused, at_byte}
use Rattle.adx_json.proofs.text.escape_at.Goals as goal

abbrev StopsThere : List ℕ → Stop → Type 0
StopsThere bytes e = (role : Role) (fs : List Frame) → Tells e (stop_of 64 (in_text role escaped) fs bytes)

pub returns-in_default-clause-stops : goal.returns-in_default-clause-stops
returns-in_default-clause-stops c role fs = escaped_empty role fs c.args.bytes.now c.in_default.ensures.cases

pub returns-in-Some-short_value-clause-found : goal.returns-in-Some-short_value-clause-found
returns-in-Some-short_value-clause-found c =
    short_found c.args.bytes.now c.in-Some.byte.now c.in-Some-short_value.unit c.in-Some.rest.now c.in-Some.ensures.cases.0 c.in-Some-short_value.ensures.0 c.in-Some-short_value.ensures.1

pub returns-then-byte-ne117-clause-stops : goal.returns-then-byte-ne117-clause-stops
returns-then-byte-ne117-clause-stops c role fs =
    escape_refused role fs c.fault_within.result c.args.bytes.now c.in-Some.byte.now c.in-Some.rest.now c.in-Some.ensures.cases.0 c.in_default-short_value.ensures (ne_eqb c.in-Some.byte.now 117 c.if-byte-ne117.true) c.fault_within.ensures

pub returns-in_err-unit-clause-stops : goal.returns-in_err-unit-clause-stops
returns-in_err-unit-clause-stops c =
    let p = err_from_is_err_and c.from_residual.result c.from_residual.ensures.1 in
    let e = c.in_err-unit.field-0.0 in
    handed c.from_residual.result p.0 e (StopsThere c.args.bytes.now) p.1 p.2 (λ role fs.
    unit_refused e c.args.bytes.now c.in-Some.rest.now role fs (at_byte c.args.bytes.now c.in-Some.byte.now 117 c.in-Some.rest.now c.in-Some.ensures.cases.0 c.if-byte-ne117.false) (c.in_err-unit.ensures.stops role fs))

pub returns-clause-found : goal.returns-clause-found
returns-clause-found c =
    unit_found c.args.bytes.now c.in-Some.rest.now c.in_ok-unit.unit c.in_ok-unit.rest.now (at_byte c.args.bytes.now c.in-Some.byte.now 117 c.in-Some.rest.now c.in-Some.ensures.cases.0 c.if-byte-ne117.false) c.in_ok-unit.ensures.found
