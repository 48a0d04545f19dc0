-- The parts that were read from the front are those of the definition.
use Rattle.std.proofs.Common.{sym, ◌∙◌}
use Rattle.adx_units.proofs.Scans.{no_whole, no_fraction, no_exponent, parts_are}
use Rattle.adx_units.proofs.numeral.numeral_of.Goals as goal

pub returns-then-not-are_whole : goal.returns-then-not-are_whole
returns-then-not-are_whole c =
    let front = c.digits_front.ensures in
    no_whole c.args.text.now c.digits_front.result.0.now c.digits_front.result.1.now (sym c.without_minus.ensures ∙ front.whole) front.digits front.stops (sym (c.if-not-are_whole.ensures {u = tt}))

pub returns-in_default : goal.returns-in_default
returns-in_default c =
    let front = c.digits_front.ensures in
    no_fraction c.args.text.now c.digits_front.result.0.now c.digits_front.result.1.now (sym c.without_minus.ensures ∙ front.whole) front.digits (c.in_default.ensures {u = tt})

pub returns-in_default-exponent_of : goal.returns-in_default-exponent_of
returns-in_default-exponent_of c =
    let front = c.digits_front.ensures in
    no_exponent c.args.text.now c.digits_front.result.0.now c.digits_front.result.1.now c.in-Some.fraction.now c.in-Some.behind.now (sym c.without_minus.ensures ∙ front.whole) front.digits c.in-Some.ensures (c.in_default-exponent_of.ensures {u = tt})

pub returns : goal.returns
returns c =
    let front = c.digits_front.ensures in
    let whole = sym (c.if-not-are_whole.ensures {u = tt}) in
    let parts = parts_are c.args.text.now c.digits_front.result.0.now c.digits_front.result.1.now c.in-Some.fraction.now c.in-Some.behind.now c.in-Some-exponent_of.exponent.now c.in-Some-exponent_of.lowers (sym c.without_minus.ensures ∙ front.whole) front.digits whole c.in-Some.ensures c.in-Some-exponent_of.ensures in
    (parts.0, c.begins.ensures, parts.1, parts.2, parts.3, parts.4)
