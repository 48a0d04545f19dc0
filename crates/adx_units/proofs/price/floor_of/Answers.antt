use Rattle.std.proofs.Common.{◌≡◌, ℕ, ◌^◌, false, not, ◌&&◌, eqb, ltb, List, Ok, sym, ap, ◌∙◌, arith, le-ltb}
use Rattle.std.proofs.lemmas.Bool.{and_left, and_right}
use Rattle.adx_units.specs.Number.{is_number, has_minus, numerator}
use Rattle.adx_units.specs.Money.{units, floor_units}
use Rattle.adx_units.proofs.Faults.{counted, zero_numerator, floor_passes, floor_exact, third_holds, three_fail}
use Rattle.adx_units.proofs.price.floor_of.Goals as goal
use Rattle.adx_units.proofs.price.floor_of.Goals.{else-floor-via-then-floor+else-not-is_zero, else-floor-via-else-floor}

pub returns-then-units-gt-PRICE_LIMIT-clause-value : goal.returns-then-units-gt-PRICE_LIMIT-clause-value
returns-then-units-gt-PRICE_LIMIT-clause-value c =
    let t : List ℕ = c.args.text.now in
    let counts = counted t (10 ^ 6) c.in-Some.floor.units c.in-Some.floor.rest c.in-Some.ensures.2 c.in-Some.ensures.3 in
    let some : (has_minus t && not (eqb (numerator t) 0)) ≡ false = elim c.else-floor.branch [
      | else-floor-via-then-floor+else-not-is_zero w ↦
          and_right (has_minus t) (not (eqb (numerator t) 0)) (ap not (sym (zero_numerator t (10 ^ 6) c.in-Some.floor.units c.in-Some.floor.rest (omega arith) counts) ∙ sym w.is_zero.ensures ∙ w.if-not-is_zero.false))
      | else-floor-via-else-floor w ↦ and_left (has_minus t) (not (eqb (numerator t) 0)) (sym c.in-Some.ensures.1 ∙ w.if-floor.false)
    ] in
    third_holds (is_number t) (has_minus t && not (eqb (numerator t) 0)) (ltb (10 ^ 12) (floor_units t)) _ _ _ _ c.in-Some.ensures.0 some (floor_passes t c.in-Some.floor.units (10 ^ 12) c.rounded_up-units.result c.in-Some.floor.rest (omega arith) c.rounded_up-units.ensures counts c.if-units-gt-PRICE_LIMIT.true)

pub returns-clause-value : goal.returns-clause-value
returns-clause-value c =
    let t : List ℕ = c.args.text.now in
    let counts = counted t (10 ^ 6) c.in-Some.floor.units c.in-Some.floor.rest c.in-Some.ensures.2 c.in-Some.ensures.3 in
    let some : (has_minus t && not (eqb (numerator t) 0)) ≡ false = elim c.else-floor.branch [
      | else-floor-via-then-floor+else-not-is_zero w ↦
          and_right (has_minus t) (not (eqb (numerator t) 0)) (ap not (sym (zero_numerator t (10 ^ 6) c.in-Some.floor.units c.in-Some.floor.rest (omega arith) counts) ∙ sym w.is_zero.ensures ∙ w.if-not-is_zero.false))
      | else-floor-via-else-floor w ↦ and_left (has_minus t) (not (eqb (numerator t) 0)) (sym c.in-Some.ensures.1 ∙ w.if-floor.false)
    ] in
    let exact = floor_exact t c.in-Some.floor.units (10 ^ 12) c.rounded_up-units.result c.in-Some.floor.rest (omega arith) c.rounded_up-units.ensures counts c.if-units-gt-PRICE_LIMIT.false in
    three_fail (is_number t) (has_minus t && not (eqb (numerator t) 0)) (ltb (10 ^ 12) (floor_units t)) _ _ _ _ _ c.in-Some.ensures.0 some (le-ltb (10 ^ 12) (floor_units t) (omega arith)) (ap (λ n. Ok (units n)) exact)
