use Rattle.std.proofs.Common.{◌≡◌, ℕ, ◌*◌, ◌^◌, true, false, ◌||◌, ◌&&◌, eqb, ltb, List, Ok, sym, ap, ◌∙◌, arith}
use Rattle.std.proofs.lemmas.Bool.{or_left, or_right, or_from, or_parts}
use Rattle.adx_units.specs.Number.{is_number, has_minus, numerator, denominator}
use Rattle.adx_units.specs.Money.{units}
use Rattle.adx_units.specs.declared.scale.TheConstants.{CAP}
use Rattle.adx_units.proofs.Amounts.{passes_is}
use Rattle.adx_units.proofs.Faults.{counted, zero_numerator, exact_units, second_holds, third_holds, fourth_holds, four_fail}
use Rattle.adx_units.proofs.price.budget_of.Goals as goal
use Rattle.adx_units.proofs.price.budget_of.Goals.{then-budget-via-then-budget, then-budget-via-else-budget+then-is_zero}

pub returns-then-budget-clause-value : goal.returns-then-budget-clause-value
returns-then-budget-clause-value c =
    let t : List ℕ = c.args.text.now in
    let number : is_number t ≡ true = c.in-Some.ensures.0 in
    let minus : c.in-Some.budget.minus ≡ has_minus t = c.in-Some.ensures.1 in
    let counts = counted t (10 ^ 9) c.in-Some.budget.units c.in-Some.budget.rest c.in-Some.ensures.2 c.in-Some.ensures.3 in
    let test : (has_minus t || eqb (numerator t) 0) ≡ true = elim c.then-budget.branch [
      | then-budget-via-then-budget w ↦ or_left (has_minus t) (eqb (numerator t) 0) (sym minus ∙ w.if-budget.true)
      | then-budget-via-else-budget+then-is_zero w ↦
          or_right (has_minus t) (eqb (numerator t) 0) (sym (zero_numerator t (10 ^ 9) c.in-Some.budget.units c.in-Some.budget.rest (omega arith) counts) ∙ sym w.is_zero.ensures ∙ w.if-is_zero.true)
    ] in
    second_holds (is_number t) (has_minus t || eqb (numerator t) 0) _ _ _ number test

pub returns-then-passes-clause-value : goal.returns-then-passes-clause-value
returns-then-passes-clause-value c =
    let t : List ℕ = c.args.text.now in
    let counts = counted t (10 ^ 9) c.in-Some.budget.units c.in-Some.budget.rest c.in-Some.ensures.2 c.in-Some.ensures.3 in
    let some : (has_minus t || eqb (numerator t) 0) ≡ false = or_from (has_minus t) (eqb (numerator t) 0) (sym c.in-Some.ensures.1 ∙ c.if-budget.false) (sym (zero_numerator t (10 ^ 9) c.in-Some.budget.units c.in-Some.budget.rest (omega arith) counts) ∙ sym c.is_zero.ensures ∙ c.if-is_zero.false) in
    let large : ltb (10 ^ 15 * denominator t) (numerator t * 10 ^ 9) ≡ true = sym (passes_is (numerator t * 10 ^ 9) (denominator t) c.in-Some.budget.units CAP (10 ^ 15) c.in-Some.budget.rest (omega arith) counts) ∙ sym c.passes.ensures ∙ c.if-passes.true in
    third_holds (is_number t) (has_minus t || eqb (numerator t) 0) (ltb (10 ^ 15 * denominator t) (numerator t * 10 ^ 9)) _ _ _ _ c.in-Some.ensures.0 some large

pub returns-then-budget-2-clause-value : goal.returns-then-budget-2-clause-value
returns-then-budget-2-clause-value c =
    let t : List ℕ = c.args.text.now in
    let counts = counted t (10 ^ 9) c.in-Some.budget.units c.in-Some.budget.rest c.in-Some.ensures.2 c.in-Some.ensures.3 in
    let some : (has_minus t || eqb (numerator t) 0) ≡ false = or_from (has_minus t) (eqb (numerator t) 0) (sym c.in-Some.ensures.1 ∙ c.if-budget.false) (sym (zero_numerator t (10 ^ 9) c.in-Some.budget.units c.in-Some.budget.rest (omega arith) counts) ∙ sym c.is_zero.ensures ∙ c.if-is_zero.false) in
    let small : ltb (10 ^ 15 * denominator t) (numerator t * 10 ^ 9) ≡ false = sym (passes_is (numerator t * 10 ^ 9) (denominator t) c.in-Some.budget.units CAP (10 ^ 15) c.in-Some.budget.rest (omega arith) counts) ∙ sym c.passes.ensures ∙ c.if-passes.false in
    fourth_holds (is_number t) (has_minus t || eqb (numerator t) 0) (ltb (10 ^ 15 * denominator t) (numerator t * 10 ^ 9)) _ _ _ _ _ _ c.in-Some.ensures.0 some small (sym c.in-Some.ensures.3 ∙ c.if-budget-2.true)

pub returns-clause-value : goal.returns-clause-value
returns-clause-value c =
    let t : List ℕ = c.args.text.now in
    let counts = counted t (10 ^ 9) c.in-Some.budget.units c.in-Some.budget.rest c.in-Some.ensures.2 c.in-Some.ensures.3 in
    let some : (has_minus t || eqb (numerator t) 0) ≡ false = or_from (has_minus t) (eqb (numerator t) 0) (sym c.in-Some.ensures.1 ∙ c.if-budget.false) (sym (zero_numerator t (10 ^ 9) c.in-Some.budget.units c.in-Some.budget.rest (omega arith) counts) ∙ sym c.is_zero.ensures ∙ c.if-is_zero.false) in
    let small : ltb (10 ^ 15 * denominator t) (numerator t * 10 ^ 9) ≡ false = sym (passes_is (numerator t * 10 ^ 9) (denominator t) c.in-Some.budget.units CAP (10 ^ 15) c.in-Some.budget.rest (omega arith) counts) ∙ sym c.passes.ensures ∙ c.if-passes.false in
    let fits = (or_parts (ltb (10 ^ 15) c.in-Some.budget.units) (eqb c.in-Some.budget.units (10 ^ 15) && c.in-Some.budget.rest) (sym c.passes.ensures ∙ c.if-passes.false)).0 in
    let exact = exact_units (numerator t * 10 ^ 9) (denominator t) c.in-Some.budget.units (10 ^ 15) c.in-Some.budget.rest (omega arith) counts fits in
    four_fail (is_number t) (has_minus t || eqb (numerator t) 0) (ltb (10 ^ 15 * denominator t) (numerator t * 10 ^ 9)) _ _ _ _ _ _ _ c.in-Some.ensures.0 some small (sym c.in-Some.ensures.3 ∙ c.if-budget-2.false) (ap (λ n. Ok (units n)) exact)
