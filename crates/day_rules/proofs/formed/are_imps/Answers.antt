use Rattle.std.proofs.Common.{◌≢◌, length, sym, ◌∙◌, arith}
use Rattle.std.proofs.lemmas.Bool.{eqb-false}
use Rattle.day_rules.proofs.AskTests.{distinct_decided}
use Rattle.day_rules.proofs.formed.are_imps.Goals as goal

pub returns : goal.returns
returns c =
    let distinct = distinct_decided c.args.imps.now in
    let some : length c.args.imps.now ≢ 0 = eqb-false (length c.args.imps.now) 0 (sym c.is_empty.ensures ∙ c.if-is_empty.false) in (
      λ yes. (omega arith, omega (arith, c.if-imps-gt-MAX_IMPS.false), distinct.0 (sym c.are_distinct.ensures ∙ yes)),
      λ h. c.are_distinct.ensures ∙ distinct.1 h.2,
    )
