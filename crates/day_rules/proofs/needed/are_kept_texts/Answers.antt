use Rattle.std.proofs.Common.{◌+◌, ℕ, length, sym, subst, arith}
use Rattle.std.proofs.lemmas.Bool.{eqb-false, eqb-true, false≢true, true_from_ne_false}
use Rattle.day_rules.proofs.TextsNeeded.{AreKeptBelow, all_kept, one_missing, one_passed, one_taken, too_many}
use Rattle.day_rules.proofs.needed.are_kept_texts.Goals as goal
use Rattle.day_rules.proofs.needed.are_kept_texts.Goals.{then-are_of, else-are_of}

pub returns-then-lacks_texts : goal.returns-then-lacks_texts
returns-then-lacks_texts c = (
  λ no. absurd (false≢true no),
  λ are. absurd (one_missing c.args.offers.now c.args.kept.now c.loop-place.place c.loop-place.next _ c.lacks_texts.result c.loop-place.invariant c.loop-place-test.true c.lacks_texts.ensures c.if-lacks_texts.true are),
)

pub loop-place-preserved : goal.loop-place-preserved
loop-place-preserved c =
    let P : ℕ → Type 0 = λ next. AreKeptBelow c.args.offers.now c.args.kept.now (c.loop-place.place + 1) next in
    elim c.if-are_of.branch [
      | then-are_of w ↦
          subst P (sym w.next-is)
          (one_taken c.args.offers.now c.args.kept.now c.loop-place.place c.loop-place.next _ c.lacks_texts.result c.are_of.result c.loop-place.invariant c.loop-place-test.true c.lacks_texts.ensures c.if-lacks_texts.false c.are_of.ensures w.if-are_of.true)
      | else-are_of w ↦
          subst P (sym w.next-is)
          (one_passed c.args.offers.now c.args.kept.now c.loop-place.place c.loop-place.next _ c.lacks_texts.result c.are_of.result c.loop-place.invariant c.loop-place-test.true c.lacks_texts.ensures c.if-lacks_texts.false c.are_of.ensures w.if-are_of.false)
    ]

pub returns : goal.returns
returns c =
    let next : ℕ = c.loop-place.next in
    let count : ℕ = length c.args.kept.now in (
      λ yes. all_kept c.args.offers.now c.args.kept.now c.loop-place.place next c.loop-place.invariant (omega (arith, c.loop-place-test.false)) (omega (arith, c.loop-place.auto.place-end)) (eqb-true next count yes),
      λ are. true_from_ne_false _ (λ no.
          too_many c.args.offers.now c.args.kept.now c.loop-place.place next c.loop-place.invariant (omega (arith, c.loop-place-test.false)) (eqb-false next count no) are),
    )
