use Rattle.std.proofs.Common.{◌≡◌, ℕ, take, arith, subst}
use Rattle.std.proofs.lemmas.List.{take_more_same}
use Rattle.day_journal.specs.Places.{head}
use Rattle.day_journal.proofs.start.front_len.Goals as goal

pub loop-at-preserved : goal.loop-at-preserved
loop-at-preserved c = λ format.
    let same = (rw c.if-differs.false at c.differs.ensures) format in
    take_more_same c.args.first.now (head format) c.loop-at.at 0 same.0 (omega arith) (c.loop-at.invariant format) same.1

pub returns-clause-same : goal.returns-clause-same
returns-clause-same c = λ format.
    let eight : c.loop-at.at ≡ 8 = omega (arith, c.loop-at-test.false, c.loop-at.auto.at-end) in
    subst (λ (n : ℕ). take n c.args.first.now ≡ take n (head format)) eight (c.loop-at.invariant format)
