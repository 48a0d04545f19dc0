use Rattle.std.proofs.Common.{◌≡◌, ◌≤◌, ◌*◌, ◌^◌, ◌∙◌, inl, inr, min, ap, arith}
use Rattle.std.proofs.lemmas.Bool.{cases_lt}
use Rattle.adx_units.specs.declared.scale.TheConstants.{CAP}
use Rattle.adx_units.proofs.Capped.{capped_zero, enough_zeros}
use Rattle.adx_units.proofs.scale.with_zeros.Goals as goal

pub loop-i-preserved : goal.loop-i-preserved
loop-i-preserved c = c.min-amount.ensures ∙ capped_zero c.loop-i.amount c.args.value c.loop-i.i CAP c.loop-i.invariant

pub returns : goal.returns
returns c =
    elim (cases_lt c.args.zeros 16) [
      | inl few ↦
          (let all : c.loop-i.i ≡ c.args.zeros = omega arith in
          c.loop-i.invariant ∙ ap (λ k. min (c.args.value * 10 ^ k) CAP) all)
      | inr many ↦
          (let enough : 16 ≤ c.loop-i.i = omega arith in
          c.loop-i.invariant ∙ enough_zeros c.args.value 16 c.loop-i.i c.args.zeros CAP (omega arith) enough many)
    ]
