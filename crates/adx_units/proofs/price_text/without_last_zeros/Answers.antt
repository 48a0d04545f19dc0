use Rattle.std.proofs.Common.{◌≡◌, ◌<◌, ◌-◌, false, eqb, length, take, get_or, ap, arith, eq-eqb, ne_eqb}
use Rattle.std.specs.List.{suffix_len}
use Rattle.std.proofs.lemmas.List.Sums.{suffix_len_is}
use Rattle.adx_units.proofs.price_text.without_last_zeros.Goals as goal
use Rattle.adx_units.proofs.price_text.without_last_zeros.Goals.{then-loop-n-test+else-digits-n-eq48, else-loop-n-test}

pub returns : goal.returns
returns c =
    let last : 0 < c.loop-n.n → eqb (get_or c.args.digits.now (c.loop-n.n - 1) 0) 48 ≡ false = λ some. elim c.loop-n-test.branch [
      | then-loop-n-test+else-digits-n-eq48 w ↦ ne_eqb (get_or c.args.digits.now (c.loop-n.n - 1) 0) 48 w.if-digits-n-eq48.false
      | else-loop-n-test w ↦ absurd (omega arith)
    ] in
    let count : suffix_len (λ b. eqb b 48) c.args.digits.now ≡ length c.args.digits.now - c.loop-n.n = suffix_len_is (λ b. eqb b 48) c.args.digits.now c.loop-n.n 0 c.loop-n.invariant.within (λ k from below. eq-eqb (get_or c.args.digits.now k 0) 48 (c.loop-n.invariant.zeros k from below)) last in
    let within = c.loop-n.invariant.within in
    ap (λ k. take k c.args.digits.now) (omega arith)
