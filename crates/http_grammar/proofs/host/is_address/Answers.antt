-- One place more.
use Rattle.std.proofs.Common.{◌≡◌, ◌⊎◌, ◌<◌, ◌==◌, ℕ, length, get_or, false, below_more, arith, refl, sym, ◌∙◌, inl, inr}
use Rattle.std.proofs.lemmas.Bool.Decides.{nat_tests}
use Rattle.http_grammar.specs.Fields.{IsHostByte}
use Rattle.http_grammar.proofs.host.is_address.Goals.{else-inner-k-ne58-via-then-inner-k-ne58+else-not-is_host_byte, else-inner-k-ne58-via-else-inner-k-ne58}
use Rattle.http_grammar.proofs.host.is_address.Goals as goal

some : (n : ℕ) → (n == 0) ≡ false → 0 < n
some n test = grind (arith, nat_tests)

pub loop-k-preserved : goal.loop-k-preserved
loop-k-preserved c = below_more (λ j. IsHostByte c.args.inner.now j ⊎ (get_or c.args.inner.now j 0 ≡ 58)) c.loop-k.k c.loop-k.invariant (elim c.else-inner-k-ne58.branch [
  | else-inner-k-ne58-via-then-inner-k-ne58+else-not-is_host_byte w ↦ inl (w.is_host_byte.ensures.0 w.if-not-is_host_byte.false)
  | else-inner-k-ne58-via-else-inner-k-ne58 w ↦ inr (omega arith)
])

pub returns : goal.returns
returns c = ((λ yes. (some (length c.args.inner.now) (sym c.is_empty.ensures ∙ c.if-is_empty.false), (λ i inside. c.loop-k.invariant i (omega arith)))), (λ is. refl))
