use Rattle.std.proofs.Common.{◌≡◌, ◌<◌, ◌+◌, ℕ, List, ap, get_or, length, sym, ◌∙◌, subst, true, false, is_some, arith}
use Rattle.std.proofs.lemmas.List.{get_or_default}
use Rattle.adx_units.specs.declared.offer.Offer.{Offer}
use Rattle.day_rules.specs.declared.ask.Kept.{Kept}
use Rattle.day_rules.specs.Asks.{stays}
use Rattle.day_rules.specs.OfferTests.{trimmed}
use Rattle.day_rules.proofs.Front.{IsFront, front_gone, front_kept}
use Rattle.day_rules.proofs.kept.settle_front.Goals as goal
use Rattle.day_rules.proofs.kept.settle_front.Goals.{then-stays, else-stays}

pub loop-place-preserved : goal.loop-place-preserved
loop-place-preserved c =
    let offers : List Offer = c.args.offers.now in
    let start : List Kept = c.args.kept.now in
    let xs : List Kept = c.loop-place.kept in
    let p : ℕ = c.loop-place.place in
    let n : ℕ = c.loop-place.count in
    let k : Kept = c.index-kept-place.result in
    let within : p < length xs = omega (arith, c.loop-place.invariant.long, c.loop-place-test.true) in
    let told : c.stays.result ≡ is_some (stays offers k) = c.stays.ensures ∙ ap (λ (x : Kept). is_some (stays offers x)) (sym c.index-kept-place.is) in
    elim c.if-stays.branch [
      | then-stays w ↦
          let same : get_or xs p w.index-kept-place-then-stays.result ≡ k = get_or_default xs p w.index-kept-place-then-stays.result k within ∙ sym c.index-kept-place.is in
          front_kept offers start xs c.if-stays.kept p n c.if-stays.count k w.trim.new.kept c.loop-place.invariant c.loop-place-test.true c.index-kept-place.is (sym told ∙ w.if-stays.true)
          (w.trim.ensures ∙ ap (trimmed offers) same) (w.kept-is ∙ w.swap.ensures.after) w.count-is
      | else-stays w ↦
          let gone : IsFront offers start xs (p + 1) n = front_gone offers start xs p n k c.loop-place.invariant c.loop-place-test.true c.index-kept-place.is (sym told ∙ w.if-stays.false) in
          subst (λ (m : ℕ). IsFront offers start c.if-stays.kept (p + 1) m) (sym w.count-is) (subst (λ (zs : List Kept). IsFront offers start zs (p + 1) n) (sym w.kept-is) gone)
    ]
