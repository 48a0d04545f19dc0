use Rattle.std.proofs.Common.{◌≡◌, refl, sym, ◌∙◌, subst}
use Rattle.std.specs.Prelude.{IsSome}
use Rattle.turnstile.specs.Hand.{IsAllOf}
use Rattle.turnstile.proofs.Holding.{some_same}
use Rattle.turnstile.proofs.Closing.{ends}
use Rattle.turnstile.proofs.turnstile.Turnstile.take_apart.Goals as goal

pub unwrap-requires : goal.unwrap-requires
unwrap-requires g c = let t = ends g.T.Counted.items g.T.Counted.fault_count g.T.Counted.fixed _ _ c.args.seat.id c.args.seat.me.0 c.take-value.result c.requires.first c.close_with-closed.ensures.values.2 c.take-value.ensures.value in subst (λ o. IsSome o) (sym t.1) refl

pub returns : goal.returns
returns g c =
    let t = ends g.T.Counted.items g.T.Counted.fault_count g.T.Counted.fixed _ _ c.args.seat.id c.args.seat.me.0 c.take-value.result c.requires.first c.close_with-closed.ensures.values.2 c.take-value.ensures.value in
    let same : t.0 ≡ c.unwrap.result = some_same t.0 c.unwrap.result (sym t.1 ∙ c.unwrap.ensures) in
    record { all = subst (λ x. IsAllOf g.T.Counted.items g.T.Counted.fault_count g.T.Counted.fixed c.args.seat.me.0 x) same t.2 }
