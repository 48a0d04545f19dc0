use Rattle.std.proofs.Common.{ap, sym, ◌∙◌}
use Rattle.turnstile.proofs.Resting.{rests_heard}
use Rattle.turnstile.proofs.turnstile.Turnstile.inform.Goals as goal

pub invariant_of-to : goal.invariant_of-to
invariant_of-to g c =
    rests_heard g.T.Counted.adds g.T.Counted.is_fault g.T.Counted.legal g.T.Counted.right c.to.inside.out c.from.inside.out c.to.inside.seat.me c.from.inside.seat.me c.tell.new.to.me c.learn.new.seat.me
    c.to.invariant c.from.invariant (ap (λ p. p.fixed) c.from.view_is ∙ (c.requires.from_of.1 ∙ sym (ap (λ p. p.fixed) c.to.view_is ∙ c.requires.to_of.1))) c.tell.ensures.to c.learn.ensures.one c.learn.ensures.learned

pub returns-clause-stand : goal.returns-clause-stand
returns-clause-stand g c =
    let r = rests_heard g.T.Counted.adds g.T.Counted.is_fault g.T.Counted.legal g.T.Counted.right c.to.inside.out c.from.inside.out c.to.inside.seat.me c.from.inside.seat.me c.tell.new.to.me c.learn.new.seat.me
    c.to.invariant c.from.invariant (ap (λ p. p.fixed) c.from.view_is ∙ (c.requires.from_of.1 ∙ sym (ap (λ p. p.fixed) c.to.view_is ∙ c.requires.to_of.1))) c.tell.ensures.to c.learn.ensures.one c.learn.ensures.learned in
    r.stand
