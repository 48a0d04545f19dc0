use Rattle.std.proofs.Common.{ap, ◌∙◌, ◌-◌, sym}
use Rattle.turnstile.proofs.Resting.{first_of, parted_of, rests_joined, different_places}
use Rattle.turnstile.proofs.turnstile.Turnstile.join.Goals as goal

pub merge-requires-clause-first : goal.merge-requires-clause-first
merge-requires-clause-first g c = (c.into.inside.out, (first_of c.into.inside.seat.me.0.role c.into.inside.out c.into.invariant.out_is (ap (λ p. p.is_first) c.into.view_is ∙ c.requires.first)))

pub merge-requires-clause-parted : goal.merge-requires-clause-parted
merge-requires-clause-parted g c = (parted_of c.from.inside.seat.me.0.role c.from.invariant.pass (ap (λ p. p.is_first) c.from.view_is ∙ c.requires.split), c.from.invariant.bare)

pub invariant_of-into : goal.invariant_of-into
invariant_of-into g c =
    rests_joined g.T.Counted.adds g.T.Counted.is_fault g.T.Counted.legal g.T.Counted.right c.into.inside.out c.from.inside.out c.into.inside.seat.me c.from.inside.seat.me c.merge.new.seat.me c.learn.new.seat.me
    c.into.invariant (first_of c.into.inside.seat.me.0.role c.into.inside.out c.into.invariant.out_is (ap (λ p. p.is_first) c.into.view_is ∙ c.requires.first))
    c.from.invariant (ap (λ p. p.fixed) c.from.view_is ∙ (c.requires.from_of.1 ∙ sym (ap (λ p. p.fixed) c.into.view_is ∙ c.requires.into_of.1))) c.merge.ensures.views c.learn.ensures.one c.learn.ensures.learned

pub returns-clause-own : goal.returns-clause-own
returns-clause-own g c =
    let r = rests_joined g.T.Counted.adds g.T.Counted.is_fault g.T.Counted.legal g.T.Counted.right c.into.inside.out c.from.inside.out c.into.inside.seat.me c.from.inside.seat.me c.merge.new.seat.me c.learn.new.seat.me
    c.into.invariant (first_of c.into.inside.seat.me.0.role c.into.inside.out c.into.invariant.out_is (ap (λ p. p.is_first) c.into.view_is ∙ c.requires.first))
    c.from.invariant (ap (λ p. p.fixed) c.from.view_is ∙ (c.requires.from_of.1 ∙ sym (ap (λ p. p.fixed) c.into.view_is ∙ c.requires.into_of.1))) c.merge.ensures.views c.learn.ensures.one c.learn.ensures.learned in
    different_places g.T.Counted.adds g.T.Counted.is_fault g.T.Counted.legal g.T.Counted.right (c.into.inside.out - 1) c.merge.new.seat.me c.learn.new.seat.me r c.learn.ensures.learned c.learn.ensures.own

pub returns-clause-stand : goal.returns-clause-stand
returns-clause-stand g c =
    let r = rests_joined g.T.Counted.adds g.T.Counted.is_fault g.T.Counted.legal g.T.Counted.right c.into.inside.out c.from.inside.out c.into.inside.seat.me c.from.inside.seat.me c.merge.new.seat.me c.learn.new.seat.me
    c.into.invariant (first_of c.into.inside.seat.me.0.role c.into.inside.out c.into.invariant.out_is (ap (λ p. p.is_first) c.into.view_is ∙ c.requires.first))
    c.from.invariant (ap (λ p. p.fixed) c.from.view_is ∙ (c.requires.from_of.1 ∙ sym (ap (λ p. p.fixed) c.into.view_is ∙ c.requires.into_of.1))) c.merge.ensures.views c.learn.ensures.one c.learn.ensures.learned in
    r.stand
