-- By the turn at the turnstile.
use Rattle.std.proofs.Common.{◌∙◌, [], refl, sym, subst}
use Rattle.std.specs.Prelude.{IsSome}
use Rattle.shared_desk.proofs.Passing.{passed_turn, ran_on_opened}
use Rattle.shared_desk.proofs.shared_desk.SharedDesk.seen.Goals as goal

pub unwrap-requires : goal.unwrap-requires
unwrap-requires g c =
    let did = ran_on_opened _ _ _ _ _ _ _ c.args.self.now.fixed c.requires.of.1 c.turn.ensures.turn in
    subst (λ o. IsSome o) (sym did) refl

pub returns-clause-turn : goal.returns-clause-turn
returns-clause-turn g c =
    let opened = c.args.self.now.fixed in
    let t = c.turn.ensures.turn in
    let legal = c.recall.ensures.legal opened (t.same.3 ∙ c.requires.of.1) in
    (t.before, passed_turn _ _ _ _ _ _ _ opened t [] 0 refl refl (record {}) legal)
