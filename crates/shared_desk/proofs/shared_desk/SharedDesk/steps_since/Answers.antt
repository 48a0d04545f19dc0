-- By the turn at the turnstile.
use Rattle.std.proofs.Common.{◌≡◌, ◌∙◌, [], drop, refl, subst, take}
use Rattle.std.specs.Prelude.{IfOk, IsSomeAnd}
use Rattle.day_rules.specs.Steps.{StayInRange, meters_of}
use Rattle.day_rules.specs.DayMeters.{steps_of}
use Rattle.shared_desk.proofs.Passing.{passed_turn, ran_on_opened, some_there}
use Rattle.shared_desk.proofs.Steps.{steps_seen}
use Rattle.shared_desk.proofs.shared_desk.SharedDesk.steps_since.Goals as goal

pub unwrap-requires : goal.unwrap-requires
unwrap-requires g c =
    let did = ran_on_opened _ _ _ _ _ _ _ c.args.self.now.fixed c.requires.of.1 c.turn.ensures.turn in
    some_there _ _ did

pub returns-clause-turn : goal.returns-clause-turn
returns-clause-turn g c =
    let opened = c.args.self.now.fixed in
    let t = c.turn.ensures.turn in
    let legal = c.recall.ensures.legal opened (t.same.3 ∙ c.requires.of.1) in
    (t.before, passed_turn _ _ _ _ _ _ _ opened t [] 0 refl refl (record {}) legal)

pub returns-clause-steps : goal.returns-clause-steps
returns-clause-steps g c =
    let t = c.turn.ensures.turn in
    let did = ran_on_opened _ _ _ _ _ _ _ c.args.self.now.fixed c.requires.of.1 t in
    let here = subst (λ o. IsSomeAnd o (λ r. IfOk r (λ v. (v.items ≡ drop c.args.n (steps_of t.before)) × StayInRange (meters_of (take c.args.n (steps_of t.before))) v.items))) c.unwrap.ensures did in
    (steps_seen (λ v. v.items) t.before c.turn.new.pass.seen c.args.n c.unwrap.result t.seen here).0

pub returns-clause-range : goal.returns-clause-range
returns-clause-range g c =
    let t = c.turn.ensures.turn in
    let did = ran_on_opened _ _ _ _ _ _ _ c.args.self.now.fixed c.requires.of.1 t in
    let here = subst (λ o. IsSomeAnd o (λ r. IfOk r (λ v. (v.items ≡ drop c.args.n (steps_of t.before)) × StayInRange (meters_of (take c.args.n (steps_of t.before))) v.items))) c.unwrap.ensures did in
    (steps_seen (λ v. v.items) t.before c.turn.new.pass.seen c.args.n c.unwrap.result t.seen here).1
