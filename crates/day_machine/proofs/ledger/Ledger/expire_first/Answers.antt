use Rattle.std.proofs.Common.{◌≡◌, ℕ, List, cond, not, slice_get, sym, ap, ◌∙◌, arith}
use Rattle.notice_book.specs.declared.award.Award.{Award}
use Rattle.notice_book.specs.Rules.{expired_award}
use Rattle.day_machine.specs.LedgerState.{LedgerState}
use Rattle.day_machine.proofs.LedgerKept.{changed_here, expired_budgets, expired_count, first_open, kept_expired, open_reserved}
use Rattle.day_machine.proofs.Pointed.{pointed, there}
use Rattle.day_machine.proofs.ledger.Ledger.expire_first.Goals as goal

pub unwrap-award-requires : goal.unwrap-award-requires
unwrap-award-requires c =
    let first = first_open c.args.now c.in-Some.n c.self.inside.sold.awards (sym c.in-Some.ensures.first) in
    there c.get.result (expired_award first.0)
    (c.get.ensures ∙ (ap (λ (ws : List Award). slice_get ws c.in-Some.n) c.in-Some.ensures.awards ∙ changed_here expired_award c.in-Some.n c.self.inside.sold.awards first.0 first.1))

pub release-requires-clause-known : goal.release-requires-clause-known
release-requires-clause-known c =
    let first = first_open c.args.now c.in-Some.n c.self.inside.sold.awards (sym c.in-Some.ensures.first) in
    let is : c.unwrap-award.result.now ≡ expired_award first.0 =
    pointed c.get.result c.unwrap-award.result (expired_award first.0) c.unwrap-award.ensures
    (c.get.ensures ∙ (ap (λ (ws : List Award). slice_get ws c.in-Some.n) c.in-Some.ensures.awards ∙ changed_here expired_award c.in-Some.n c.self.inside.sold.awards first.0 first.1)) in
    rw is (open_reserved c.self.inside.money c.self.inside.sold.awards c.self.inside.places.items c.self.inside.to_come c.in-Some.n first.0 c.self.invariant first.1 first.2).0

pub release-requires-clause-reserved : goal.release-requires-clause-reserved
release-requires-clause-reserved c =
    let first = first_open c.args.now c.in-Some.n c.self.inside.sold.awards (sym c.in-Some.ensures.first) in
    let is : c.unwrap-award.result.now ≡ expired_award first.0 =
    pointed c.get.result c.unwrap-award.result (expired_award first.0) c.unwrap-award.ensures
    (c.get.ensures ∙ (ap (λ (ws : List Award). slice_get ws c.in-Some.n) c.in-Some.ensures.awards ∙ changed_here expired_award c.in-Some.n c.self.inside.sold.awards first.0 first.1)) in
    rw is (open_reserved c.self.inside.money c.self.inside.sold.awards c.self.inside.places.items c.self.inside.to_come c.in-Some.n first.0 c.self.invariant first.1 first.2).1

pub overflow_sub-self : goal.overflow_sub-self
overflow_sub-self c =
    let first = first_open c.args.now c.in-Some.n c.self.inside.sold.awards (sym c.in-Some.ensures.first) in
    let is : c.unwrap-award.result.now ≡ expired_award first.0 =
    pointed c.get.result c.unwrap-award.result (expired_award first.0) c.unwrap-award.ensures
    (c.get.ensures ∙ (ap (λ (ws : List Award). slice_get ws c.in-Some.n) c.in-Some.ensures.awards ∙ changed_here expired_award c.in-Some.n c.self.inside.sold.awards first.0 first.1)) in
    omega (arith, c.to_come_of_open.ensures, ap (λ (w : Award). cond {A = ℕ} (not w.won) 1 0) is, expired_count c.self.inside.money c.self.inside.sold.awards c.self.inside.places.items c.self.inside.to_come c.in-Some.n first.0 c.self.invariant first.1 first.2)

pub invariant_of-self-in-Some : goal.invariant_of-self-in-Some
invariant_of-self-in-Some c =
    let first = first_open c.args.now c.in-Some.n c.self.inside.sold.awards (sym c.in-Some.ensures.first) in
    let is : c.unwrap-award.result.now ≡ expired_award first.0 =
    pointed c.get.result c.unwrap-award.result (expired_award first.0) c.unwrap-award.ensures
    (c.get.ensures ∙ (ap (λ (ws : List Award). slice_get ws c.in-Some.n) c.in-Some.ensures.awards ∙ changed_here expired_award c.in-Some.n c.self.inside.sold.awards first.0 first.1)) in
    rw (c.release.ensures, c.in-Some.ensures.awards, c.to_come_of_open.ensures, is)
    (kept_expired c.self.inside.money c.self.inside.sold.awards c.self.inside.places.items c.self.inside.to_come c.in-Some.n first.0 c.self.invariant first.1 first.2)

pub returns-in-Some-clause-budgets : goal.returns-in-Some-clause-budgets
returns-in-Some-clause-budgets c =
    let budgets = ap (λ (s : LedgerState). s.budgets) c.self.view_is in
    let first = first_open c.args.now c.in-Some.n c.self.inside.sold.awards (sym c.in-Some.ensures.first) in
    let is : c.unwrap-award.result.now ≡ expired_award first.0 =
    pointed c.get.result c.unwrap-award.result (expired_award first.0) c.unwrap-award.ensures
    (c.get.ensures ∙ (ap (λ (ws : List Award). slice_get ws c.in-Some.n) c.in-Some.ensures.awards ∙ changed_here expired_award c.in-Some.n c.self.inside.sold.awards first.0 first.1)) in
    rw (c.release.ensures, is)
    (expired_budgets c.self.inside.money c.self.inside.sold.awards c.self.inside.places.items c.self.inside.to_come c.in-Some.n first.0 c.self.invariant first.1 first.2 ∙ budgets)
