-- Sums of charges stay small.
use Rattle.std.proofs.Common.{◌≡◌, ℕ, ◌+◌, ◌*◌, ◌≤◌, ◌<◌, List, take, length, get_or, Bool, true, false, cond, ◌&&◌, eqb, arith, refl}
use Rattle.std.specs.List.{All, sum_by}
use Rattle.std.proofs.lemmas.List.Sums.{sum_by-le, sum_by_more_le}
use Rattle.std.proofs.lemmas.Bool.{cond-true, and_from, and_parts, eqb-true, eq-eqb}
use Rattle.adx_units.specs.declared.offer.Offer.{Offer}
use Rattle.allocator_core.specs.declared.reason.TheConstants.{AWARDED}
use Rattle.allocator_core.specs.declared.taken.Take.{Take}
use Rattle.allocator_core.specs.Settling.{taken_of}
use Rattle.allocator_core.specs.Passes.{taken_from}

within_or_none : (b : Bool) (n most : ℕ) → (b ≡ true → n ≤ most) → cond b n 0 ≤ most
within_or_none true n most h = h refl
within_or_none false n most h = omega arith

-- the sum so far and the next charge are within the greatest charge for each item
sum_step : {X : Type 0} (test : X → Bool) (charge : X → ℕ) (xs : List X) (i most : ℕ) (d : X) → All (λ x. test x ≡ true → charge x ≤ most) xs → i < length xs → test (get_or xs i d) ≡ true → sum_by (λ x. cond (test x) (charge x) 0) (take i xs) + charge (get_or xs i d) ≤ length xs * most
sum_step {X} test charge xs i most d small within holds =
    let f : X → ℕ = λ x. cond (test x) (charge x) 0 in
    let here : f (get_or xs i d) ≡ charge (get_or xs i d) = cond-true (test (get_or xs i d)) (charge (get_or xs i d)) 0 holds in
    let part : sum_by f (take i xs) + f (get_or xs i d) ≤ sum_by f xs = sum_by_more_le f xs i d within in
    let all : sum_by f xs ≤ length xs * most = sum_by-le f most xs (λ k e below. within_or_none (test (get_or xs k e)) (charge (get_or xs k e)) most (small k e below)) in
    omega arith

pub awarded_step : (offers : List Offer) (campaign i most : ℕ) (d : Offer) → All (λ o. o.reason ≡ AWARDED → o.charge.0 ≤ most) offers → i < length offers → (get_or offers i d).reason ≡ AWARDED → (get_or offers i d).campaign ≡ campaign → taken_of (take i offers) campaign + (get_or offers i d).charge.0 ≤ length offers * most
awarded_step offers campaign i most d small within awarded same =
    let test : Offer → Bool = λ o. eqb o.reason AWARDED && eqb o.campaign campaign in
    let o : Offer = get_or offers i d in
    sum_step test (λ o. o.charge.0) offers i most d
    (λ k e below holds. small k e below (eqb-true (get_or offers k e).reason AWARDED (and_parts (eqb (get_or offers k e).reason AWARDED) _ holds).0))
    within
    (and_from (eqb o.reason AWARDED) (eqb o.campaign campaign) (eq-eqb o.reason AWARDED awarded) (eq-eqb o.campaign campaign same))

pub taken_step : (takes : List Take) (campaign i most : ℕ) (d : Take) → All (λ t. t.charge.0 ≤ most) takes → i < length takes → (get_or takes i d).campaign ≡ campaign → taken_from (take i takes) campaign + (get_or takes i d).charge.0 ≤ length takes * most
taken_step takes campaign i most d small within same =
    sum_step (λ t. eqb t.campaign campaign) (λ t. t.charge.0) takes i most d (λ k e below holds. small k e below) within
    (eq-eqb (get_or takes i d).campaign campaign same)
