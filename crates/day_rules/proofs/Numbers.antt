-- The numbers of the open and of the billed awards, after each kind of entry.
use Rattle.std.proofs.Common.{◌≡◌, ℕ, zero, suc, ◌+◌, ◌<◌, List, [], ◌∷◌, ◌++◌, map, length, filter, Bool, true, false, cond, not, ◌&&◌, eqb, ltb, refl, sym, ap, ◌∙◌, subst, arith, Option, Some, None}
use Rattle.day_rules.proofs.Room.{expired_one}
use Rattle.std.specs.List.{sum_by, enumerate_from, range_with_len, list_any, slice_get}
use Rattle.std.specs.Prelude.{IsPermutation}
use Rattle.std.proofs.lemmas.List.Sums.{sum_by-cons}
use Rattle.std.proofs.lemmas.List.Sorted.{IsPermutation-to_front, IsPermutation-cons}
use Rattle.std.proofs.lemmas.Option.{none-some, same_Some}
use Rattle.std.proofs.lemmas.Bool.{cond-true, cond-false, eq-eqb, ne_eqb, eqb-true, lt-ltb}
use Rattle.notice_book.specs.declared.award.Award.{Award}
use Rattle.notice_book.specs.declared.award.End.{End}
use Rattle.notice_book.specs.AwardList.{due_count, expired_by}
use Rattle.notice_book.specs.Rules.{is_open, is_billed, is_due}
use Rattle.day_rules.specs.Books.{Sale, award_of, charge_where, numbers_where}
use Rattle.day_rules.proofs.Money.{own_charge}

-- the numbers from n on, award by award
abbrev pub numbers_from : (Option End → Bool) → ℕ → List Award → List ℕ
numbers_from test n [] = []
numbers_from test n (w ∷ ws) = cond (test w.end) (n ∷ numbers_from test (n + 1) ws) (numbers_from test (n + 1) ws)

number_first : (b : Bool) (p : ℕ × Award) (ps : List (ℕ × Award)) (ns : List ℕ) → map (λ (q : ℕ × Award). q.0) ps ≡ ns → map (λ (q : ℕ × Award). q.0) (cond b (p ∷ ps) ps) ≡ cond b (p.0 ∷ ns) ns
number_first true p ps ns rest = ap (λ (t : List ℕ). p.0 ∷ t) rest
number_first false p ps ns rest = rest

numbers_are : (test : Option End → Bool) (n : ℕ) (ws : List Award) → map (λ (p : ℕ × Award). p.0) (filter (λ (p : ℕ × Award). test p.1.end) (enumerate_from n ws)) ≡ numbers_from test n ws
numbers_are test n [] = refl
numbers_are test n (w ∷ ws) =
    number_first (test w.end) (n, w) (filter (λ (p : ℕ × Award). test p.1.end) (enumerate_from (n + 1) ws)) (numbers_from test (n + 1) ws) (numbers_are test (n + 1) ws)

pub numbers_is : (test : Option End → Bool) (ws : List Award) → numbers_where test ws ≡ numbers_from test 0 ws
numbers_is test ws = numbers_are test 0 ws

-- after further awards
keeps_rest : (b : Bool) (x : ℕ) (xs ys zs : List ℕ) → zs ≡ xs ++ ys → cond b (x ∷ zs) zs ≡ cond b (x ∷ xs) xs ++ ys
keeps_rest true x xs ys zs is = ap (λ (t : List ℕ). x ∷ t) is
keeps_rest false x xs ys zs is = is

pub numbers_append : (test : Option End → Bool) (n : ℕ) (ws vs : List Award) → numbers_from test n (ws ++ vs) ≡ numbers_from test n ws ++ numbers_from test (n + length ws) vs
numbers_append test n [] vs = ap (λ k. numbers_from test k vs) (omega arith)
numbers_append test n (w ∷ ws) vs =
    keeps_rest (test w.end) n (numbers_from test (n + 1) ws) (numbers_from test (n + suc (length ws)) vs) (numbers_from test (n + 1) (ws ++ vs))
    (numbers_append test (n + 1) ws vs ∙ ap (λ k. numbers_from test (n + 1) ws ++ numbers_from test k vs) (omega arith))

pub open_sold : (n place : ℕ) (sales : List Sale) → numbers_from is_open n (map (award_of place) sales) ≡ range_with_len n (length sales)
open_sold n place [] = refl
open_sold n place (s ∷ ss) = ap (λ (t : List ℕ). n ∷ t) (open_sold (n + 1) place ss)

pub billed_sold : (n place : ℕ) (sales : List Sale) → numbers_from is_billed n (map (award_of place) sales) ≡ []
billed_sold n place [] = refl
billed_sold n place (s ∷ ss) = billed_sold (n + 1) place ss

-- the awards with that of a number changed
abbrev pub changed_from : (Award → Award) → ℕ → ℕ → List Award → List Award
changed_from g m n ws = map (λ (p : ℕ × Award). cond (eqb p.0 m) (g p.1) p.1) (enumerate_from n ws)

-- a change that closes an award takes its number away
closed_one : (here still v_open : Bool) (q : ℕ → Bool) (n : ℕ) (xs ys : List ℕ) → v_open ≡ cond here false still → q n ≡ not here → ys ≡ filter q xs → cond v_open (n ∷ ys) ys ≡ filter q (cond still (n ∷ xs) xs)
closed_one true true v_open q n xs ys is kept rest = rw is (rw kept rest)
closed_one true false v_open q n xs ys is kept rest = rw is rest
closed_one false true v_open q n xs ys is kept rest = rw is (rw kept (ap (λ (t : List ℕ). n ∷ t) rest))
closed_one false false v_open q n xs ys is kept rest = rw is rest

open_changed : (g : Award → Award) (w : Award) (b : Bool) → is_open (g w).end ≡ false → is_open (cond b (g w) w).end ≡ cond b false (is_open w.end)
open_changed g w true closed = closed
open_changed g w false closed = refl

pub open_closed : (g : Award → Award) (m n : ℕ) (ws : List Award) → ((w : Award) → is_open (g w).end ≡ false) → numbers_from is_open n (changed_from g m n ws) ≡ filter (λ k. not (eqb k m)) (numbers_from is_open n ws)
open_closed g m n [] closed = refl
open_closed g m n (w ∷ ws) closed =
    closed_one (eqb n m) (is_open w.end) (is_open (cond (eqb n m) (g w) w).end) (λ k. not (eqb k m)) n (numbers_from is_open (n + 1) ws) (numbers_from is_open (n + 1) (changed_from g m (n + 1) ws))
    (open_changed g w (eqb n m) (closed w)) refl (open_closed g m (n + 1) ws closed)

-- a change that leaves the test of the award as it was leaves the numbers
test_changed : (test : Option End → Bool) (g : Award → Award) (w : Award) (b : Bool) → (b ≡ true → test (g w).end ≡ test w.end) → test (cond b (g w) w).end ≡ test w.end
test_changed test g w true same = same refl
test_changed test g w false same = refl

pub numbers_same : (test : Option End → Bool) (g : Award → Award) (m n : ℕ) (ws : List Award) → ((k : ℕ) (w : Award) → slice_get ws k ≡ Some w → n + k ≡ m → test (g w).end ≡ test w.end) → numbers_from test n (changed_from g m n ws) ≡ numbers_from test n ws
numbers_same test g m n [] same = refl
numbers_same test g m n (w ∷ ws) same =
    let v : Award = cond (eqb n m) (g w) w in
    let xs : List ℕ = numbers_from test (n + 1) ws in
    let rest : numbers_from test (n + 1) (changed_from g m (n + 1) ws) ≡ xs =
    numbers_same test g m (n + 1) ws (λ k v at is. same (suc k) v at (omega arith)) in
    ap (λ (ys : List ℕ). cond (test v.end) (n ∷ ys) ys) rest
    ∙ ap (λ (b : Bool). cond b (n ∷ xs) xs) (test_changed test g w (eqb n m) (λ here. same 0 w refl (let e : n ≡ m = eqb-true n m here in omega arith)))

-- a bill adds its number
apart_same : (g : Award → Award) (m n : ℕ) (ws : List Award) → m < n → changed_from g m n ws ≡ ws
apart_same g m n [] below = refl
apart_same g m n (w ∷ ws) below =
    ap (λ (x : Award). x ∷ changed_from g m (n + 1) ws) (cond-false (eqb n m) (g w) w (ne_eqb n m (λ same. absurd (omega arith))))
    ∙ ap (λ (t : List Award). w ∷ t) (apart_same g m (n + 1) ws (omega arith))

billed_rest : (b : Bool) (n m : ℕ) (xs ys : List ℕ) → IsPermutation (xs ++ m ∷ []) ys → IsPermutation (cond b (n ∷ xs) xs ++ m ∷ []) (cond b (n ∷ ys) ys)
billed_rest true n m xs ys rest = IsPermutation-cons n (xs ++ m ∷ []) ys rest
billed_rest false n m xs ys rest = rest

pub billed_more : (g : Award → Award) (m n k : ℕ) (ws : List Award) (w : Award) → slice_get ws k ≡ Some w → n + k ≡ m → is_billed w.end ≡ false → ((v : Award) → is_billed (g v).end ≡ true) → IsPermutation (numbers_from is_billed n ws ++ m ∷ []) (numbers_from is_billed n (changed_from g m n ws))
billed_more g m n k [] w at is unbilled bills = absurd (none-some w at)
billed_more g m n zero (v ∷ ws) w at is unbilled bills =
    let here : n ≡ m = omega arith in
    let same : v ≡ w = same_Some v w at in
    let xs : List ℕ = numbers_from is_billed (n + 1) ws in
    let was : numbers_from is_billed n (v ∷ ws) ≡ xs = cond-false (is_billed v.end) (n ∷ xs) xs (ap (λ (x : Award). is_billed x.end) same ∙ unbilled) in
    let changed : cond (eqb n m) (g v) v ≡ g v = cond-true (eqb n m) (g v) v (eq-eqb n m here) in
    let rest : changed_from g m (n + 1) ws ≡ ws = apart_same g m (n + 1) ws (omega arith) in
    let now : numbers_from is_billed n (changed_from g m n (v ∷ ws)) ≡ m ∷ xs =
    ap (λ (x : Award). numbers_from is_billed n (x ∷ changed_from g m (n + 1) ws)) changed
    ∙ (ap (λ (t : List Award). numbers_from is_billed n (g v ∷ t)) rest
    ∙ (cond-true (is_billed (g v).end) (n ∷ xs) xs (bills v) ∙ ap (λ (j : ℕ). j ∷ xs) here)) in
    let P : List ℕ → Type 0 = λ t. IsPermutation (t ++ m ∷ []) (numbers_from is_billed n (changed_from g m n (v ∷ ws))) in
    let Q : List ℕ → Type 0 = λ t. IsPermutation (xs ++ m ∷ []) t in
    subst P (sym was) (subst Q (sym now) (IsPermutation-to_front xs m))
billed_more g m n (suc k) (v ∷ ws) w at is unbilled bills =
    let xs : List ℕ = numbers_from is_billed (n + 1) ws in
    let ys : List ℕ = numbers_from is_billed (n + 1) (changed_from g m (n + 1) ws) in
    let changed : cond (eqb n m) (g v) v ≡ v = cond-false (eqb n m) (g v) v (ne_eqb n m (λ same. absurd (omega arith))) in
    let rest : IsPermutation (xs ++ m ∷ []) ys = billed_more g m (n + 1) k ws w at (omega arith) unbilled bills in
    let P : Award → Type 0 = λ x. IsPermutation (numbers_from is_billed n (v ∷ ws) ++ m ∷ []) (cond (is_billed x.end) (n ∷ ys) ys) in
    subst P (sym changed) (billed_rest (is_billed v.end) n m xs ys rest)

-- a moment takes the numbers of the open awards whose deadline is before it
late_one : (o late : Bool) (v_open : Bool) (q : ℕ → Bool) (n : ℕ) (xs ys : List ℕ) → v_open ≡ (o && not late) → q n ≡ not late → ys ≡ filter q xs → cond v_open (n ∷ ys) ys ≡ filter q (cond o (n ∷ xs) xs)
late_one true true v_open q n xs ys is kept rest = rw is (rw kept rest)
late_one true false v_open q n xs ys is kept rest = rw is (rw kept (ap (λ (t : List ℕ). n ∷ t) rest))
late_one false late v_open q n xs ys is kept rest = rw is rest

open_expired_one : (w : Award) (late : Bool) (end : Option End) → is_open (cond (is_open end && late) (record w { end = Some End.Expired }) (record w { end = end })).end ≡ (is_open end && not late)
open_expired_one w true None = refl
open_expired_one w false None = refl
open_expired_one w late (Some x) = refl

pub open_expired : (d : ℕ → ℕ) (now n : ℕ) (ws : List Award) → ((k : ℕ) (w : Award) → slice_get ws k ≡ Some w → d (n + k) ≡ w.deadline) → numbers_from is_open n (expired_by now ws) ≡ filter (λ k. not (ltb (d k) now)) (numbers_from is_open n ws)
open_expired d now n [] at = refl
open_expired d now n (w ∷ ws) at =
    let here : d n ≡ w.deadline = ap d (omega arith) ∙ at 0 w refl in
    late_one (is_open w.end) (ltb w.deadline now) (is_open (expired_one now w).end) (λ k. not (ltb (d k) now)) n (numbers_from is_open (n + 1) ws) (numbers_from is_open (n + 1) (expired_by now ws))
    (open_expired_one w (ltb w.deadline now) w.end)
    (ap (λ (t : ℕ). not (ltb t now)) here)
    (open_expired d now (n + 1) ws (λ k v is. ap d (omega arith) ∙ at (suc k) v is))

billed_expired_one : (w : Award) (late : Bool) (end : Option End) → is_billed (cond (is_open end && late) (record w { end = Some End.Expired }) (record w { end = end })).end ≡ is_billed end
billed_expired_one w true None = refl
billed_expired_one w false None = refl
billed_expired_one w late (Some x) = refl

pub billed_expired : (now n : ℕ) (ws : List Award) → numbers_from is_billed n (expired_by now ws) ≡ numbers_from is_billed n ws
billed_expired now n [] = refl
billed_expired now n (w ∷ ws) =
    let xs : List ℕ = numbers_from is_billed (n + 1) ws in
    ap (λ (ys : List ℕ). cond (is_billed (expired_one now w).end) (n ∷ ys) ys) (billed_expired now (n + 1) ws)
    ∙ ap (λ (b : Bool). cond b (n ∷ xs) xs) (billed_expired_one w (ltb w.deadline now) w.end)

-- one of them is late exactly where the moment ends an award
any_one : (p : ℕ → Bool) (o late : Bool) (n c : ℕ) (xs : List ℕ) → p n ≡ late → list_any p xs ≡ ltb 0 c → list_any p (cond o (n ∷ xs) xs) ≡ ltb 0 (cond (o && late) 1 0 + c)
any_one p true true n c xs here rest = rw here (sym (lt-ltb 0 (1 + c) (omega arith)))
any_one p true false n c xs here rest = rw here (rest ∙ ap (ltb 0) (omega arith))
any_one p false late n c xs here rest = rest ∙ ap (ltb 0) (omega arith)

pub any_late : (d : ℕ → ℕ) (now n : ℕ) (ws : List Award) → ((k : ℕ) (w : Award) → slice_get ws k ≡ Some w → d (n + k) ≡ w.deadline) → list_any (λ k. ltb (d k) now) (numbers_from is_open n ws) ≡ ltb 0 (due_count now ws)
any_late d now n [] at = refl
any_late d now n (w ∷ ws) at =
    let here : d n ≡ w.deadline = ap d (omega arith) ∙ at 0 w refl in
    let count : due_count now (w ∷ ws) ≡ cond (is_due now w) 1 0 + due_count now ws = sum_by-cons (λ (v : Award). cond (is_due now v) 1 0) w ws in
    any_one (λ k. ltb (d k) now) (is_open w.end) (ltb w.deadline now) n (due_count now ws) (numbers_from is_open (n + 1) ws)
    (ap (λ (t : ℕ). ltb t now) here)
    (any_late d now (n + 1) ws (λ k v is. ap d (omega arith) ∙ at (suc k) v is))
    ∙ ap (ltb 0) (sym count)

-- what the awards of these numbers take
charge_one : (same passes : Bool) (charge : ℕ) → cond passes (cond same charge 0) 0 ≡ cond (same && passes) charge 0
charge_one true true charge = refl
charge_one true false charge = refl
charge_one false true charge = refl
charge_one false false charge = refl

sum_first : (g : ℕ → ℕ) (b : Bool) (n : ℕ) (xs : List ℕ) → sum_by g (cond b (n ∷ xs) xs) ≡ cond b (g n) 0 + sum_by g xs
sum_first g true n xs = sum_by-cons g n xs
sum_first g false n xs = omega arith

pub charges_of_numbers : (g : ℕ → ℕ) (test : Option End → Bool) (campaign n : ℕ) (ws : List Award) → ((k : ℕ) (w : Award) → slice_get ws k ≡ Some w → g (n + k) ≡ own_charge campaign w) → sum_by g (numbers_from test n ws) ≡ sum_by (charge_where test campaign) ws
charges_of_numbers g test campaign n [] at = refl
charges_of_numbers g test campaign n (w ∷ ws) at =
    let here : g n ≡ own_charge campaign w = ap g (omega arith) ∙ at 0 w refl in
    let one : cond (test w.end) (g n) 0 ≡ charge_where test campaign w =
    ap (λ (c : ℕ). cond (test w.end) c 0) here ∙ charge_one (eqb w.campaign campaign) (test w.end) w.charge.0 in
    let rest : sum_by g (numbers_from test (n + 1) ws) ≡ sum_by (charge_where test campaign) ws =
    charges_of_numbers g test campaign (n + 1) ws (λ k v is. ap g (omega arith) ∙ at (suc k) v is) in
    omega (arith, sum_first g (test w.end) n (numbers_from test (n + 1) ws), sum_by-cons (charge_where test campaign) w ws)
