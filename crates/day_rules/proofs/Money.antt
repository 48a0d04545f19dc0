-- What a change of one award, and a further award, do to sums over the awards and to the accounts.
use Rattle.std.proofs.Common.{◌≡◌, ℕ, ◌+◌, ◌-◌, ◌<◌, ◌≤◌, List, [], ◌∷◌, ◌++◌, map, length, set, get_or, Bool, true, false, cond, ◌&&◌, eqb, refl, sym, ap, ◌∙◌, inl, inr, arith, Option, Some, None}
use Rattle.std.specs.List.{sum_by, enumerate_from, slice_get}
use Rattle.std.proofs.lemmas.Bool.{cases_eq, cond-true, cond-false, eq-eqb, ne_eqb}
use Rattle.std.proofs.lemmas.List.{get_or-map, length-map}
use Rattle.std.proofs.lemmas.List.FromFn.{length-enumerate_from, get_or-enumerate_from}
use Rattle.std.proofs.lemmas.List.Sums.{sum_by-set, sum_by_push, get_or-le-sum_by}
use Rattle.std.proofs.lemmas.Option.{get_or_from_slice_get, slice_get_within}
use Rattle.adx_units.specs.Changed.{changed_at}
use Rattle.adx_units.specs.Money.{units}
use Rattle.adx_units.specs.declared.units.Units.{Units}
use Rattle.adx_units.proofs.Changed.{changed_at_is}
use Rattle.campaign_book.specs.Accounts.{Account, account_at, opened, reserved_at, billed_at, released_at}
use Rattle.notice_book.specs.declared.award.Award.{Award}
use Rattle.notice_book.specs.declared.award.End.{End}
use Rattle.notice_book.specs.declared.kind.NoticeKind.{NoticeKind}
use Rattle.notice_book.specs.AwardList.{noticed}
use Rattle.notice_book.specs.Rules.{is_open, is_billed, noticed_award, expired_award}
use Rattle.day_rules.specs.Books.{charge_where, reserved_in, billed_in, account_in, accounts_in}

-- a sum after one item was changed
pub changed_sum : {X : Type 0} (f : X → ℕ) (g : X → X) (n : ℕ) (xs : List X) (x : X) → slice_get xs n ≡ Some x → sum_by f (changed_at g n xs) + f x ≡ sum_by f xs + f (g x)
changed_sum f g n xs x at =
    let here : get_or xs n x ≡ x = get_or_from_slice_get xs n x x at in
    let within : n < length xs = slice_get_within xs n x at in
    let is : changed_at g n xs ≡ set xs n (g x) = changed_at_is g n xs x ∙ ap (λ y. set xs n (g y)) here in
    let one : sum_by f (changed_at g n xs) ≡ sum_by f (set xs n (g x)) = ap (sum_by f) is in
    let two : f (get_or xs n x) ≡ f x = ap f here in
    omega (arith, sum_by-set f xs n (g x) x within)

-- what an award takes from a campaign, whatever became of it
abbrev pub own_charge : ℕ → Award → ℕ
own_charge campaign w = cond (eqb w.campaign campaign) w.charge.0 0

and_true : (b : Bool) (n : ℕ) → cond (b && true) n 0 ≡ cond b n 0
and_true true n = refl
and_true false n = refl

and_false : (b : Bool) (n : ℕ) → cond (b && false) n 0 ≡ 0
and_false true n = refl
and_false false n = refl

pub charge_passes : (test : Option End → Bool) (campaign : ℕ) (w : Award) → test w.end ≡ true → charge_where test campaign w ≡ own_charge campaign w
charge_passes test campaign w h =
    ap (λ (b : Bool). cond (eqb w.campaign campaign && b) w.charge.0 0) h ∙ and_true (eqb w.campaign campaign) w.charge.0

pub charge_fails : (test : Option End → Bool) (campaign : ℕ) (w : Award) → test w.end ≡ false → charge_where test campaign w ≡ 0
charge_fails test campaign w h =
    ap (λ (b : Bool). cond (eqb w.campaign campaign && b) w.charge.0 0) h ∙ and_false (eqb w.campaign campaign) w.charge.0

pub own_here : (campaign : ℕ) (w : Award) → w.campaign ≡ campaign → own_charge campaign w ≡ w.charge.0
own_here campaign w same = cond-true (eqb w.campaign campaign) w.charge.0 0 (eq-eqb w.campaign campaign same)

pub own_other : (campaign : ℕ) (w : Award) → (w.campaign ≡ campaign → ⊥) → own_charge campaign w ≡ 0
own_other campaign w apart = cond-false (eqb w.campaign campaign) w.charge.0 0 (ne_eqb w.campaign campaign apart)

-- what the accounts are made of
abbrev account_of : ℕ → ℕ → ℕ → Account
account_of budget reserved billed = record { budget = budget; reserved = reserved; billed = billed }

account_is : (ws : List Award) (k : ℕ) (b : Units) (r l : ℕ) → reserved_in ws k ≡ r → billed_in ws k ≡ l → account_in ws (k, b) ≡ account_of b.0 r l
account_is ws k b r l open_is billed_is =
    ap (λ (x : ℕ). account_of b.0 x (billed_in ws k)) open_is ∙ ap (λ (x : ℕ). account_of b.0 r x) billed_is

map_numbered : {X Y : Type 0} (f g : ℕ × X → Y) (n : ℕ) (xs : List X) → ((k : ℕ) (x : X) → f (k, x) ≡ g (k, x)) → map f (enumerate_from n xs) ≡ map g (enumerate_from n xs)
map_numbered f g n [] each = refl
map_numbered {X} {Y} f g n (x ∷ xs) each =
    ap (λ (y : Y). y ∷ map f (enumerate_from (n + 1) xs)) (each n x) ∙ ap (λ (t : List Y). g (n, x) ∷ t) (map_numbered f g (n + 1) xs each)

pub numbered_twice : {X Y Z : Type 0} (f : ℕ × X → Y) (g : ℕ × Y → Z) (n : ℕ) (xs : List X) → map g (enumerate_from n (map f (enumerate_from n xs))) ≡ map (λ p. g (p.0, f p)) (enumerate_from n xs)
numbered_twice f g n [] = refl
numbered_twice {X} {Y} {Z} f g n (x ∷ xs) = ap (λ (t : List Z). g (n, f (n, x)) ∷ t) (numbered_twice f g (n + 1) xs)

-- awards that have the same money make the same accounts
pub accounts_same : (budgets : List Units) (ws vs : List Award) → ((k : ℕ) → reserved_in vs k ≡ reserved_in ws k) → ((k : ℕ) → billed_in vs k ≡ billed_in ws k) → accounts_in budgets vs ≡ accounts_in budgets ws
accounts_same budgets ws vs open_is billed_is =
    map_numbered (account_in vs) (account_in ws) 0 budgets (λ k b. account_is vs k b (reserved_in ws k) (billed_in ws k) (open_is k) (billed_is k))

-- awards whose money differs at one campaign alone
accounts_changed : (budgets : List Units) (ws vs : List Award) (h : Account → Account) (c : ℕ) → ((k : ℕ) (b : Units) → c ≡ k → account_in vs (k, b) ≡ h (account_in ws (k, b))) → ((k : ℕ) (b : Units) → (c ≡ k → ⊥) → account_in vs (k, b) ≡ account_in ws (k, b)) → accounts_in budgets vs ≡ changed_at h c (accounts_in budgets ws)
accounts_changed budgets ws vs h c here other =
    let f : ℕ × Units → Account = λ p. cond (eqb p.0 c) (h (account_in ws p)) (account_in ws p) in
    map_numbered (account_in vs) f 0 budgets (λ k b. elim (cases_eq c k) [
      | inl same ↦ here k b same ∙ sym (cond-true (eqb k c) (h (account_in ws (k, b))) (account_in ws (k, b)) (eq-eqb k c (sym same)))
      | inr apart ↦ other k b apart ∙ sym (cond-false (eqb k c) (h (account_in ws (k, b))) (account_in ws (k, b)) (ne_eqb k c (λ same. apart (sym same))))
    ])
    ∙ sym (numbered_twice (account_in ws) (λ (p : ℕ × Account). cond (eqb p.0 c) (h p.1) p.1) 0 budgets)

-- the charge of a further award is reserved
pub accounts_pushed : (budgets : List Units) (ws : List Award) (w : Award) → w.end ≡ None → accounts_in budgets (ws ++ w ∷ []) ≡ reserved_at w.campaign w.charge.0 (accounts_in budgets ws)
accounts_pushed budgets ws w none =
    let vs : List Award = ws ++ w ∷ [] in
    let opened_is : (k : ℕ) → reserved_in vs k ≡ reserved_in ws k + own_charge k w = λ k.
    sum_by_push (charge_where is_open k) ws w ∙ ap (λ n. reserved_in ws k + n) (charge_passes is_open k w (ap is_open none)) in
    let billed_is : (k : ℕ) → billed_in vs k ≡ billed_in ws k + 0 = λ k.
    sum_by_push (charge_where is_billed k) ws w ∙ ap (λ n. billed_in ws k + n) (charge_fails is_billed k w (ap is_billed none)) in
    accounts_changed budgets ws vs (λ a. record a { reserved = a.reserved + w.charge.0 }) w.campaign
    (λ k b same. let o = own_here k w same in let p = opened_is k in let q = billed_is k in account_is vs k b (reserved_in ws k + w.charge.0) (billed_in ws k) (omega arith) (omega arith))
    (λ k b apart. let o = own_other k w apart in let p = opened_is k in let q = billed_is k in account_is vs k b (reserved_in ws k) (billed_in ws k) (omega arith) (omega arith))

-- a win moves no money
pub accounts_won : (budgets : List Units) (ws : List Award) (n : ℕ) (w : Award) → slice_get ws n ≡ Some w → accounts_in budgets (noticed NoticeKind.Win n ws) ≡ accounts_in budgets ws
accounts_won budgets ws n w at =
    let vs : List Award = noticed NoticeKind.Win n ws in
    accounts_same budgets ws vs
    (λ k. omega (arith, changed_sum (charge_where is_open k) (noticed_award NoticeKind.Win) n ws w at))
    (λ k. omega (arith, changed_sum (charge_where is_billed k) (noticed_award NoticeKind.Win) n ws w at))

-- a bill of an open award moves its charge
pub accounts_billed : (budgets : List Units) (ws : List Award) (n : ℕ) (w : Award) → slice_get ws n ≡ Some w → w.end ≡ None → accounts_in budgets (noticed NoticeKind.Bill n ws) ≡ billed_at w.campaign w.charge.0 (accounts_in budgets ws)
accounts_billed budgets ws n w at none =
    let vs : List Award = noticed NoticeKind.Bill n ws in
    let v : Award = noticed_award NoticeKind.Bill w in
    let opened_is : (k : ℕ) → reserved_in vs k + own_charge k w ≡ reserved_in ws k = λ k.
    let was = charge_passes is_open k w (ap is_open none) in
    let is = charge_fails is_open k v refl in
    omega (arith, changed_sum (charge_where is_open k) (noticed_award NoticeKind.Bill) n ws w at) in
    let billed_is : (k : ℕ) → billed_in vs k ≡ billed_in ws k + own_charge k w = λ k.
    let was = charge_fails is_billed k w (ap is_billed none) in
    let is = charge_passes is_billed k v refl in
    omega (arith, changed_sum (charge_where is_billed k) (noticed_award NoticeKind.Bill) n ws w at) in
    accounts_changed budgets ws vs (λ a. record a { reserved = a.reserved - w.charge.0; billed = a.billed + w.charge.0 }) w.campaign
    (λ k b same. let o = own_here k w same in let p = opened_is k in let q = billed_is k in account_is vs k b (reserved_in ws k - w.charge.0) (billed_in ws k + w.charge.0) (omega arith) (omega arith))
    (λ k b apart. let o = own_other k w apart in let p = opened_is k in let q = billed_is k in account_is vs k b (reserved_in ws k) (billed_in ws k) (omega arith) (omega arith))

-- an open award that is lost or expires releases its charge
accounts_released : (budgets : List Units) (ws : List Award) (n : ℕ) (w : Award) (g : Award → Award) → slice_get ws n ≡ Some w → w.end ≡ None → is_open (g w).end ≡ false → is_billed (g w).end ≡ false → accounts_in budgets (changed_at g n ws) ≡ released_at w.campaign w.charge.0 (accounts_in budgets ws)
accounts_released budgets ws n w g at none closed unbilled =
    let vs : List Award = changed_at g n ws in
    let opened_is : (k : ℕ) → reserved_in vs k + own_charge k w ≡ reserved_in ws k = λ k.
    let was = charge_passes is_open k w (ap is_open none) in
    let is = charge_fails is_open k (g w) closed in
    omega (arith, changed_sum (charge_where is_open k) g n ws w at) in
    let billed_is : (k : ℕ) → billed_in vs k ≡ billed_in ws k = λ k.
    let was = charge_fails is_billed k w (ap is_billed none) in
    let is = charge_fails is_billed k (g w) unbilled in
    omega (arith, changed_sum (charge_where is_billed k) g n ws w at) in
    accounts_changed budgets ws vs (λ a. record a { reserved = a.reserved - w.charge.0 }) w.campaign
    (λ k b same. let o = own_here k w same in let p = opened_is k in account_is vs k b (reserved_in ws k - w.charge.0) (billed_in ws k) (omega arith) (billed_is k))
    (λ k b apart. let o = own_other k w apart in let p = opened_is k in account_is vs k b (reserved_in ws k) (billed_in ws k) (omega arith) (billed_is k))

pub accounts_lost : (budgets : List Units) (ws : List Award) (n : ℕ) (w : Award) → slice_get ws n ≡ Some w → w.end ≡ None → accounts_in budgets (noticed NoticeKind.Loss n ws) ≡ released_at w.campaign w.charge.0 (accounts_in budgets ws)
accounts_lost budgets ws n w at none = accounts_released budgets ws n w (noticed_award NoticeKind.Loss) at none refl refl

pub accounts_expired : (budgets : List Units) (ws : List Award) (n : ℕ) (w : Award) → slice_get ws n ≡ Some w → w.end ≡ None → accounts_in budgets (changed_at expired_award n ws) ≡ released_at w.campaign w.charge.0 (accounts_in budgets ws)
accounts_expired budgets ws n w at none = accounts_released budgets ws n w expired_award at none refl refl

-- the account of one campaign
pub accounts_length : (budgets : List Units) (ws : List Award) → length (accounts_in budgets ws) ≡ length budgets
accounts_length budgets ws = length-map (enumerate_from 0 budgets) (account_in ws) ∙ length-enumerate_from 0 budgets

pub account_here : (budgets : List Units) (ws : List Award) (c : ℕ) → c < length budgets → account_at (accounts_in budgets ws) c ≡ account_in ws (c, get_or budgets c (units 0))
account_here budgets ws c within =
    let inside : c < length (enumerate_from 0 budgets) = omega (arith, length-enumerate_from 0 budgets) in
    get_or-map (account_in ws) (enumerate_from 0 budgets) c (0, units 0) (opened (units 0)) inside
    ∙ (ap (account_in ws) (get_or-enumerate_from 0 budgets c (0, units 0) within)
    ∙ ap (λ k. account_in ws (k, get_or budgets c (units 0))) (omega arith))

-- an open award's charge is within what its campaign has reserved
pub charge_reserved : (budgets : List Units) (ws : List Award) (n : ℕ) (w : Award) → slice_get ws n ≡ Some w → w.end ≡ None → w.campaign < length budgets → w.charge.0 ≤ (account_at (accounts_in budgets ws) w.campaign).reserved
charge_reserved budgets ws n w at none within =
    let f : Award → ℕ = charge_where is_open w.campaign in
    let inside : n < length ws = slice_get_within ws n w at in
    let one : f (get_or ws n w) ≡ f w = ap f (get_or_from_slice_get ws n w w at) in
    let own : f w ≡ w.charge.0 = charge_passes is_open w.campaign w (ap is_open none) ∙ own_here w.campaign w refl in
    let all : (account_at (accounts_in budgets ws) w.campaign).reserved ≡ reserved_in ws w.campaign = ap (λ (a : Account). a.reserved) (account_here budgets ws w.campaign within) in
    omega (arith, get_or-le-sum_by f ws n w inside)
