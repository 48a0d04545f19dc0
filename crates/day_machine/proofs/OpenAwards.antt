-- How many awards have no end, counted one by one; and that what is held is small.
use Rattle.std.proofs.Common.{◌≡◌, ℕ, suc, zero, ◌+◌, ◌*◌, ◌^◌, ◌<◌, ◌≤◌, List, [], ◌∷◌, take, Bool, true, false, cond, eqb, refl, ◌∙◌, ap, arith, Option, Some, None, mul-le-mul_right}
use Rattle.std.specs.List.{slice_get}
use Rattle.std.proofs.lemmas.List.Sums.{count_by-le-length, sum_by-cons}
use Rattle.notice_book.specs.declared.award.Award.{Award}
use Rattle.notice_book.specs.Rules.{may_end}
use Rattle.day_rules.specs.declared.entry.Entry.{Entry}
use Rattle.day_rules.specs.Books.{awards_of, entries_to_come}
use Rattle.day_rules.specs.DayState.{IsDay}
use Rattle.day_rules.specs.Terms.{Terms}
use Rattle.day_rules.proofs.Counting.{day_asks, day_awards, day_changes, few_entries}
use Rattle.day_machine.specs.Held.{held, open_count, open_one}
use Rattle.day_machine.specs.declared.held.TheConstants.{EXPIRY_IN_GROUPS, EXPIRY_RECORD, NOTICE_IN_GROUPS, NOTICE_RECORD}

abbrev open_by : Award → ℕ
open_by w = cond (may_end w) 1 0

first_more : (ws : List Award) (n : ℕ) → open_count (take (suc n) ws) ≡ open_count (take n ws) + open_one (slice_get ws n)
first_more [] zero = refl
first_more [] (suc n) = refl
first_more (w ∷ ws) zero = omega (arith, sum_by-cons open_by w (take 0 ws))
first_more (w ∷ ws) (suc n) = omega (arith, first_more ws n, sum_by-cons open_by w (take (suc n) ws), sum_by-cons open_by w (take n ws))

pub open_more : (ws : List Award) (n : ℕ) → open_count (take (n + 1) ws) ≡ open_count (take n ws) + open_one (slice_get ws n)
open_more ws n = let next : n + 1 ≡ suc n = omega arith in ap (λ (k : ℕ). open_count (take k ws)) next ∙ first_more ws n

one_at_most : (b : Bool) → cond b 1 0 ≤ 1
one_at_most true = omega arith
one_at_most false = omega arith

pub open_at_most : (o : Option Award) → open_one o ≤ 1
open_at_most None = omega arith
open_at_most (Some w) = one_at_most (may_end w)

pub few_to_come : (terms : Terms) (history : List Entry) → IsDay terms history → entries_to_come (awards_of history) < 2 ^ 34
few_to_come terms history day =
    omega (arith, few_entries terms history day.legal, day_awards terms history day, day_asks terms history day, day_changes terms history day)

pub few_open : (terms : Terms) (history : List Entry) → IsDay terms history → open_count (awards_of history) < 2 ^ 34
few_open terms history day = omega (arith, count_by-le-length may_end (awards_of history), day_awards terms history day)

held_none : (grouped : Bool) → cond grouped EXPIRY_IN_GROUPS EXPIRY_RECORD * 0 + cond grouped NOTICE_IN_GROUPS NOTICE_RECORD * 0 ≡ 0
held_none true = refl
held_none false = refl

-- without entries nothing is held
pub none_held : (format : ℕ) → held format [] ≡ 0
unfolding awards_of
none_held format = held_none (eqb format 2)

-- so few bytes for each of so many
pub few_times : (k n : ℕ) → k ≤ EXPIRY_IN_GROUPS → n < 2 ^ 34 → k * n < 2 ^ 38
few_times k n few small = let most = mul-le-mul_right n few in omega (arith, most, small)
