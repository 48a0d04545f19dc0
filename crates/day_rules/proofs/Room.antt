-- How many entries notices and moments may still add, after each kind of entry.
use Rattle.std.proofs.Common.{◌≡◌, ℕ, ◌+◌, ◌*◌, ◌≤◌, List, [], ◌∷◌, ◌++◌, map, length, Bool, true, false, cond, not, ◌&&◌, ◌||◌, ltb, refl, sym, arith, Option, Some, None}
use Rattle.std.specs.List.{sum_by}
use Rattle.std.proofs.lemmas.List.Sums.{sum_by-cons, sum_by-append, sum_by-le-sum_by}
use Rattle.notice_book.specs.declared.award.Award.{Award}
use Rattle.notice_book.specs.declared.award.End.{End}
use Rattle.notice_book.specs.declared.kind.NoticeKind.{NoticeKind}
use Rattle.notice_book.specs.declared.ruling.Ruling.{Ruling}
use Rattle.notice_book.specs.AwardList.{Counts, noticed, due_count, expired_by}
use Rattle.notice_book.specs.Rules.{is_open, is_billed, may_end, may_win, is_due, ruling, ruling_of, noticed_award, expired_award}
use Rattle.day_rules.specs.Books.{Sale, award_of, entries_to_come}
use Rattle.allocator_core.proofs.Lists.{sum_by-map}
use Rattle.day_rules.proofs.Lists.{sum_by-both}
use Rattle.day_rules.proofs.Money.{changed_sum}

-- how many entries an award may still bring, by its win and its end
abbrev to_come_of : Bool → Option End → ℕ
to_come_of won end = cond (is_open end) 1 0 + cond (not won && (is_open end || is_billed end)) 1 0

abbrev to_come_by : Award → ℕ
to_come_by w = cond (may_end w) 1 0 + cond (may_win w) 1 0

to_come_sum : (ws : List Award) → entries_to_come ws ≡ sum_by to_come_by ws
to_come_sum ws = sym (sum_by-both (λ (w : Award). cond (may_end w) 1 0) (λ (w : Award). cond (may_win w) 1 0) ws)

win_takes : (won : Bool) (end : Option End) → ruling NoticeKind.Win won end ≡ Ruling.Counted → to_come_of true end + 1 ≤ to_come_of won end
win_takes true end counted = cc
win_takes false None counted = omega arith
win_takes false (Some End.Billed) counted = omega arith
win_takes false (Some End.Lost) counted = cc
win_takes false (Some End.Expired) counted = cc

bill_takes : (won : Bool) (end : Option End) → ruling NoticeKind.Bill won end ≡ Ruling.Counted → to_come_of won (Some End.Billed) + 1 ≤ to_come_of won end
bill_takes true None counted = omega arith
bill_takes false None counted = omega arith
bill_takes won (Some End.Billed) counted = cc
bill_takes won (Some End.Lost) counted = cc
bill_takes won (Some End.Expired) counted = cc

loss_takes : (won : Bool) (end : Option End) → ruling NoticeKind.Loss won end ≡ Ruling.Counted → to_come_of won (Some End.Lost) + 1 ≤ to_come_of won end
loss_takes true None counted = omega arith
loss_takes false None counted = omega arith
loss_takes won (Some End.Billed) counted = cc
loss_takes won (Some End.Lost) counted = cc
loss_takes won (Some End.Expired) counted = cc

notice_takes : (kind : NoticeKind) (w : Award) → ruling_of kind w ≡ Ruling.Counted → to_come_by (noticed_award kind w) + 1 ≤ to_come_by w
notice_takes NoticeKind.Win w counted = win_takes w.won w.end counted
notice_takes NoticeKind.Bill w counted = bill_takes w.won w.end counted
notice_takes NoticeKind.Loss w counted = loss_takes w.won w.end counted

-- a notice that counts takes one of them
pub to_come_notice : (kind : NoticeKind) (n : ℕ) (ws : List Award) → Counts kind n ws → entries_to_come (noticed kind n ws) + 1 ≤ entries_to_come ws
to_come_notice kind n ws c =
    let less = notice_takes kind c.award c.counted in
    omega (arith, to_come_sum ws, to_come_sum (noticed kind n ws), changed_sum to_come_by (noticed_award kind) n ws c.award c.known)

moment_takes : (won due : Bool) (end : Option End) → cond (is_open end && due) (to_come_of won (Some End.Expired)) (to_come_of won end) + cond (is_open end && due) 1 0 ≤ to_come_of won end
moment_takes true true None = omega arith
moment_takes true false None = omega arith
moment_takes false true None = omega arith
moment_takes false false None = omega arith
moment_takes true due (Some End.Billed) = omega arith
moment_takes true due (Some End.Lost) = omega arith
moment_takes true due (Some End.Expired) = omega arith
moment_takes false due (Some End.Billed) = omega arith
moment_takes false due (Some End.Lost) = omega arith
moment_takes false due (Some End.Expired) = omega arith

-- the award after a moment
abbrev pub expired_one : ℕ → Award → Award
expired_one now w = cond (is_due now w) (expired_award w) w

expired_weight : (due : Bool) (w : Award) → to_come_by (cond due (expired_award w) w) ≡ cond due (to_come_of w.won (Some End.Expired)) (to_come_of w.won w.end)
expired_weight true w = refl
expired_weight false w = refl

moment_takes_one : (now : ℕ) (w : Award) → to_come_by (expired_one now w) + cond (is_due now w) 1 0 ≤ to_come_by w
moment_takes_one now w =
    omega (arith, moment_takes w.won (ltb w.deadline now) w.end, expired_weight (is_due now w) w)

-- a moment takes one for each award that it ends
pub to_come_moment : (now : ℕ) (ws : List Award) → entries_to_come (expired_by now ws) + due_count now ws ≤ entries_to_come ws
to_come_moment now ws =
    let f : Award → ℕ = λ w. to_come_by (expired_one now w) in
    let due : Award → ℕ = λ w. cond (is_due now w) 1 0 in
    let mapped : sum_by to_come_by (expired_by now ws) ≡ sum_by f ws = sum_by-map to_come_by (expired_one now) ws in
    let both : sum_by (λ w. f w + due w) ws ≡ sum_by f ws + sum_by due ws = sum_by-both f due ws in
    let less : sum_by (λ w. f w + due w) ws ≤ sum_by to_come_by ws = sum_by-le-sum_by (λ w. f w + due w) to_come_by ws (moment_takes_one now) in
    omega (arith, to_come_sum ws, to_come_sum (expired_by now ws))

two_each : (place : ℕ) (sales : List Sale) → sum_by to_come_by (map (award_of place) sales) ≡ 2 * length sales
two_each place [] = refl
two_each place (s ∷ ss) =
    omega (arith, sum_by-cons to_come_by (award_of place s) (map (award_of place) ss), two_each place ss)

-- each award of an ask may still be won and ended
pub to_come_ask : (place : ℕ) (ws : List Award) (sales : List Sale) → entries_to_come (ws ++ map (award_of place) sales) ≡ entries_to_come ws + 2 * length sales
to_come_ask place ws sales =
    omega (arith, to_come_sum ws, to_come_sum (ws ++ map (award_of place) sales), sum_by-append to_come_by ws (map (award_of place) sales), two_each place sales)

-- so where a notice counts, or a moment ends an award, there is one
pub notice_to_come : (kind : NoticeKind) (n : ℕ) (ws : List Award) → Counts kind n ws → 1 ≤ entries_to_come ws
notice_to_come kind n ws c = omega (arith, to_come_notice kind n ws c)

pub moment_to_come : (now : ℕ) (ws : List Award) → 1 ≤ due_count now ws → 1 ≤ entries_to_come ws
moment_to_come now ws some = omega (arith, to_come_moment now ws)
