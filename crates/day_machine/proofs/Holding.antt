-- What is held after each kind of entry, and how many awards have no end.
use Rattle.std.specs.List.{count_by}
use Rattle.adx_units.specs.declared.units.Units.{Units}
use Rattle.day_rules.specs.DayState.{IsDay}
use Rattle.day_rules.proofs.Counting.{day_awards}
use Rattle.day_machine.specs.declared.held.TheConstants.{EXPIRY_IN_GROUPS, EXPIRY_RECORD, NOTICE_IN_GROUPS, NOTICE_RECORD}
use Rattle.day_machine.proofs.Sizes.{bill_most, expiry_most, loss_most, win_most}
use Rattle.std.proofs.Common.{◌≡◌, ℕ, ◌+◌, ◌-◌, ◌*◌, ◌^◌, ◌<◌, ◌≤◌, List, [], ◌∷◌, ◌++◌, map, length, Bool, true, false, cond, not, ◌&&◌, ◌||◌, eqb, ltb, refl, ap, arith, Option, Some, None}
use Rattle.std.specs.List.{sum_by}
use Rattle.std.proofs.lemmas.List.Sums.{sum_by-cons, sum_by-append}
use Rattle.std.proofs.lemmas.Option.{slice_get_within}
use Rattle.notice_book.specs.declared.award.Award.{Award}
use Rattle.notice_book.specs.declared.award.End.{End}
use Rattle.notice_book.specs.declared.kind.NoticeKind.{NoticeKind}
use Rattle.notice_book.specs.declared.ruling.Ruling.{Ruling}
use Rattle.notice_book.specs.AwardList.{Counts, noticed, due_count, expired_by}
use Rattle.notice_book.specs.Rules.{is_open, is_billed, may_end, may_win, is_due, ruling, noticed_award, expired_award}
use Rattle.day_entries.specs.Entries.{IsNoticeOrMoment}
use Rattle.day_rules.specs.declared.ask.Ask.{Ask}
use Rattle.day_rules.specs.declared.entry.Entry.{Entry}
use Rattle.day_rules.specs.Books.{Sale, award_of, awards_of, entries_to_come, sales_of}
use Rattle.day_rules.specs.Legal.{IsLegal, MayFollow}
use Rattle.day_rules.specs.Terms.{Terms}
use Rattle.day_rules.proofs.Asking.{awards_ask, awards_budget}
use Rattle.day_rules.proofs.Money.{changed_sum}
use Rattle.day_rules.proofs.Pushing.{awards_moment, awards_notice, bill_of_open, loss_of_open}
use Rattle.day_machine.specs.Held.{expiry_record, held, held_for, notice_record, open_count, record_size}

-- what is held for one award, where so much is for its end and so much for a win or a bill
abbrev held_of : (expiry notice : ℕ) → Bool → Option End → ℕ
held_of expiry notice won end = cond (is_open end) expiry 0 + cond (not won && (is_open end || is_billed end)) notice 0

abbrev held_by : (expiry notice : ℕ) → Award → ℕ
held_by expiry notice w = held_of expiry notice w.won w.end

abbrev expiry_of : Bool → ℕ
expiry_of grouped = cond grouped EXPIRY_IN_GROUPS EXPIRY_RECORD

abbrev notice_of : Bool → ℕ
notice_of grouped = cond grouped NOTICE_IN_GROUPS NOTICE_RECORD

times : (k : ℕ) (b : Bool) → cond b k 0 ≡ cond b 1 0 * k
times k true = omega arith
times k false = omega arith

sum_in : (grouped : Bool) (ws : List Award) → expiry_of grouped * open_count ws + notice_of grouped * count_by may_win ws ≡ sum_by (held_by (expiry_of grouped) (notice_of grouped)) ws
sum_in true [] = omega arith
sum_in false [] = omega arith
sum_in true (w ∷ ws) =
    omega (
      arith,
      sum_in true ws,
      times EXPIRY_IN_GROUPS (may_end w),
      times NOTICE_IN_GROUPS (may_win w),
      sum_by-cons (held_by EXPIRY_IN_GROUPS NOTICE_IN_GROUPS) w ws,
      sum_by-cons (λ (v : Award). cond (may_end v) 1 0) w ws,
      sum_by-cons (λ (v : Award). cond (may_win v) 1 0) w ws,
    )
sum_in false (w ∷ ws) =
    omega (
      arith,
      sum_in false ws,
      times EXPIRY_RECORD (may_end w),
      times NOTICE_RECORD (may_win w),
      sum_by-cons (held_by EXPIRY_RECORD NOTICE_RECORD) w ws,
      sum_by-cons (λ (v : Award). cond (may_end v) 1 0) w ws,
      sum_by-cons (λ (v : Award). cond (may_win v) 1 0) w ws,
    )

held_sum : (format : ℕ) (ws : List Award) → held_for format ws ≡ sum_by (held_by (expiry_record format) (notice_record format)) ws
held_sum format ws = sum_in (eqb format 2) ws

less_in : (grouped : Bool) → notice_of grouped ≤ expiry_of grouped
less_in true = omega arith
less_in false = omega arith

abbrev expired_one : ℕ → Award → Award
expired_one now w = cond (is_due now w) (expired_award w) w

module _ (expiry notice : ℕ) (less : notice ≤ expiry) where
  abbrev held_one : Award → ℕ
  held_one = held_by expiry notice

  -- a notice that counts takes at least its record
  notice_takes : (kind : NoticeKind) (won : Bool) (end : Option End) (w : Award) → w.won ≡ won → w.end ≡ end → ruling kind won end ≡ Ruling.Counted → held_one (noticed_award kind w) + notice ≤ held_one w
  notice_takes NoticeKind.Win true end w is ends counted = cc
  notice_takes NoticeKind.Win false None w is ends counted = rw (is, ends) (omega (arith, less))
  notice_takes NoticeKind.Win false (Some End.Billed) w is ends counted = rw (is, ends) (omega (arith, less))
  notice_takes NoticeKind.Win false (Some End.Lost) w is ends counted = cc
  notice_takes NoticeKind.Win false (Some End.Expired) w is ends counted = cc
  notice_takes NoticeKind.Bill true None w is ends counted = rw (is, ends) (omega (arith, less))
  notice_takes NoticeKind.Bill false None w is ends counted = rw (is, ends) (omega (arith, less))
  notice_takes NoticeKind.Bill won (Some End.Billed) w is ends counted = cc
  notice_takes NoticeKind.Bill won (Some End.Lost) w is ends counted = cc
  notice_takes NoticeKind.Bill won (Some End.Expired) w is ends counted = cc
  notice_takes NoticeKind.Loss true None w is ends counted = rw (is, ends) (omega (arith, less))
  notice_takes NoticeKind.Loss false None w is ends counted = rw (is, ends) (omega (arith, less))
  notice_takes NoticeKind.Loss won (Some End.Billed) w is ends counted = cc
  notice_takes NoticeKind.Loss won (Some End.Lost) w is ends counted = cc
  notice_takes NoticeKind.Loss won (Some End.Expired) w is ends counted = cc

  sum_notice : (kind : NoticeKind) (n : ℕ) (ws : List Award) → Counts kind n ws → sum_by held_one (noticed kind n ws) + notice ≤ sum_by held_one ws
  sum_notice kind n ws c =
      let takes = notice_takes kind c.award.won c.award.end c.award refl refl c.counted in
      omega (arith, takes, changed_sum held_one (noticed_award kind) n ws c.award c.known)

  -- a moment takes at least the record of an expiry for each award that it ends
  moment_takes : (won due : Bool) (end : Option End) → cond (is_open end && due) (held_of expiry notice won (Some End.Expired)) (held_of expiry notice won end) + cond (is_open end && due) expiry 0 ≤ held_of expiry notice won end
  moment_takes true true None = omega arith
  moment_takes true false None = omega arith
  moment_takes false true None = omega arith
  moment_takes false false None = omega arith
  moment_takes true due (Some End.Billed) = omega arith
  moment_takes true due (Some End.Lost) = omega arith
  moment_takes true due (Some End.Expired) = omega arith
  moment_takes false due (Some End.Billed) = omega arith
  moment_takes false due (Some End.Lost) = omega arith
  moment_takes false due (Some End.Expired) = omega arith

  expired_held : (due : Bool) (w : Award) → held_one (cond due (expired_award w) w) ≡ cond due (held_of expiry notice w.won (Some End.Expired)) (held_of expiry notice w.won w.end)
  expired_held true w = refl
  expired_held false w = refl

  abbrev due_one : ℕ → Award → ℕ
  due_one now w = cond (is_due now w) expiry 0

  moments_take : (now : ℕ) (ws : List Award) → sum_by held_one (expired_by now ws) + sum_by (due_one now) ws ≤ sum_by held_one ws
  moments_take now [] = omega arith
  moments_take now (w ∷ ws) =
      omega (
        arith,
        moments_take now ws,
        moment_takes w.won (ltb w.deadline now) w.end,
        expired_held (is_due now w) w,
        sum_by-cons held_one (expired_one now w) (expired_by now ws),
        sum_by-cons held_one w ws,
        sum_by-cons (due_one now) w ws,
      )

  due_takes : (due : Bool) (count later : ℕ) → 1 ≤ cond due 1 0 + count → (1 ≤ count → expiry ≤ later) → expiry ≤ cond due expiry 0 + later
  due_takes true count later some rest = omega arith
  due_takes false count later some rest = let more = rest (omega (arith, some)) in omega (arith, more)

  -- and it ends one
  some_due : (now : ℕ) (ws : List Award) → 1 ≤ due_count now ws → expiry ≤ sum_by (due_one now) ws
  some_due now [] some = absurd (omega (arith, some))
  some_due now (w ∷ ws) some =
      let one = due_takes (is_due now w) (due_count now ws) (sum_by (due_one now) ws) (omega (arith, some, sum_by-cons (λ (v : Award). cond (is_due now v) 1 0) w ws)) (some_due now ws) in
      omega (arith, one, sum_by-cons (due_one now) w ws)

held_notice : (format : ℕ) (kind : NoticeKind) (n : ℕ) (ws : List Award) → Counts kind n ws → held_for format (noticed kind n ws) + notice_record format ≤ held_for format ws
held_notice format kind n ws c =
    omega (arith, sum_notice (expiry_record format) (notice_record format) (less_in (eqb format 2)) kind n ws c, held_sum format ws, held_sum format (noticed kind n ws))

held_moment : (format now : ℕ) (ws : List Award) → 1 ≤ due_count now ws → held_for format (expired_by now ws) + expiry_record format ≤ held_for format ws
held_moment format now ws some =
    let less = less_in (eqb format 2) in
    omega (
      arith,
      moments_take (expiry_record format) (notice_record format) less now ws,
      some_due (expiry_record format) (notice_record format) less now ws some,
      held_sum format ws,
      held_sum format (expired_by now ws),
    )

-- the number of an award that is there is small
few_award : (terms : Terms) (history : List Entry) (kind : NoticeKind) (n : ℕ) → IsDay terms history → Counts kind n (awards_of history) → n < 2 ^ 32
few_award terms history kind n day c = omega (arith, day_awards terms history day, slice_get_within (awards_of history) n c.award c.known)

-- an entry of a notice or a moment takes its record of what is held
pub held_falls : (format : ℕ) (terms : Terms) (history : List Entry) (e : Entry) → IsDay terms history → MayFollow terms history e → IsNoticeOrMoment e → record_size format e + held format (history ++ e ∷ []) ≤ held format history
held_falls format terms history (Entry.Ask a) day follows kind = absurd kind
held_falls format terms history (Entry.Win n) day follows kind =
    omega (arith, win_most format n (few_award terms history NoticeKind.Win n day follows), held_notice format NoticeKind.Win n (awards_of history) follows, ap (held_for format) (awards_notice history NoticeKind.Win n follows))
held_falls format terms history (Entry.Bill n) day follows kind =
    omega (arith, bill_most format n (few_award terms history NoticeKind.Bill n day follows), held_notice format NoticeKind.Bill n (awards_of history) follows, ap (held_for format) (awards_notice history NoticeKind.Bill n follows))
held_falls format terms history (Entry.Loss n) day follows kind =
    omega (arith, loss_most format n (few_award terms history NoticeKind.Loss n day follows), held_notice format NoticeKind.Loss n (awards_of history) follows, ap (held_for format) (awards_notice history NoticeKind.Loss n follows))
held_falls format terms history (Entry.Expire now) day follows kind =
    let some = follows.ends in
    omega (arith, expiry_most format now, held_moment format now (awards_of history) (omega (arith, some)), ap (held_for format) (awards_moment history now))
held_falls format terms history (Entry.Budget campaign number budget) day follows kind = absurd kind

-- a change of a budget leaves what is held
pub held_budget : (format : ℕ) (history : List Entry) (campaign number : ℕ) (budget : Units) → held format (history ++ Entry.Budget campaign number budget ∷ []) ≡ held format history
held_budget format history campaign number budget = ap (held_for format) (awards_budget history campaign number budget)

-- an ask holds for each award that it makes
new_in : (grouped : Bool) (place : ℕ) (sales : List Sale) → sum_by (held_by (expiry_of grouped) (notice_of grouped)) (map (award_of place) sales) ≡ (expiry_of grouped + notice_of grouped) * length sales
new_in true place [] = refl
new_in false place [] = refl
new_in true place (s ∷ ss) = omega (arith, sum_by-cons (held_by EXPIRY_IN_GROUPS NOTICE_IN_GROUPS) (award_of place s) (map (award_of place) ss), new_in true place ss)
new_in false place (s ∷ ss) = omega (arith, sum_by-cons (held_by EXPIRY_RECORD NOTICE_RECORD) (award_of place s) (map (award_of place) ss), new_in false place ss)

pub held_ask : (format : ℕ) (terms : Terms) (history : List Entry) (a : Ask) → IsLegal terms history → held format (history ++ Entry.Ask a ∷ []) ≡ held format history + (expiry_record format + notice_record format) * length (sales_of a)
held_ask format terms history a legal =
    let ws : List Award = awards_of history in
    let new : List Award = map (award_of (length history)) (sales_of a) in
    omega (
      arith,
      ap (held_for format) (awards_ask terms history a legal),
      held_sum format ws,
      held_sum format (ws ++ new),
      sum_by-append (held_by (expiry_record format) (notice_record format)) ws new,
      new_in (eqb format 2) (length history) (sales_of a),
    )

-- by the entries to come and the awards without an end
is_in : (grouped : Bool) (ends wins : ℕ) → notice_of grouped * (ends + wins) + (expiry_of grouped - notice_of grouped) * ends ≡ expiry_of grouped * ends + notice_of grouped * wins
is_in true ends wins = omega arith
is_in false ends wins = omega arith

pub held_is : (format : ℕ) (ws : List Award) → notice_record format * entries_to_come ws + (expiry_record format - notice_record format) * open_count ws ≡ held_for format ws
held_is format ws = is_in (eqb format 2) (open_count ws) (count_by may_win ws)

-- awards without an end
abbrev open_by : Award → ℕ
open_by w = cond (may_end w) 1 0

open_new : (place : ℕ) (sales : List Sale) → sum_by open_by (map (award_of place) sales) ≡ length sales
open_new place [] = refl
open_new place (s ∷ ss) =
    omega (arith, sum_by-cons open_by (award_of place s) (map (award_of place) ss), open_new place ss)

pub open_ask : (terms : Terms) (history : List Entry) (a : Ask) → IsLegal terms history → open_count (awards_of (history ++ Entry.Ask a ∷ [])) ≡ open_count (awards_of history) + length (sales_of a)
open_ask terms history a legal =
    let ws : List Award = awards_of history in
    let new : List Award = map (award_of (length history)) (sales_of a) in
    omega (arith, ap open_count (awards_ask terms history a legal), sum_by-append open_by ws new, open_new (length history) (sales_of a))

pub open_win : (history : List Entry) (n : ℕ) → Counts NoticeKind.Win n (awards_of history) → open_count (awards_of (history ++ Entry.Win n ∷ [])) ≡ open_count (awards_of history)
open_win history n c =
    let ws : List Award = awards_of history in
    omega (arith, ap open_count (awards_notice history NoticeKind.Win n c), changed_sum open_by (noticed_award NoticeKind.Win) n ws c.award c.known)

one_open : (w : Award) → w.end ≡ None → open_by w ≡ 1
one_open w none = ap (λ (o : Option End). cond {A = ℕ} (is_open o) 1 0) none

pub open_bill : (history : List Entry) (n : ℕ) → Counts NoticeKind.Bill n (awards_of history) → open_count (awards_of (history ++ Entry.Bill n ∷ [])) + 1 ≡ open_count (awards_of history)
open_bill history n c =
    let ws : List Award = awards_of history in
    omega (arith, ap open_count (awards_notice history NoticeKind.Bill n c), changed_sum open_by (noticed_award NoticeKind.Bill) n ws c.award c.known, one_open c.award (bill_of_open c.award.won c.award.end c.counted))

pub open_loss : (history : List Entry) (n : ℕ) → Counts NoticeKind.Loss n (awards_of history) → open_count (awards_of (history ++ Entry.Loss n ∷ [])) + 1 ≡ open_count (awards_of history)
open_loss history n c =
    let ws : List Award = awards_of history in
    omega (arith, ap open_count (awards_notice history NoticeKind.Loss n c), changed_sum open_by (noticed_award NoticeKind.Loss) n ws c.award c.known, one_open c.award (loss_of_open c.award.won c.award.end c.counted))

open_moment_one : (due : Bool) (end : Option End) → cond (is_open end && due) 0 (cond (is_open end) 1 0) + cond (is_open end && due) 1 0 ≡ cond (is_open end) 1 0 + 0
open_moment_one true None = refl
open_moment_one false None = refl
open_moment_one due (Some x) = refl

expired_open : (due : Bool) (w : Award) → open_by (cond due (expired_award w) w) ≡ cond due 0 (open_by w)
expired_open true w = refl
expired_open false w = refl

open_moments : (now : ℕ) (ws : List Award) → open_count (expired_by now ws) + due_count now ws ≡ open_count ws
open_moments now [] = refl
open_moments now (w ∷ ws) =
    omega (
      arith,
      open_moments now ws,
      sum_by-cons open_by (expired_one now w) (expired_by now ws),
      sum_by-cons open_by w ws,
      sum_by-cons (λ (v : Award). cond (is_due now v) 1 0) w ws,
      expired_open (is_due now w) w,
      open_moment_one (ltb w.deadline now) w.end,
    )

pub open_moment : (history : List Entry) (now : ℕ) → open_count (awards_of (history ++ Entry.Expire now ∷ [])) + due_count now (awards_of history) ≡ open_count (awards_of history)
open_moment history now = omega (arith, ap open_count (awards_moment history now), open_moments now (awards_of history))
