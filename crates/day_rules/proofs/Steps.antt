-- The fold of the steps of a legal history is its meters.
use Rattle.std.proofs.Common.{◌≡◌, ℕ, ◌+◌, List, [], ◌∷◌, ◌++◌, map, length, fold, Bool, true, false, cond, ltb, ◌&&◌, refl, sym, ap, ◌∙◌, arith, length-append, Option, Some, None}
use Rattle.std.specs.List.{sum_by, count_by}
use Rattle.std.specs.Option.{option_map_or}
use Rattle.std.proofs.lemmas.List.{length-map}
use Rattle.std.proofs.lemmas.List.Sums.{sum_by_push, sum_by-append}
use Rattle.allocator_core.proofs.Lists.{sum_by-map, sum_by-none}
use Rattle.adx_units.specs.declared.units.Units.{Units}
use Rattle.notice_book.specs.declared.award.Award.{Award}
use Rattle.notice_book.specs.declared.award.End.{End}
use Rattle.notice_book.specs.declared.kind.NoticeKind.{NoticeKind}
use Rattle.notice_book.specs.AwardList.{Counts}
use Rattle.notice_book.specs.Rules.{is_open, is_billed, is_due, expired_award, noticed_award}
use Rattle.day_rules.specs.declared.ask.Ask.{Ask}
use Rattle.day_rules.specs.declared.entry.Entry.{Entry}
use Rattle.day_rules.specs.Entries.{entry_of_notice}
use Rattle.day_rules.specs.Books.{Sale, award_of, awards_of, sales_of}
use Rattle.day_rules.specs.Terms.{Terms}
use Rattle.day_rules.specs.Legal.{MayFollow, IsLegal}
use Rattle.day_rules.proofs.Histories.{legal_induction}
use Rattle.day_rules.proofs.Lists.{sum_by-always, sum_by-both}
use Rattle.day_rules.proofs.Money.{changed_sum}
use Rattle.day_rules.proofs.Pushing.{awards_notice, awards_moment, bill_of_open, loss_of_open}
use Rattle.day_rules.proofs.Asking.{awards_ask, awards_budget}
use Rattle.day_rules.proofs.Counting.{count_push}
use Rattle.day_rules.proofs.Within.{asks_push}
use Rattle.day_rules.specs.declared.meters.Meters.{Meters}
use Rattle.day_rules.specs.declared.step.MeterStep.{MeterStep}
use Rattle.day_rules.specs.Steps.{after, no_meters, meters_of}
use Rattle.day_rules.specs.DayMeters.{is_expired, one_expired, charge_if, money_where, is_notice, meters_after, charge_of, charge_due, step_of, steps_of}
use Rattle.day_rules.proofs.StepLists.{steps_push}

same_meters : (m n : Meters) → m.entries ≡ n.entries → m.asks ≡ n.asks → m.awards ≡ n.awards → m.wins ≡ n.wins → m.bills ≡ n.bills
    → m.losses ≡ n.losses → m.expired ≡ n.expired → m.reserved ≡ n.reserved → m.billed ≡ n.billed → m ≡ n
same_meters m n a b c d e f g h k = λ i. record {
  entries = a i;
  asks = b i;
  awards = c i;
  wins = d i;
  bills = e i;
  losses = f i;
  expired = g i;
  reserved = h i;
  billed = k i;
}

notices_push : (kind : NoticeKind) (history : List Entry) (e : Entry) → count_by (is_notice kind) (history ++ e ∷ []) ≡ count_by (is_notice kind) history + cond (is_notice kind e) 1 0
notices_push kind history e = sum_by_push (λ x. cond (is_notice kind x) 1 0) history e

-- a sum over the awards after an ask
ask_sum : (f : Award → ℕ) (terms : Terms) (history : List Entry) (a : Ask) → IsLegal terms history
    → sum_by f (awards_of (history ++ Entry.Ask a ∷ [])) ≡ sum_by f (awards_of history) + sum_by (λ s. f (award_of (length history) s)) (sales_of a)
ask_sum f terms history a legal =
    let ws : List Award = awards_of history in
    let own : List Award = map (award_of (length history)) (sales_of a) in
    ap (sum_by f) (awards_ask terms history a legal) ∙ (sum_by-append f ws own ∙ ap (λ (n : ℕ). sum_by f ws + n) (sum_by-map f (award_of (length history)) (sales_of a)))

ask_after : (terms : Terms) (history : List Entry) (a : Ask) → IsLegal terms history → after (meters_after history) (step_of history (Entry.Ask a)) ≡ meters_after (history ++ Entry.Ask a ∷ [])
ask_after terms history a legal =
    let e : Entry = Entry.Ask a in
    let sales : List Sale = sales_of a in
    let long : length (awards_of (history ++ e ∷ [])) ≡ length (awards_of history) + length sales =
    ap (λ (l : List Award). length l) (awards_ask terms history a legal) ∙ (length-append (awards_of history) (map (award_of (length history)) sales) ∙ ap (λ (n : ℕ). length (awards_of history) + n) (length-map sales (award_of (length history)))) in
    same_meters _ _
    (sym (length-append history (e ∷ [])))
    (sym (asks_push history e))
    (sym long)
    (omega (arith, notices_push NoticeKind.Win history e))
    (omega (arith, notices_push NoticeKind.Bill history e))
    (omega (arith, notices_push NoticeKind.Loss history e))
    (omega (arith, ask_sum one_expired terms history a legal, sum_by-none (λ (s : Sale). one_expired (award_of (length history) s)) sales (λ _. refl)))
    (sym (ask_sum (charge_if is_open) terms history a legal))
    (omega (arith, ask_sum (charge_if is_billed) terms history a legal, sum_by-none (λ (s : Sale). charge_if is_billed (award_of (length history) s)) sales (λ _. refl)))

-- a sum over the awards after a notice that counts
notice_sum : (f : Award → ℕ) (history : List Entry) (kind : NoticeKind) (n : ℕ) (c : Counts kind n (awards_of history))
    → sum_by f (awards_of (history ++ entry_of_notice kind n ∷ [])) + f c.award ≡ sum_by f (awards_of history) + f (noticed_award kind c.award)
notice_sum f history kind n c =
    ap (λ (l : List Award). sum_by f l + f c.award) (awards_notice history kind n c) ∙ changed_sum f (noticed_award kind) n (awards_of history) c.award c.known

-- of an open award
open_one : (w : Award) → w.end ≡ None → (charge_if is_open w ≡ w.charge.0) × (charge_if is_billed w ≡ 0) × (one_expired w ≡ 0)
open_one w h = (
  ap (λ (o : Option End). cond (is_open o) w.charge.0 0) h,
  ap (λ (o : Option End). cond (is_billed o) w.charge.0 0) h,
  ap (λ (o : Option End). cond (is_expired o) 1 0) h,
)

charge_is : (n : ℕ) (kind : NoticeKind) (ws : List Award) (c : Counts kind n ws) → charge_of n ws ≡ c.award.charge.0
charge_is n kind ws c = ap (λ (o : Option Award). option_map_or (λ (w : Award). w.charge.0) o 0) c.known

win_after : (history : List Entry) (n : ℕ) → Counts NoticeKind.Win n (awards_of history) → after (meters_after history) (step_of history (Entry.Win n)) ≡ meters_after (history ++ Entry.Win n ∷ [])
win_after history n c =
    let e : Entry = Entry.Win n in
    same_meters _ _
    (sym (length-append history (e ∷ [])))
    (omega (arith, asks_push history e))
    (omega (arith, count_push history e))
    (sym (notices_push NoticeKind.Win history e))
    (omega (arith, notices_push NoticeKind.Bill history e))
    (omega (arith, notices_push NoticeKind.Loss history e))
    (omega (arith, notice_sum one_expired history NoticeKind.Win n c))
    (omega (arith, notice_sum (charge_if is_open) history NoticeKind.Win n c))
    (omega (arith, notice_sum (charge_if is_billed) history NoticeKind.Win n c))

bill_after : (history : List Entry) (n : ℕ) → Counts NoticeKind.Bill n (awards_of history) → after (meters_after history) (step_of history (Entry.Bill n)) ≡ meters_after (history ++ Entry.Bill n ∷ [])
bill_after history n c =
    let e : Entry = Entry.Bill n in
    let was = open_one c.award (bill_of_open c.award.won c.award.end c.counted) in
    let charge = charge_is n NoticeKind.Bill (awards_of history) c in
    same_meters _ _
    (sym (length-append history (e ∷ [])))
    (omega (arith, asks_push history e))
    (omega (arith, count_push history e))
    (omega (arith, notices_push NoticeKind.Win history e))
    (sym (notices_push NoticeKind.Bill history e))
    (omega (arith, notices_push NoticeKind.Loss history e))
    (omega (arith, was.2, notice_sum one_expired history NoticeKind.Bill n c))
    (omega (arith, was.0, charge, notice_sum (charge_if is_open) history NoticeKind.Bill n c))
    (omega (arith, was.1, charge, notice_sum (charge_if is_billed) history NoticeKind.Bill n c))

loss_after : (history : List Entry) (n : ℕ) → Counts NoticeKind.Loss n (awards_of history) → after (meters_after history) (step_of history (Entry.Loss n)) ≡ meters_after (history ++ Entry.Loss n ∷ [])
loss_after history n c =
    let e : Entry = Entry.Loss n in
    let was = open_one c.award (loss_of_open c.award.won c.award.end c.counted) in
    let charge = charge_is n NoticeKind.Loss (awards_of history) c in
    same_meters _ _
    (sym (length-append history (e ∷ [])))
    (omega (arith, asks_push history e))
    (omega (arith, count_push history e))
    (omega (arith, notices_push NoticeKind.Win history e))
    (omega (arith, notices_push NoticeKind.Bill history e))
    (sym (notices_push NoticeKind.Loss history e))
    (omega (arith, was.2, notice_sum one_expired history NoticeKind.Loss n c))
    (omega (arith, was.0, charge, notice_sum (charge_if is_open) history NoticeKind.Loss n c))
    (omega (arith, was.1, charge, notice_sum (charge_if is_billed) history NoticeKind.Loss n c))

-- one award at a moment, by its end and by whether the moment is late
abbrev with_end : Award → Option End → Award
with_end w o = record w { end = o }

abbrev at_moment : Award → Option End → Bool → Award
at_moment w o late = cond (is_open o && late) (expired_award (with_end w o)) (with_end w o)

due_open : (w : Award) (o : Option End) (late : Bool) → charge_if is_open (at_moment w o late) + cond (is_open o && late) w.charge.0 0 ≡ charge_if is_open (with_end w o)
due_open w None true = omega arith
due_open w None false = omega arith
due_open w (Some End.Billed) late = omega arith
due_open w (Some End.Lost) late = omega arith
due_open w (Some End.Expired) late = omega arith

due_billed : (w : Award) (o : Option End) (late : Bool) → charge_if is_billed (at_moment w o late) ≡ charge_if is_billed (with_end w o)
due_billed w None true = refl
due_billed w None false = refl
due_billed w (Some End.Billed) late = refl
due_billed w (Some End.Lost) late = refl
due_billed w (Some End.Expired) late = refl

due_expired : (w : Award) (o : Option End) (late : Bool) → one_expired (at_moment w o late) ≡ one_expired (with_end w o) + cond (is_open o && late) 1 0
due_expired w None true = omega arith
due_expired w None false = omega arith
due_expired w (Some End.Billed) late = omega arith
due_expired w (Some End.Lost) late = omega arith
due_expired w (Some End.Expired) late = omega arith

-- a sum over the awards after a moment
moment_sum : (f : Award → ℕ) (history : List Entry) (now : ℕ)
    → sum_by f (awards_of (history ++ Entry.Expire now ∷ [])) ≡ sum_by (λ w. f (cond (is_due now w) (expired_award w) w)) (awards_of history)
moment_sum f history now =
    ap (sum_by f) (awards_moment history now) ∙ sum_by-map f (λ (w : Award). cond (is_due now w) (expired_award w) w) (awards_of history)

expire_after : (history : List Entry) (now : ℕ) → after (meters_after history) (step_of history (Entry.Expire now)) ≡ meters_after (history ++ Entry.Expire now ∷ [])
expire_after history now =
    let e : Entry = Entry.Expire now in
    let ws : List Award = awards_of history in
    let next : (Award → ℕ) → Award → ℕ = λ f w. f (cond (is_due now w) (expired_award w) w) in
    let opens : sum_by (λ w. next (charge_if is_open) w + charge_due now w) ws ≡ sum_by (charge_if is_open) ws =
    sum_by-always (λ w. next (charge_if is_open) w + charge_due now w) (charge_if is_open) ws (λ w. due_open w w.end (ltb w.deadline now)) in
    let bills : sum_by (next (charge_if is_billed)) ws ≡ sum_by (charge_if is_billed) ws =
    sum_by-always (next (charge_if is_billed)) (charge_if is_billed) ws (λ w. due_billed w w.end (ltb w.deadline now)) in
    let ends : sum_by (next one_expired) ws ≡ sum_by (λ w. one_expired w + cond (is_due now w) 1 0) ws =
    sum_by-always (next one_expired) (λ w. one_expired w + cond (is_due now w) 1 0) ws (λ w. due_expired w w.end (ltb w.deadline now)) in
    same_meters _ _
    (sym (length-append history (e ∷ [])))
    (omega (arith, asks_push history e))
    (omega (arith, count_push history e))
    (omega (arith, notices_push NoticeKind.Win history e))
    (omega (arith, notices_push NoticeKind.Bill history e))
    (omega (arith, notices_push NoticeKind.Loss history e))
    (sym (moment_sum one_expired history now ∙ (ends ∙ sum_by-both one_expired (λ w. cond (is_due now w) 1 0) ws)))
    (omega (arith, moment_sum (charge_if is_open) history now, opens, sum_by-both (next (charge_if is_open)) (charge_due now) ws))
    (sym (moment_sum (charge_if is_billed) history now ∙ bills))

-- a moment ends what is no longer reserved
pub moment_money : (history : List Entry) (now : ℕ)
    → money_where is_open (awards_of (history ++ Entry.Expire now ∷ [])) + sum_by (charge_due now) (awards_of history) ≡ money_where is_open (awards_of history)
moment_money history now =
    let ws : List Award = awards_of history in
    let next : Award → ℕ = λ w. charge_if is_open (cond (is_due now w) (expired_award w) w) in
    let opens : sum_by (λ w. next w + charge_due now w) ws ≡ sum_by (charge_if is_open) ws =
    sum_by-always (λ w. next w + charge_due now w) (charge_if is_open) ws (λ w. due_open w w.end (ltb w.deadline now)) in
    omega (arith, moment_sum (charge_if is_open) history now, opens, sum_by-both next (charge_due now) ws)

budget_after : (history : List Entry) (campaign change : ℕ) (budget : Units) → after (meters_after history) (step_of history (Entry.Budget campaign change budget)) ≡ meters_after (history ++ Entry.Budget campaign change budget ∷ [])
budget_after history campaign change budget =
    let e : Entry = Entry.Budget campaign change budget in
    let same = awards_budget history campaign change budget in
    same_meters _ _
    (sym (length-append history (e ∷ [])))
    (omega (arith, asks_push history e))
    (sym (ap (λ (l : List Award). length l) same))
    (omega (arith, notices_push NoticeKind.Win history e))
    (omega (arith, notices_push NoticeKind.Bill history e))
    (omega (arith, notices_push NoticeKind.Loss history e))
    (sym (ap (λ (l : List Award). count_by (λ w. is_expired w.end) l) same))
    (sym (ap (money_where is_open) same))
    (sym (ap (money_where is_billed) same))

pub entry_after : (terms : Terms) (history : List Entry) (e : Entry) → IsLegal terms history → MayFollow terms history e → after (meters_after history) (step_of history e) ≡ meters_after (history ++ e ∷ [])
entry_after terms history (Entry.Ask a) legal follows = ask_after terms history a legal
entry_after terms history (Entry.Win n) legal follows = win_after history n follows
entry_after terms history (Entry.Bill n) legal follows = bill_after history n follows
entry_after terms history (Entry.Loss n) legal follows = loss_after history n follows
entry_after terms history (Entry.Expire now) legal follows = expire_after history now
entry_after terms history (Entry.Budget campaign change budget) legal follows = budget_after history campaign change budget

fold_both : (m : Meters) (front more : List MeterStep) → fold after m (front ++ more) ≡ fold after (fold after m front) more
fold_both m [] more = refl
fold_both m (s ∷ front) more = fold_both (after m s) front more

-- the fold of a legal history's steps is its meters
pub meters_are : (terms : Terms) (history : List Entry) → IsLegal terms history → meters_of (steps_of history) ≡ meters_after history
unfolding awards_of
meters_are terms history legal =
    legal_induction terms (λ h. meters_of (steps_of h) ≡ meters_after h) refl
    (λ h e lawful follows here.
    ap meters_of (steps_push h e)
    ∙ (fold_both no_meters (steps_of h) (step_of h e ∷ [])
    ∙ (ap (λ (m : Meters). after m (step_of h e)) here ∙ entry_after terms h e lawful follows)))
    history legal
