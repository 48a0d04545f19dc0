-- What one more entry makes of a metered day, and the room that there is for entries and for steps.
use Rattle.std.proofs.Common.{◌≡◌, ◌∙◌, ℕ, ◌+◌, ◌-◌, ◌^◌, ◌<◌, ◌≤◌, List, [], ◌∷◌, ◌++◌, drop, length, refl, sym, ap, subst, arith, IfSome}
use Rattle.std.specs.List.{sum_by}
use Rattle.std.proofs.Math.Nat.{min-le_left, min-le_right}
use Rattle.campaign_book.specs.Accounts.{Account}
use Rattle.notice_book.specs.AwardList.{due_count}
use Rattle.notice_book.specs.declared.award.Award.{Award}
use Rattle.notice_book.specs.declared.kind.NoticeKind.{NoticeKind}
use Rattle.day_rules.specs.declared.ask.Ask.{Ask}
use Rattle.day_rules.specs.declared.entry.Entry.{Entry}
use Rattle.day_rules.specs.Books.{accounts_in, awards_of, entries_to_come, sales_of}
use Rattle.day_rules.specs.DayState.{DayState, HasRoomFor, IsDay}
use Rattle.day_rules.specs.Entries.{entry_of_notice}
use Rattle.day_rules.specs.Legal.{IsLegal, MayFollow}
use Rattle.day_rules.specs.Replies.{notice_reply}
use Rattle.day_rules.specs.Terms.{Terms, budgets_after}
use Rattle.day_rules.proofs.Counting.{day_push, entries_needed, to_come_push}
use Rattle.day_rules.proofs.Following.{notice_entry}
use Rattle.day_rules.proofs.Room.{moment_to_come, notice_to_come}
use Rattle.day_rules.specs.DayMeters.{charge_due, meters_after, step_of, steps_of}
use Rattle.day_rules.proofs.Campaigns.{day_meters}
use Rattle.day_rules.proofs.StepLists.{steps_push}
use Rattle.day_rules.proofs.Steps.{entry_after, moment_money}
use Rattle.day_rules.specs.declared.meters.Meters.{Meters}
use Rattle.day_rules.specs.declared.step.MeterStep.{MeterStep}
use Rattle.day_rules.specs.declared.step.StepKind.{StepKind}
use Rattle.day_rules.specs.Steps.{after, InRange, no_meters}
use Rattle.day_machine.specs.MeteredFields.{AreMetered}
use Rattle.day_machine.specs.Metered.{metered, reserved_in_all}
use Rattle.day_machine.proofs.Money.{ask_count, ask_money, reserved_all}

-- the meters after the step of an entry are those of the history with it
pub meters_next : (terms : Terms) (history : List Entry) (e : Entry) (step : MeterStep) (meters : Meters) → IsDay terms history → MayFollow terms history e
    → step ≡ step_of history e → meters ≡ meters_after history → after meters step ≡ meters_after (history ++ e ∷ [])
meters_next terms history e step meters is follows step_is meters_are =
    ap (λ (m : Meters). after m step) meters_are ∙ (ap (after (meters_after history)) step_is ∙ entry_after terms history e is.legal follows)

-- and in their range
pub next_in_range : (terms : Terms) (history : List Entry) (e : Entry) (step : MeterStep) (meters : Meters) → IsDay terms history → MayFollow terms history e
    → step ≡ step_of history e → meters ≡ meters_after history → InRange (after meters step)
next_in_range terms history e step meters is follows step_is meters_are =
    subst InRange (sym (meters_next terms history e step meters is follows step_is meters_are))
    (day_meters terms (history ++ e ∷ []) (day_push terms history e is follows)).in_range

-- the fields after an entry and its step
pub metered_push : (day new : DayState) (e : Entry) (meters next : Meters) (steps more : List MeterStep) (spare left : ℕ) (step : MeterStep)
    → AreMetered day meters steps spare → MayFollow day.terms day.history e → entries_needed day.history e ≤ spare
    → new.terms ≡ day.terms → new.history ≡ day.history ++ e ∷ [] → step ≡ step_of day.history e → next ≡ after meters step → more ≡ steps ++ step ∷ []
    → spare ≤ left + 1 → AreMetered new next more left
metered_push day new e meters next steps more spare left step are follows needed terms history step_is next_is more_is one =
    let is : IsDay day.terms (day.history ++ e ∷ []) = day_push day.terms day.history e are.is_day follows in
    record {
      is_day = subst (λ (t : Terms). IsDay t new.history) (sym terms) (subst (IsDay day.terms) (sym history) is);
      meters_are = next_is ∙ (meters_next day.terms day.history e step meters are.is_day follows step_is are.meters_are ∙ ap meters_after (sym history));
      steps_are =
          more_is
          ∙ (ap (λ (xs : List MeterStep). xs ++ step ∷ []) are.steps_are
          ∙ (ap (λ (s : MeterStep). steps_of day.history ++ s ∷ []) step_is ∙ (sym (steps_push day.history e) ∙ ap steps_of (sym history))));
      to_come = subst (λ (h : List Entry). entries_to_come (awards_of h) ≤ left) (sym history)
          (to_come_push day.terms day.history e spare left are.is_day.legal follows are.to_come needed one);
    }

-- where there is room for an entry, its day has it
pub room_of_day : (day : DayState) (steps : ℕ) (e : Entry) → HasRoomFor (metered day steps) e → HasRoomFor day e
room_of_day day steps (Entry.Ask a) room = record {
  entries = omega (arith, room.entries, min-le_left day.room.entries steps);
  awards = room.awards;
  prepared = room.prepared;
}
room_of_day day steps (Entry.Win n) room = tt
room_of_day day steps (Entry.Bill n) room = tt
room_of_day day steps (Entry.Loss n) room = tt
room_of_day day steps (Entry.Expire now) room = tt
room_of_day day steps (Entry.Budget campaign change budget) room = record {
  entries = omega (arith, room.entries, min-le_left day.room.entries steps);
  changes = room.changes;
}

-- and there is memory for its step: that of a notice or a moment is kept
pub room_of_steps : (day : DayState) (steps : ℕ) (e : Entry) → MayFollow day.terms day.history e → entries_to_come (awards_of day.history) ≤ steps
    → HasRoomFor (metered day steps) e → entries_needed day.history e ≤ steps
room_of_steps day steps (Entry.Ask a) follows to_come room = omega (arith, room.entries, min-le_right day.room.entries steps)
room_of_steps day steps (Entry.Win n) follows to_come room = omega (arith, to_come, notice_to_come NoticeKind.Win n (awards_of day.history) follows)
room_of_steps day steps (Entry.Bill n) follows to_come room = omega (arith, to_come, notice_to_come NoticeKind.Bill n (awards_of day.history) follows)
room_of_steps day steps (Entry.Loss n) follows to_come room = omega (arith, to_come, notice_to_come NoticeKind.Loss n (awards_of day.history) follows)
room_of_steps day steps (Entry.Expire now) follows to_come room = omega (arith, to_come, moment_to_come now (awards_of day.history) follows.ends)
room_of_steps day steps (Entry.Budget campaign change budget) follows to_come room = omega (arith, room.entries, min-le_right day.room.entries steps)

-- one step is always needed
pub some_needed : (history : List Entry) (e : Entry) → 1 ≤ entries_needed history e
some_needed history (Entry.Ask a) = omega arith
some_needed history (Entry.Win n) = omega arith
some_needed history (Entry.Bill n) = omega arith
some_needed history (Entry.Loss n) = omega arith
some_needed history (Entry.Expire now) = omega arith
some_needed history (Entry.Budget campaign change budget) = omega arith

-- the entry of a notice is one of those for which there is always room
kind_room : (s : DayState) (kind : NoticeKind) (n : ℕ) → HasRoomFor s (entry_of_notice kind n)
kind_room s NoticeKind.Win n = tt
kind_room s NoticeKind.Bill n = tt
kind_room s NoticeKind.Loss n = tt

pub notice_room : (s : DayState) (history : List Entry) (kind : NoticeKind) (auction : List ℕ) (n : ℕ) → IfSome (notice_reply history kind auction n).entry (HasRoomFor s)
notice_room s history kind auction n = notice_entry history kind auction n (HasRoomFor s) (λ c. kind_room s kind n)

none_to_come : (spare : ℕ) → entries_to_come (awards_of []) ≤ spare
unfolding awards_of
none_to_come spare = omega arith

-- the fields of a day without entries
pub metered_none : (day : DayState) (meters : Meters) (steps : List MeterStep) (spare : ℕ) → IsDay day.terms day.history → day.history ≡ [] → meters ≡ no_meters → steps ≡ []
    → AreMetered day meters steps spare
unfolding awards_of
metered_none day meters steps spare is none meters_are steps_are = record {
  is_day = is;
  meters_are = meters_are ∙ sym (ap meters_after none);
  steps_are = steps_are ∙ sym (ap steps_of none);
  to_come = subst (λ (h : List Entry). entries_to_come (awards_of h) ≤ spare) (sym none) (none_to_come spare);
}

-- the step of an ask, by the awards after it
pub ask_step : (terms : Terms) (history after_it : List Entry) (a : Ask) (was now : List Award) (count money : ℕ) → IsLegal terms history → after_it ≡ history ++ Entry.Ask a ∷ []
    → was ≡ awards_of history → now ≡ awards_of after_it → count ≡ length now - length was → money ≡ sum_by (λ w. w.charge.0) (drop (length was) now)
    → ◌≡◌ {A = MeterStep} (record { kind = StepKind.Ask; count = count; money = money }) (step_of history (Entry.Ask a))
ask_step terms history after_it a was now count money legal is was_is now_is count_is money_is =
    let later : now ≡ awards_of (history ++ Entry.Ask a ∷ []) = now_is ∙ ap awards_of is in
    let lens : count ≡ length (sales_of a) =
    omega (arith, count_is, ask_count history a, ap (λ (l : List Award). length l) was_is, ap (λ (l : List Award). length l) later) in
    let sums : money ≡ sum_by (λ s. s.charge) (sales_of a) =
    money_is
    ∙ (ap (λ (l : List Award). sum_by (λ w. w.charge.0) (drop (length l) now)) was_is
    ∙ (ap (λ (l : List Award). sum_by (λ w. w.charge.0) (drop (length (awards_of history)) l)) later ∙ ask_money terms history a legal)) in
    (λ i. record { kind = StepKind.Ask; count = lens i; money = sums i })

-- the charges of what an ask sold have a number
pub ask_small : (terms : Terms) (history after_it : List Entry) (a : Ask) (was now : List Award) → IsDay terms history → MayFollow terms history (Entry.Ask a) → after_it ≡ history ++ Entry.Ask a ∷ []
    → was ≡ awards_of history → now ≡ awards_of after_it → sum_by (λ w. w.charge.0) (drop (length was) now) < 2 ^ 64
ask_small terms history after_it a was now is follows after_is was_is now_is =
    let later : now ≡ awards_of (history ++ Entry.Ask a ∷ []) = now_is ∙ ap awards_of after_is in
    let money : sum_by (λ w. w.charge.0) (drop (length was) now) ≡ sum_by (λ s. s.charge) (sales_of a) =
    ap (λ (l : List Award). sum_by (λ w. w.charge.0) (drop (length l) now)) was_is
    ∙ (ap (λ (l : List Award). sum_by (λ w. w.charge.0) (drop (length (awards_of history)) l)) later ∙ ask_money terms history a is.legal) in
    let range = (next_in_range terms history (Entry.Ask a) (step_of history (Entry.Ask a)) (meters_after history) is follows refl refl).reserved in
    omega (arith, money, range)

-- there are no fewer awards after an ask
pub ask_more : (history after_it : List Entry) (a : Ask) (was now : List Award) → after_it ≡ history ++ Entry.Ask a ∷ [] → was ≡ awards_of history → now ≡ awards_of after_it → length was ≤ length now
ask_more history after_it a was now is was_is now_is =
    omega (arith, ask_count history a, ap (λ (l : List Award). length l) was_is, ap (λ (l : List Award). length l) (now_is ∙ ap awards_of is))

-- what is reserved after a moment
pub reserved_behind : (terms : Terms) (history after_it : List Entry) (now : ℕ) (accounts : List Account) → IsDay terms history → MayFollow terms history (Entry.Expire now) → after_it ≡ history ++ Entry.Expire now ∷ []
    → accounts ≡ accounts_in (budgets_after terms after_it) (awards_of after_it) → reserved_in_all accounts ≡ (meters_after (history ++ Entry.Expire now ∷ [])).reserved
reserved_behind terms history after_it now accounts is follows after_is accounts_are =
    let e : Entry = Entry.Expire now in
    ap reserved_in_all accounts_are
    ∙ (ap (λ (h : List Entry). reserved_in_all (accounts_in (budgets_after terms h) (awards_of h))) after_is
    ∙ reserved_all terms (history ++ e ∷ []) (day_push terms history e is follows))

pub reserved_small : (terms : Terms) (history : List Entry) (now : ℕ) → IsDay terms history → MayFollow terms history (Entry.Expire now) → (meters_after (history ++ Entry.Expire now ∷ [])).reserved < 2 ^ 64
reserved_small terms history now is follows =
    (day_meters terms (history ++ Entry.Expire now ∷ []) (day_push terms history (Entry.Expire now) is follows)).in_range.reserved

-- the step of a moment, by what is reserved before and after it
pub moment_step : (history : List Entry) (now count before left : ℕ) → count ≡ due_count now (awards_of history) → before ≡ (meters_after history).reserved
    → left ≡ (meters_after (history ++ Entry.Expire now ∷ [])).reserved
    → ◌≡◌ {A = MeterStep} (record { kind = StepKind.Expire; count = count; money = before - left }) (step_of history (Entry.Expire now))
moment_step history now count before left count_is before_is left_is =
    let money : before - left ≡ sum_by (charge_due now) (awards_of history) = omega (arith, moment_money history now, before_is, left_is) in
    (λ i. record { kind = StepKind.Expire; count = count_is i; money = money i })

pub moment_less : (history : List Entry) (now before left : ℕ) → before ≡ (meters_after history).reserved → left ≡ (meters_after (history ++ Entry.Expire now ∷ [])).reserved → left ≤ before
moment_less history now before left before_is left_is = omega (arith, moment_money history now, before_is, left_is)
