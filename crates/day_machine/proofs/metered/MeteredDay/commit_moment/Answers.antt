-- A moment and its step.
use Rattle.std.proofs.Common.{◌≡◌, ◌∙◌, ◌-◌, sym, ap, subst, arith}
use Rattle.std.proofs.Common.{vec_capacity, vec_len}
use Rattle.notice_book.specs.AwardList.{due_count}
use Rattle.day_rules.specs.declared.entry.Entry.{Entry}
use Rattle.day_rules.specs.Books.{accounts_in, awards_of}
use Rattle.day_rules.specs.DayState.{DayState}
use Rattle.day_rules.specs.Legal.{MayFollow}
use Rattle.day_rules.specs.Terms.{Terms, budgets_after}
use Rattle.day_rules.specs.declared.meters.Meters.{Meters}
use Rattle.day_machine.proofs.MetersKept.{metered_push, moment_less, moment_step, next_in_range, reserved_behind, reserved_small, room_of_steps, some_needed}
use Rattle.day_machine.proofs.metered.MeteredDay.commit_moment.Goals as goal

pub reserved_of-requires : goal.reserved_of-requires
reserved_of-requires c =
    let day : DayState = c.self.inside.day in
    let e : Entry = Entry.Expire c.args.now in
    let follows = subst (λ (s : DayState). MayFollow s.terms s.history e) (sym c.self.view_is) c.requires in
    let book = c.book.ensures ∙ ap (λ (t : Terms). accounts_in (budgets_after t c.commit.new.self.history) (awards_of c.commit.new.self.history)) c.commit.ensures.terms in
    omega (
      arith,
      reserved_small day.terms day.history c.args.now c.self.invariant.is_day follows,
      reserved_behind day.terms day.history c.commit.new.self.history c.args.now c.book.result.now c.self.invariant.is_day follows c.commit.ensures.history book,
    )

pub overflow_sub-money : goal.overflow_sub-money
overflow_sub-money c =
    let day : DayState = c.self.inside.day in
    let e : Entry = Entry.Expire c.args.now in
    let follows = subst (λ (s : DayState). MayFollow s.terms s.history e) (sym c.self.view_is) c.requires in
    let book = c.book.ensures ∙ ap (λ (t : Terms). accounts_in (budgets_after t c.commit.new.self.history) (awards_of c.commit.new.self.history)) c.commit.ensures.terms in
    let left = c.reserved_of.ensures ∙ reserved_behind day.terms day.history c.commit.new.self.history c.args.now c.book.result.now c.self.invariant.is_day follows c.commit.ensures.history book in
    moment_less day.history c.args.now c.self.inside.meters.reserved c.reserved_of.result (ap (λ (m : Meters). m.reserved) c.self.invariant.meters_are) left

pub add-requires-clause-room : goal.add-requires-clause-room
add-requires-clause-room c =
    let day : DayState = c.self.inside.day in
    let e : Entry = Entry.Expire c.args.now in
    let follows = subst (λ (s : DayState). MayFollow s.terms s.history e) (sym c.self.view_is) c.requires in
    omega (arith, some_needed day.history e, room_of_steps day (vec_capacity c.self.inside.steps - vec_len c.self.inside.steps) e follows c.self.invariant.to_come tt)

pub add-requires-clause-range : goal.add-requires-clause-range
add-requires-clause-range c =
    let day : DayState = c.self.inside.day in
    let e : Entry = Entry.Expire c.args.now in
    let follows = subst (λ (s : DayState). MayFollow s.terms s.history e) (sym c.self.view_is) c.requires in
    let book = c.book.ensures ∙ ap (λ (t : Terms). accounts_in (budgets_after t c.commit.new.self.history) (awards_of c.commit.new.self.history)) c.commit.ensures.terms in
    let left = c.reserved_of.ensures ∙ reserved_behind day.terms day.history c.commit.new.self.history c.args.now c.book.result.now c.self.invariant.is_day follows c.commit.ensures.history book in
    let count : c.from-count.result ≡ due_count c.args.now (awards_of day.history) = omega (arith, c.from-count.ensures, c.due.ensures, ap (due_count c.args.now) c.awards.ensures) in
    let step = moment_step day.history c.args.now c.from-count.result c.self.inside.meters.reserved c.reserved_of.result count (ap (λ (m : Meters). m.reserved) c.self.invariant.meters_are) left in
    next_in_range day.terms day.history e _ c.self.inside.meters c.self.invariant.is_day follows step c.self.invariant.meters_are

pub invariant_of-self : goal.invariant_of-self
invariant_of-self c =
    let day : DayState = c.self.inside.day in
    let e : Entry = Entry.Expire c.args.now in
    let follows = subst (λ (s : DayState). MayFollow s.terms s.history e) (sym c.self.view_is) c.requires in
    let book = c.book.ensures ∙ ap (λ (t : Terms). accounts_in (budgets_after t c.commit.new.self.history) (awards_of c.commit.new.self.history)) c.commit.ensures.terms in
    let left = c.reserved_of.ensures ∙ reserved_behind day.terms day.history c.commit.new.self.history c.args.now c.book.result.now c.self.invariant.is_day follows c.commit.ensures.history book in
    let count : c.from-count.result ≡ due_count c.args.now (awards_of day.history) = omega (arith, c.from-count.ensures, c.due.ensures, ap (due_count c.args.now) c.awards.ensures) in
    let step = moment_step day.history c.args.now c.from-count.result c.self.inside.meters.reserved c.reserved_of.result count (ap (λ (m : Meters). m.reserved) c.self.invariant.meters_are) left in
    let spare = vec_capacity c.self.inside.steps - vec_len c.self.inside.steps in
    metered_push day c.commit.new.self e c.self.inside.meters c.add.new.meters c.self.inside.steps.items c.add.new.steps.items spare _ _
    c.self.invariant follows (room_of_steps day spare e follows c.self.invariant.to_come tt) c.commit.ensures.terms c.commit.ensures.history
    step c.add.ensures.meters c.add.ensures.steps c.add.ensures.left
