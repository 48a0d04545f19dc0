-- An ask and its step.
use Rattle.std.proofs.Common.{◌∙◌, ◌-◌, ◌<◌, drop, sym, ap, subst, arith}
use Rattle.std.proofs.Common.{vec_capacity, vec_len}
use Rattle.std.specs.List.{sum_by}
use Rattle.day_rules.specs.declared.entry.Entry.{Entry}
use Rattle.day_rules.specs.DayState.{DayState, HasRoomFor}
use Rattle.day_rules.specs.Legal.{MayFollow}
use Rattle.day_machine.proofs.MetersKept.{ask_more, ask_small, ask_step, metered_push, next_in_range, room_of_steps, some_needed}
use Rattle.day_machine.proofs.metered.MeteredDay.commit_ask.Goals as goal

pub overflow_sub-len : goal.overflow_sub-len
overflow_sub-len c =
    omega (
      arith,
      c.len-first.ensures,
      c.len.ensures,
      ask_more c.self.inside.day.history c.commit.new.self.history c.args.ask c.awards.result.now.awards c.awards-awards.result.now.awards c.commit.ensures.history c.awards.ensures c.awards-awards.ensures,
    )

pub charges_from-requires-clause-first : goal.charges_from-requires-clause-first
charges_from-requires-clause-first c =
    omega (
      arith,
      c.len-first.ensures,
      ask_more c.self.inside.day.history c.commit.new.self.history c.args.ask c.awards.result.now.awards c.awards-awards.result.now.awards c.commit.ensures.history c.awards.ensures c.awards-awards.ensures,
    )

pub charges_from-requires-clause-small : goal.charges_from-requires-clause-small
charges_from-requires-clause-small c =
    let day : DayState = c.self.inside.day in
    let e : Entry = Entry.Ask c.args.ask in
    let follows = subst (λ (s : DayState). MayFollow s.terms s.history e) (sym c.self.view_is) c.requires.legal in
    subst (λ n. sum_by (λ w. w.charge.0) (drop n c.awards-awards.result.now.awards) < 18446744073709551616) (sym c.len-first.ensures)
    (ask_small day.terms day.history c.commit.new.self.history c.args.ask c.awards.result.now.awards c.awards-awards.result.now.awards c.self.invariant.is_day follows c.commit.ensures.history c.awards.ensures c.awards-awards.ensures)

pub add-requires-clause-room : goal.add-requires-clause-room
add-requires-clause-room c =
    let day : DayState = c.self.inside.day in
    let e : Entry = Entry.Ask c.args.ask in
    let follows = subst (λ (s : DayState). MayFollow s.terms s.history e) (sym c.self.view_is) c.requires.legal in
    let room = subst (λ (s : DayState). HasRoomFor s e) (sym c.self.view_is) c.requires.room in
    omega (arith, some_needed day.history e, room_of_steps day (vec_capacity c.self.inside.steps - vec_len c.self.inside.steps) e follows c.self.invariant.to_come room)

pub add-requires-clause-range : goal.add-requires-clause-range
add-requires-clause-range c =
    let day : DayState = c.self.inside.day in
    let e : Entry = Entry.Ask c.args.ask in
    let follows = subst (λ (s : DayState). MayFollow s.terms s.history e) (sym c.self.view_is) c.requires.legal in
    let step = ask_step day.terms day.history c.commit.new.self.history c.args.ask c.awards.result.now.awards c.awards-awards.result.now.awards c.from.result c.charges_from.result c.self.invariant.is_day.legal
    c.commit.ensures.history c.awards.ensures c.awards-awards.ensures
    (omega (arith, c.from.ensures, c.len.ensures, c.len-first.ensures))
    (c.charges_from.ensures ∙ ap (λ n. sum_by (λ w. w.charge.0) (drop n c.awards-awards.result.now.awards)) c.len-first.ensures) in
    next_in_range day.terms day.history e _ c.self.inside.meters c.self.invariant.is_day follows step c.self.invariant.meters_are

pub invariant_of-self : goal.invariant_of-self
invariant_of-self c =
    let day : DayState = c.self.inside.day in
    let e : Entry = Entry.Ask c.args.ask in
    let follows = subst (λ (s : DayState). MayFollow s.terms s.history e) (sym c.self.view_is) c.requires.legal in
    let room = subst (λ (s : DayState). HasRoomFor s e) (sym c.self.view_is) c.requires.room in
    let spare = vec_capacity c.self.inside.steps - vec_len c.self.inside.steps in
    let step = ask_step day.terms day.history c.commit.new.self.history c.args.ask c.awards.result.now.awards c.awards-awards.result.now.awards c.from.result c.charges_from.result c.self.invariant.is_day.legal
    c.commit.ensures.history c.awards.ensures c.awards-awards.ensures
    (omega (arith, c.from.ensures, c.len.ensures, c.len-first.ensures))
    (c.charges_from.ensures ∙ ap (λ n. sum_by (λ w. w.charge.0) (drop n c.awards-awards.result.now.awards)) c.len-first.ensures) in
    metered_push day c.commit.new.self e c.self.inside.meters c.add.new.meters c.self.inside.steps.items c.add.new.steps.items spare _ _
    c.self.invariant follows (room_of_steps day spare e follows c.self.invariant.to_come room) c.commit.ensures.terms c.commit.ensures.history
    step c.add.ensures.meters c.add.ensures.steps c.add.ensures.left
