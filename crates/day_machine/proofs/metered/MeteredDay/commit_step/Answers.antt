-- An entry and its step.
use Rattle.std.proofs.Common.{◌∙◌, ◌-◌, sym, ap, subst, arith}
use Rattle.std.proofs.Common.{vec_capacity, vec_len}
use Rattle.day_rules.specs.DayState.{DayState, HasRoomFor}
use Rattle.day_rules.specs.Legal.{MayFollow}
use Rattle.day_rules.specs.DayMeters.{step_of}
use Rattle.day_machine.proofs.MetersKept.{metered_push, next_in_range, room_of_steps, some_needed}
use Rattle.day_machine.proofs.metered.MeteredDay.commit_step.Goals as goal

pub add-requires-clause-room : goal.add-requires-clause-room
add-requires-clause-room c =
    let day : DayState = c.self.inside.day in
    let follows = subst (λ (s : DayState). MayFollow s.terms s.history c.args.entry) (sym c.self.view_is) c.requires.legal in
    let room = subst (λ (s : DayState). HasRoomFor s c.args.entry) (sym c.self.view_is) c.requires.room in
    omega (arith, some_needed day.history c.args.entry, room_of_steps day (vec_capacity c.self.inside.steps - vec_len c.self.inside.steps) c.args.entry follows c.self.invariant.to_come room)

pub add-requires-clause-range : goal.add-requires-clause-range
add-requires-clause-range c =
    let day : DayState = c.self.inside.day in
    let follows = subst (λ (s : DayState). MayFollow s.terms s.history c.args.entry) (sym c.self.view_is) c.requires.legal in
    next_in_range day.terms day.history c.args.entry c.args.step c.self.inside.meters c.self.invariant.is_day follows
    (c.requires.step ∙ ap (λ (s : DayState). step_of s.history c.args.entry) (sym c.self.view_is)) c.self.invariant.meters_are

pub invariant_of-self : goal.invariant_of-self
invariant_of-self c =
    let day : DayState = c.self.inside.day in
    let follows = subst (λ (s : DayState). MayFollow s.terms s.history c.args.entry) (sym c.self.view_is) c.requires.legal in
    let room = subst (λ (s : DayState). HasRoomFor s c.args.entry) (sym c.self.view_is) c.requires.room in
    let spare = vec_capacity c.self.inside.steps - vec_len c.self.inside.steps in
    metered_push day c.commit.new.self c.args.entry c.self.inside.meters c.add.new.meters c.self.inside.steps.items c.add.new.steps.items spare _ c.args.step
    c.self.invariant follows (room_of_steps day spare c.args.entry follows c.self.invariant.to_come room) c.commit.ensures.terms c.commit.ensures.history
    (c.requires.step ∙ ap (λ (s : DayState). step_of s.history c.args.entry) (sym c.self.view_is)) c.add.ensures.meters c.add.ensures.steps c.add.ensures.left
