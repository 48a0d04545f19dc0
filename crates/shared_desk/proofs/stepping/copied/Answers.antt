-- By the desk's steps.
use Rattle.std.proofs.Common.{List, ◌∙◌, subst, sym, take}
use Rattle.day_rules.specs.declared.step.MeterStep.{MeterStep}
use Rattle.day_rules.specs.Steps.{StayInRange, meters_of}
use Rattle.day_rules.specs.DayMeters.{steps_of}
use Rattle.shared_desk.proofs.Steps.{steps_stay}
use Rattle.shared_desk.proofs.stepping.copied.Goals as goal

pub returns-clause-range : goal.returns-clause-range
returns-clause-range g c =
    let history = c.args.desk.now.desk.history in
    let stay = steps_stay c.args.desk.now.desk.terms.day history c.entries.ensures.legal c.args.n c.requires.within in
    subst (λ (l : List MeterStep). StayInRange (meters_of (take c.args.n (steps_of history))) l) (sym (c.in_ok-steps.ensures.items ∙ c.steps_since.ensures)) stay
