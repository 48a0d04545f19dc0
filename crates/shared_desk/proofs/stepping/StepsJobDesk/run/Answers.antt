-- By the desk's steps.
use Rattle.std.proofs.Common.{◌≡◌, ℕ, ◌∙◌, ap, drop, length, subst, take}
use Rattle.std.specs.Prelude.{IfOk, min}
use Rattle.day_rules.specs.Steps.{StayInRange, meters_of}
use Rattle.day_rules.specs.DayMeters.{steps_of}
use Rattle.shared_desk.proofs.Steps.{found_steps}
use Rattle.shared_desk.proofs.stepping.StepsJobDesk.run.Goals as goal

pub returns-clause-ran : goal.returns-clause-ran
returns-clause-ran g c =
    let history = c.args.desk.now.desk.history in
    let at : c.min-n.result ≡ min c.args.self.now.n (length history) = c.min-n.ensures ∙ ap (λ (k : ℕ). min c.args.self.now.n k) c.count.ensures in
    found_steps (λ v. v.items) history c.args.self.now.n c.copied.result
    (subst (λ (k : ℕ). IfOk c.copied.result (λ v. v.items ≡ drop k (steps_of history))) at c.copied.ensures.steps)
    (subst (λ (k : ℕ). IfOk c.copied.result (λ v. StayInRange (meters_of (take k (steps_of history))) v.items)) at c.copied.ensures.range)
