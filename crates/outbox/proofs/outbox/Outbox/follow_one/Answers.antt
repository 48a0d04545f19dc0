use Rattle.std.proofs.Common.{◌≡◌, ℕ, sym, ap, ◌∙◌, subst, Ok}
use Rattle.outbox.specs.Following.{OutboxState}
use Rattle.outbox.specs.Steps.{Continues}
use Rattle.outbox.proofs.Steps.{continues_err, continues_ok, counted_on}
use Rattle.outbox.proofs.outbox.Outbox.follow_one.Goals as goal

pub returns-in-Ok : goal.returns-in-Ok
returns-in-Ok c =
    let new : ℕ → OutboxState = λ k. record { followed = k; kept = c.self.inside.kept; pending = c.self.inside.pending.items; undeliverable = c.self.inside.undeliverable } in
    let same : counted_on c.take.new.self ≡ new c.saturating_add-self-inside.result = ap (λ (s : OutboxState). counted_on s) (sym c.self.view_is) ∙ ap new (sym c.saturating_add-self-inside.ensures) in
    λ terms history followed day.
    subst (λ (s : OutboxState). Continues history c.args.entry.now (Ok c.in-Ok.field-0) c.args.self.now s) same
    (continues_ok terms history c.args.entry.now c.in-Ok.field-0 c.args.self.now c.take.new.self followed day c.in-Ok.ensures)

pub returns-in-Err : goal.returns-in-Err
returns-in-Err c = λ terms history followed day. continues_err terms history c.args.entry.now c.in-Err.wanting c.args.self.now c.take.new.self followed day c.in-Err.ensures
