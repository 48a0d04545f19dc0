use Rattle.std.proofs.Common.{ℕ, List, length, Ok, Err, ap, ◌∙◌, refl, subst, take, drop, ◌++◌}
use Rattle.outbox.specs.Following.{OutboxState}
use Rattle.outbox.specs.Pumping.{AreTried, PumpsPart, given_up_with, left_of, part_of, report_of}
use Rattle.outbox.specs.declared.outbox.TheConstants.{ANSWER_LIMIT}
use Rattle.outbox.specs.declared.post.Post.{Post}
use Rattle.outbox.specs.declared.report.Outcome.{Outcome}
use Rattle.outbox.proofs.Parts.{pumped_part}
use Rattle.outbox.proofs.outbox.Outbox.pump_part.Goals as goal

pub returns-in-Ok : goal.returns-in-Ok
returns-in-Ok g c =
    let old : OutboxState = record { followed = c.self.inside.followed; kept = c.self.inside.kept; pending = c.self.inside.pending.items; undeliverable = c.self.inside.undeliverable } in
    let new : OutboxState = record { followed = c.self.inside.followed; kept = c.self.inside.kept; pending = c.keep_left.new.posts.items; undeliverable = c.given_up_with-self-inside.result } in
    subst (λ (s : OutboxState). PumpsPart {L = g.row.L.Denot} g.L.Link.exchanges g.L.Link.course g.L.Link.faults g.L.Link.place ANSWER_LIMIT
    c.args.first c.args.most c.args.link.now c.try_all-tried.new.link (Ok c.report_of.result) s new) c.self.view_is
    (pumped_part {L = g.row.L.Denot} g.L.Link.exchanges g.L.Link.course g.L.Link.faults g.L.Link.place ANSWER_LIMIT c.args.first c.args.most
    c.part_of.result.now c.try_all-tried.new.outcomes.items c.args.link.now c.try_all-tried.new.link (Ok c.report_of.result) old new
    (c.part_of.ensures ∙ ap (λ (ps : List Post). part_of c.args.first c.args.most ps) c.as_slice.ensures.value)
    c.try_all-tried.ensures.few c.in-Ok.ensures.all (subst (λ (limit : ℕ). AreTried g.L.Link.exchanges g.L.Link.course g.L.Link.faults g.L.Link.place limit
    (take (length c.try_all-tried.new.outcomes.items) c.part_of.result.now) c.try_all-tried.new.outcomes.items c.args.link.now c.try_all-tried.new.link)
    c.self.invariant c.try_all-tried.ensures.tried)
    (c.keep_left.ensures ∙ ap (λ (os : List Outcome). take c.args.first old.pending ++ left_of (drop c.args.first old.pending) os) c.deref.ensures.value)
    refl refl
    (c.given_up_with-self-inside.ensures ∙ ap (λ (os : List Outcome). given_up_with old.undeliverable os) c.deref-2.ensures.value)
    (c.report_of.ensures ∙ ap (λ (os : List Outcome). report_of os) c.deref-in-Ok.ensures.value))

pub returns : goal.returns
returns g c =
    let old : OutboxState = record { followed = c.self.inside.followed; kept = c.self.inside.kept; pending = c.self.inside.pending.items; undeliverable = c.self.inside.undeliverable } in
    let new : OutboxState = record { followed = c.self.inside.followed; kept = c.self.inside.kept; pending = c.keep_left.new.posts.items; undeliverable = c.given_up_with-self-inside.result } in
    subst (λ (s : OutboxState). PumpsPart {L = g.row.L.Denot} g.L.Link.exchanges g.L.Link.course g.L.Link.faults g.L.Link.place ANSWER_LIMIT
    c.args.first c.args.most c.args.link.now c.try_all-tried.new.link (Err c.in-Err.wanting) s new) c.self.view_is
    (pumped_part {L = g.row.L.Denot} g.L.Link.exchanges g.L.Link.course g.L.Link.faults g.L.Link.place ANSWER_LIMIT c.args.first c.args.most
    c.part_of.result.now c.try_all-tried.new.outcomes.items c.args.link.now c.try_all-tried.new.link (Err c.in-Err.wanting) old new
    (c.part_of.ensures ∙ ap (λ (ps : List Post). part_of c.args.first c.args.most ps) c.as_slice.ensures.value)
    c.try_all-tried.ensures.few tt (subst (λ (limit : ℕ). AreTried g.L.Link.exchanges g.L.Link.course g.L.Link.faults g.L.Link.place limit
    (take (length c.try_all-tried.new.outcomes.items) c.part_of.result.now) c.try_all-tried.new.outcomes.items c.args.link.now c.try_all-tried.new.link)
    c.self.invariant c.try_all-tried.ensures.tried)
    (c.keep_left.ensures ∙ ap (λ (os : List Outcome). take c.args.first old.pending ++ left_of (drop c.args.first old.pending) os) c.deref.ensures.value)
    refl refl
    (c.given_up_with-self-inside.ensures ∙ ap (λ (os : List Outcome). given_up_with old.undeliverable os) c.deref-2.ensures.value)
    tt)
