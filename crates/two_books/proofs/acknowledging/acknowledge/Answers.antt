-- A late reply that comes to the exchange.
use Rattle.std.proofs.Common.{List, [], ◌∷◌, ℕ, ◌<◌, ◌≤◌, length, ap, ◌∙◌, subst}
use Rattle.outbox.specs.declared.post.Post.{Post}
use Rattle.two_books.specs.declared.replay.Reply.{Reply}
use Rattle.two_books.proofs.Decided.{decides_none, decides_or_not, decides_to, found_by, pumps_by}
use Rattle.two_books.proofs.acknowledging.acknowledge.Goals as goal

pub returns-then-place-pending : goal.returns-then-place-pending
returns-then-place-pending c =
    decides_none c.args.late.now c.in-Ok.place (record {}) c.args.exchange.now
    (found_by c.args.late.now.request c.as_str.result.now c.args.exchange.now.outbox.pending c.pending.result.now c.in-Ok.place c.as_str.ensures.value c.pending.ensures c.in-Ok.ensures)
    (subst (λ (ps : List Post). length ps ≤ c.in-Ok.place) c.pending-2.ensures c.if-place-pending.true)

pub returns-in-Ok-pump_one : goal.returns-in-Ok-pump_one
returns-in-Ok-pump_one c =
    decides_to c.args.late.now c.in-Ok-one_reply.replies.items c.in-Ok.place c.pump_one.new.link c.in-Ok-pump_one._report (record {}) c.args.exchange.now c.pump_one.new.self
    (c.in-Ok-one_reply.ensures ∙ ap (λ (bytes : List ℕ). Reply.Came bytes ∷ []) c.as_slice.ensures)
    (found_by c.args.late.now.request c.as_str.result.now c.args.exchange.now.outbox.pending c.pending.result.now c.in-Ok.place c.as_str.ensures.value c.pending.ensures c.in-Ok.ensures)
    (subst (λ (ps : List Post). c.in-Ok.place < length ps) c.pending-2.ensures c.if-place-pending.false)
    c.new-link.ensures.few c.pump_one.ensures.day c.pump_one.ensures.campaigns
    (pumps_by c.in-Ok-one_reply.replies.items c.in-Ok.place c.new-link.result c.pump_one.new.link _ c.args.exchange.now.outbox c.pump_one.new.self.outbox c.new-link.ensures.link c.in-Ok-pump_one.ensures.pumps)

pub returns : goal.returns
returns c =
    decides_or_not c.args.late.now c.in-Ok-one_reply.replies.items c.in-Ok.place c.pump_one.new.link c.in-Err-pump_one.wanting c.args.exchange.now c.pump_one.new.self
    (c.in-Ok-one_reply.ensures ∙ ap (λ (bytes : List ℕ). Reply.Came bytes ∷ []) c.as_slice.ensures)
    (found_by c.args.late.now.request c.as_str.result.now c.args.exchange.now.outbox.pending c.pending.result.now c.in-Ok.place c.as_str.ensures.value c.pending.ensures c.in-Ok.ensures)
    (subst (λ (ps : List Post). c.in-Ok.place < length ps) c.pending-2.ensures c.if-place-pending.false)
    c.new-link.ensures.few c.pump_one.ensures.day c.pump_one.ensures.campaigns
    (pumps_by c.in-Ok-one_reply.replies.items c.in-Ok.place c.new-link.result c.pump_one.new.link _ c.args.exchange.now.outbox c.pump_one.new.self.outbox c.new-link.ensures.link c.in-Err-pump_one.ensures.pumps)
