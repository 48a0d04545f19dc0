-- What was searched holds no line feed.
use Rattle.std.proofs.Common.{Ok, length, drop, ap, subst, ◌∙◌, arith}
use Rattle.http_connection.specs.Lines.{IsLine, IsFeed}
use Rattle.http_connection.proofs.Taking.{takes_both}
use Rattle.http_connection.proofs.Seen.{seen_all, feed_ends, feed_late, no_feed, still_open}
use Rattle.http_connection.proofs.line.line_end.Goals as goal

pub returns-in-Some-clause-found : goal.returns-in-Some-clause-found
returns-in-Some-clause-found g c =
    feed_ends c.args.from c.args.bound c.takes.seen c.in-Some.place c.takes.buffer.pending c.takes.invariant.seen (subst (λ p. IsFeed c.takes.seen p c.in-Some.place) c.pending.ensures c.in-Some.ensures) (omega (arith, c.if-place-bound.true))

pub returns-in-Some-2-clause-found : goal.returns-in-Some-2-clause-found
returns-in-Some-2-clause-found g c =
    feed_late c.args.from c.args.bound c.takes.seen c.in-Some.place c.takes.buffer.pending c.takes.invariant.seen (subst (λ p. IsFeed c.takes.seen p c.in-Some.place) c.pending.ensures c.in-Some.ensures) (omega (arith, c.if-place-bound.false))

pub returns-then-seen-bound-clause-found : goal.returns-then-seen-bound-clause-found
returns-then-seen-bound-clause-found g c =
    let i = c.takes.invariant in let w = i.within in let f = i.from in
    let line : IsLine (drop c.takes.seen c.takes.buffer.pending) = subst (λ p. IsLine (drop c.takes.seen p)) c.pending.ensures c.in-None.ensures in
    no_feed c.args.from c.args.bound c.takes.seen c.takes.buffer.pending (omega (arith, w, f)) i.seen line (let e = ap length c.pending-seen.ensures in omega (arith, e, c.if-seen-bound.true))

pub takes-preserved : goal.takes-preserved
takes-preserved g c =
    let i = c.takes.invariant in let w = i.within in let f = i.from in
    let t = c.in-Ok-true.ensures.takes in
    let e = ap length c.pending-seen.ensures in
    let line : IsLine (drop c.takes.seen c.takes.buffer.pending) = subst (λ p. IsLine (drop c.takes.seen p)) c.pending.ensures c.in-None.ensures in
    let more = c.in-Ok-true.ensures.some (ap Ok c.in-Ok-true.field-0-test) in record {
      takes = takes_both c.args.buffer.now c.takes.buffer c.fill.new.self _ _ _ i.takes t;
      seen = seen_all c.args.from c.takes.seen c.takes.buffer.pending c.fill.new.self.pending t.piece (length c.pending-seen.result.now) (omega (arith, w, f)) i.seen line t.pending e;
      within = omega (arith, e, more);
      from = omega (arith, e, w, f);
      faults = c.in-Ok-true.ensures.cause.passed ∙ i.faults;
      place = c.in-Ok-true.ensures.same ∙ i.place;
    }

pub returns-in-Ok-false-clause-found : goal.returns-in-Ok-false-clause-found
returns-in-Ok-false-clause-found g c =
    let i = c.takes.invariant in
    let e = ap length c.pending-seen.ensures in
    let line : IsLine (drop c.takes.seen c.takes.buffer.pending) = subst (λ p. IsLine (drop c.takes.seen p)) c.pending.ensures c.in-None.ensures in
    still_open c.args.from c.args.bound c.takes.seen c.takes.buffer.pending c.fill.new.self.pending i.seen line (c.in-Ok-false.ensures.none (ap Ok c.in-Ok-false.field-0-test)) (omega (arith, e, c.if-seen-bound.false))
