-- The lines that were read are a trailer, or the front of one.
use Rattle.std.proofs.Common.{Ok, Some, refl, ap, subst, ◌∙◌, append-nil, arith}
use Rattle.http_connection.specs.Lines.{EndsAt}
use Rattle.http_connection.specs.declared.head.TheConstants.{HEAD_LIMIT}
use Rattle.http_connection.proofs.Taking.{takes_both}
use Rattle.http_connection.specs.Chunks.{IsOpenTrailer}
use Rattle.http_connection.proofs.Told.{advances, given}
use Rattle.http_connection.proofs.AtHand.{held, spent, still}
use Rattle.http_connection.proofs.Trailers.{run_grows, run_line, line_is, trailer_found, trailer_many, trailer_long, trailer_open}
use Rattle.http_connection.proofs.chunks.read_trailer.Goals as goal

pub returns-then-is_empty_to-clause-gives : goal.returns-then-is_empty_to-clause-gives
returns-then-is_empty_to-clause-gives g c =
    let i = c.lines.invariant in
    let t = c.in-Ok-At.ensures.takes in
    let p = c.line_end.new.buffer.pending in
    let all = takes_both c.args.buffer.now c.lines.buffer c.line_end.new.buffer _ _ _ i.takes t in
    let s = run_grows c.lines.at c.lines.lines c.lines.buffer.pending p t.piece i.run t.pending in
    let e : EndsAt c.lines.at HEAD_LIMIT p c.in-Ok-At.end = (rw c.in-Ok-At.field-0-is at c.in-Ok-At.ensures.found) in
    let b = line_is c.lines.at HEAD_LIMIT c.in-Ok-At.end p c.pending.result.now c.is_empty_to.result e c.is_empty_to.ensures c.pending.ensures in
    trailer_found c.lines.at c.lines.lines c.in-Ok-At.end c.args.buffer.now c.line_end.new.buffer c.skip.new.self _ _ all s i.few e (b ∙ c.if-is_empty_to.true) c.skip.ensures

pub returns-then-is_empty_to-clause-advances : goal.returns-then-is_empty_to-clause-advances
returns-then-is_empty_to-clause-advances g c =
    advances c.args.buffer.now c.line_end.new.buffer _ _ (takes_both c.args.buffer.now c.lines.buffer c.line_end.new.buffer _ _ _ c.lines.invariant.takes c.in-Ok-At.ensures.takes)

pub returns-then-lines-eq-LINE_COUNT_LIMIT-clause-gives : goal.returns-then-lines-eq-LINE_COUNT_LIMIT-clause-gives
returns-then-lines-eq-LINE_COUNT_LIMIT-clause-gives g c =
    let i = c.lines.invariant in
    let t = c.in-Ok-At.ensures.takes in
    let p = c.line_end.new.buffer.pending in
    let all = takes_both c.args.buffer.now c.lines.buffer c.line_end.new.buffer _ _ _ i.takes t in
    let s = run_grows c.lines.at c.lines.lines c.lines.buffer.pending p t.piece i.run t.pending in
    let e : EndsAt c.lines.at HEAD_LIMIT p c.in-Ok-At.end = (rw c.in-Ok-At.field-0-is at c.in-Ok-At.ensures.found) in
    let b = line_is c.lines.at HEAD_LIMIT c.in-Ok-At.end p c.pending.result.now c.is_empty_to.result e c.is_empty_to.ensures c.pending.ensures in
    trailer_many c.lines.at c.lines.lines c.in-Ok-At.end c.args.buffer.now c.line_end.new.buffer _ _ all s c.if-lines-eq-LINE_COUNT_LIMIT.true e (b ∙ c.if-is_empty_to.false)

pub lines-preserved : goal.lines-preserved
lines-preserved g c =
    let i = c.lines.invariant in
    let t = c.in-Ok-At.ensures.takes in
    let p = c.line_end.new.buffer.pending in
    let all = takes_both c.args.buffer.now c.lines.buffer c.line_end.new.buffer _ _ _ i.takes t in
    let s = run_grows c.lines.at c.lines.lines c.lines.buffer.pending p t.piece i.run t.pending in
    let e : EndsAt c.lines.at HEAD_LIMIT p c.in-Ok-At.end = (rw c.in-Ok-At.field-0-is at c.in-Ok-At.ensures.found) in
    let b = line_is c.lines.at HEAD_LIMIT c.in-Ok-At.end p c.pending.result.now c.is_empty_to.result e c.is_empty_to.ensures c.pending.ensures in
    let few = i.few in
    let other = c.if-lines-eq-LINE_COUNT_LIMIT.false in record {
      takes = all;
      run = run_line c.lines.at c.lines.lines c.in-Ok-At.end p s e (b ∙ c.if-is_empty_to.false);
      few = omega (arith, few, other);
      bounded = e.within;
      faults = c.in-Ok-At.ensures.cause.passed ∙ i.faults;
      place = c.in-Ok-At.ensures.same ∙ i.place;
    }

pub returns-in-Ok-TooLong-clause-gives : goal.returns-in-Ok-TooLong-clause-gives
returns-in-Ok-TooLong-clause-gives g c =
    let i = c.lines.invariant in
    let t = c.in-Ok-TooLong.ensures.takes in
    let p = c.line_end.new.buffer.pending in
    let all = takes_both c.args.buffer.now c.lines.buffer c.line_end.new.buffer _ _ _ i.takes t in
    let s = run_grows c.lines.at c.lines.lines c.lines.buffer.pending p t.piece i.run t.pending in
    trailer_long c.lines.at c.lines.lines c.args.buffer.now c.line_end.new.buffer _ _ all s (rw c.in-Ok-TooLong.field-0-is at c.in-Ok-TooLong.ensures.found)

pub returns-in-Ok-Open-clause-gives : goal.returns-in-Ok-Open-clause-gives
returns-in-Ok-Open-clause-gives g c =
    let i = c.lines.invariant in
    let t = c.in-Ok-Open.ensures.takes in
    let p = c.line_end.new.buffer.pending in
    let all = takes_both c.args.buffer.now c.lines.buffer c.line_end.new.buffer _ _ _ i.takes t in
    let s = run_grows c.lines.at c.lines.lines c.lines.buffer.pending p t.piece i.run t.pending in
    trailer_open c.lines.at c.lines.lines c.args.buffer.now c.line_end.new.buffer _ _ all s i.few (rw c.in-Ok-Open.field-0-is at c.in-Ok-Open.ensures.found) (c.in-Ok-Open.ensures.ended (ap Ok c.in-Ok-Open.field-0-is))

pub returns-in-Err-clause-gives : goal.returns-in-Err-clause-gives
returns-in-Err-clause-gives g c =
    let i = c.lines.invariant in
    let t = c.in-Err.ensures.takes in
    let p = c.line_end.new.buffer.pending in
    let all = takes_both c.args.buffer.now c.lines.buffer c.line_end.new.buffer _ _ _ i.takes t in
    let s = run_grows c.lines.at c.lines.lines c.lines.buffer.pending p t.piece i.run t.pending in
    given c.args.buffer.now c.line_end.new.buffer _ _ IsOpenTrailer all
    (subst IsOpenTrailer (append-nil p) (trailer_open c.lines.at c.lines.lines (held p) (held p) (Some spent) (Some spent) (still p) s i.few c.in-Err.ensures.unread refl))
