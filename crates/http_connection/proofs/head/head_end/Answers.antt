-- The lines that were read end a head, or none does.
use Rattle.std.proofs.Common.{sym, ap, ◌∙◌, arith}
use Rattle.http_connection.specs.declared.head.TheConstants.{HEAD_LIMIT}
use Rattle.http_connection.specs.Lines.{EndsAt}
use Rattle.http_connection.specs.Walks.{count_of}
use Rattle.http_connection.proofs.Taking.{takes_both}
use Rattle.http_connection.proofs.HeadWalk.{scanned_grows, scanned_line, head_found, never_head, no_head_yet, step_count, stepped}
use Rattle.http_connection.proofs.head.head_end.Goals as goal

pub returns-in-Over-clause-found : goal.returns-in-Over-clause-found
returns-in-Over-clause-found g c =
    let i = c.lines.invariant in
    let t = c.in-Ok-At.ensures.takes in
    let p = c.line_end.new.buffer.pending in
    let e : EndsAt c.lines.at HEAD_LIMIT p c.in-Ok-At.end = (rw c.in-Ok-At.field-0-is at c.in-Ok-At.ensures.found) in
    let s = scanned_grows c.lines.at c.lines.walk c.lines.buffer.pending p t.piece i.scanned t.pending in
    head_found c.lines.at c.in-Ok-At.end c.lines.walk c.in-Over.lines p s e i.unfinished
    (stepped c.lines.at c.in-Ok-At.end c.lines.walk _ c.is_empty_at.result c.pending.result.now p (sym c.in-Over.is ∙ c.walked.ensures) c.is_empty_at.ensures c.pending.ensures)

pub lines-preserved : goal.lines-preserved
lines-preserved g c =
    let i = c.lines.invariant in
    let t = c.in-Ok-At.ensures.takes in
    let p = c.line_end.new.buffer.pending in
    let e : EndsAt c.lines.at HEAD_LIMIT p c.in-Ok-At.end = (rw c.in-Ok-At.field-0-is at c.in-Ok-At.ensures.found) in
    let s = scanned_grows c.lines.at c.lines.walk c.lines.buffer.pending p t.piece i.scanned t.pending in record {
      takes = takes_both c.args.buffer.now c.lines.buffer c.line_end.new.buffer _ _ _ i.takes t;
      scanned = scanned_line c.lines.at HEAD_LIMIT c.in-Ok-At.end c.lines.walk c.walked.result p s e
          (stepped c.lines.at c.in-Ok-At.end c.lines.walk c.walked.result c.is_empty_at.result c.pending.result.now p c.walked.ensures c.is_empty_at.ensures c.pending.ensures);
      unfinished = λ n is. c.in_default.not-Over n is;
      counted = let n = ap count_of c.walked.ensures in let k = step_count c.lines.walk c.is_empty_at.result in let j = i.counted in let m = e.end_is in omega (arith, n, k, j, m);
      bounded = e.within;
      faults = c.in-Ok-At.ensures.cause.passed ∙ i.faults;
      place = c.in-Ok-At.ensures.same ∙ i.place;
    }

pub returns-in-Ok-TooLong-clause-found : goal.returns-in-Ok-TooLong-clause-found
returns-in-Ok-TooLong-clause-found g c =
    let i = c.lines.invariant in
    let t = c.in-Ok-TooLong.ensures.takes in
    let s = scanned_grows c.lines.at c.lines.walk c.lines.buffer.pending c.line_end.new.buffer.pending t.piece i.scanned t.pending in
    never_head c.lines.at c.lines.walk c.line_end.new.buffer.pending s i.unfinished (rw c.in-Ok-TooLong.field-0-is at c.in-Ok-TooLong.ensures.found)

pub returns-in-Ok-Open-clause-found : goal.returns-in-Ok-Open-clause-found
returns-in-Ok-Open-clause-found g c =
    let i = c.lines.invariant in
    let t = c.in-Ok-Open.ensures.takes in
    let s = scanned_grows c.lines.at c.lines.walk c.lines.buffer.pending c.line_end.new.buffer.pending t.piece i.scanned t.pending in
    no_head_yet c.lines.at c.lines.walk c.line_end.new.buffer.pending s i.unfinished (rw c.in-Ok-Open.field-0-is at c.in-Ok-Open.ensures.found)

pub returns-in-Err-clause-unread : goal.returns-in-Err-clause-unread
returns-in-Err-clause-unread g c =
    let i = c.lines.invariant in
    let t = c.in-Err.ensures.takes in
    let s = scanned_grows c.lines.at c.lines.walk c.lines.buffer.pending c.line_end.new.buffer.pending t.piece i.scanned t.pending in
    no_head_yet c.lines.at c.lines.walk c.line_end.new.buffer.pending s i.unfinished c.in-Err.ensures.unread
