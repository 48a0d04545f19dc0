-- Each end of the reading, by the rows before it.
use Rattle.std.proofs.Common.{◌≡◌, ◌∙◌, ◌+◌, Bool, refl, ap, subst, arith, Ok, length, le-add_right}
use Rattle.adx_io.specs.Talk.{Puts}
use Rattle.adx_io.specs.TalkState.{state_of}
use Rattle.adx_io.specs.declared.talk.Next.{Next}
use Rattle.command_reconcile.specs.Reading.{OfKept, ReadsRows, TakesRow}
use Rattle.command_reconcile.proofs.LedgerReads.{rows_end, rows_fail, rows_line, rows_none, rows_past, rows_refused, rows_stop}
use Rattle.command_runs.proofs.Firsts.{held_line, out_line}
use Rattle.command_runs.proofs.Told.{told_start}
use Rattle.command_reconcile.proofs.ledger.read_ledger.Goals as goal

pub lines-init : goal.lines-init
lines-init g c =
    let before = state_of c.args.talk.now in record {
      reads = told_start before.tape (ReadsRows before before c.args.bills.now.items 1) (rows_none before c.args.bills.now.items c.requires.empty);
      held = refl;
      unwritten = c.requires.unwritten;
      read_same = refl;
      write_same = refl;
      place = refl;
    }

pub lines-preserved : goal.lines-preserved
lines-preserved g c =
    let before = state_of c.args.talk.now in
    let mid = state_of c.lines.talk in
    let now = state_of c.next_line.new.self in
    let is : c.next_line.result ≡ Ok Next.Line = c.in-Ok-Line.is ∙ ap Ok c.in-Ok-Line.field-0-is in
    let puts : Puts mid now = rw is at c.next_line.ensures.puts in
    let counts : c.in-Some.next ≡ c.lines.number + 1 = omega arith in record {
      reads = rows_line before mid now c.lines.bills.items c.lines.number c.lines.invariant.reads c.take_row.new.bills.items c.in-Some.next counts (rw is at c.next_line.ensures.reads)
          (subst (λ (t : Bool). OfKept now.overlong now.line (TakesRow c.lines.bills.items c.take_row.new.bills.items t)) c.in-Ok-true.field-0-test c.in-Ok-true.ensures);
      held = held_line mid now c.lines.invariant.unwritten puts ∙ c.lines.invariant.held;
      unwritten = out_line mid now c.lines.invariant.unwritten puts;
      read_same = c.next_line.ensures.causes.read_same (λ e. cc (e, is)) ∙ c.lines.invariant.read_same;
      write_same = c.next_line.ensures.causes.write_same (λ e. cc (e, is)) ∙ c.lines.invariant.write_same;
      place = c.next_line.ensures.same ∙ c.lines.invariant.place;
    }

pub returns-in-None-clause-reads : goal.returns-in-None-clause-reads
returns-in-None-clause-reads g c =
    let is : c.next_line.result ≡ Ok Next.Line = c.in-Ok-Line.is ∙ ap Ok c.in-Ok-Line.field-0-is in
    let now = c.next_line.new.self in
    rows_refused (state_of c.args.talk.now) (state_of c.lines.talk) (state_of now) c.lines.bills.items c.lines.number c.lines.invariant.reads now.buffer.now.pending (g.S.Source.tape now.source.now) c.take_row.new.bills.items (le-add_right (length now.buffer.now.pending) now.room) (rw is at c.next_line.ensures.reads)

pub returns-in-Ok-false-clause-reads : goal.returns-in-Ok-false-clause-reads
returns-in-Ok-false-clause-reads g c =
    let is : c.next_line.result ≡ Ok Next.Line = c.in-Ok-Line.is ∙ ap Ok c.in-Ok-Line.field-0-is in
    let now = c.next_line.new.self in
    rows_fail (state_of c.args.talk.now) (state_of c.lines.talk) (state_of now) c.lines.bills.items c.lines.number c.lines.invariant.reads now.buffer.now.pending (g.S.Source.tape now.source.now) c.take_row.new.bills.items c.next_line.ensures.ahead (rw is at c.next_line.ensures.reads)
    (subst (λ (t : Bool). OfKept now.buffer.now.overlong now.buffer.now.line (TakesRow c.lines.bills.items c.take_row.new.bills.items t)) c.in-Ok-false.field-0-test c.in-Ok-false.ensures)

pub returns-in-Err-take_row-clause-reads : goal.returns-in-Err-take_row-clause-reads
returns-in-Err-take_row-clause-reads g c =
    let is : c.next_line.result ≡ Ok Next.Line = c.in-Ok-Line.is ∙ ap Ok c.in-Ok-Line.field-0-is in
    let now = c.next_line.new.self in
    rows_refused (state_of c.args.talk.now) (state_of c.lines.talk) (state_of now) c.lines.bills.items c.lines.number c.lines.invariant.reads now.buffer.now.pending (g.S.Source.tape now.source.now) c.take_row.new.bills.items (le-add_right (length now.buffer.now.pending) now.room) (rw is at c.next_line.ensures.reads)

pub returns-in-Ok-End-clause-reads : goal.returns-in-Ok-End-clause-reads
returns-in-Ok-End-clause-reads g c =
    let is : c.next_line.result ≡ Ok Next.End = c.in-Ok-End.is ∙ ap Ok c.in-Ok-End.field-0-is in
    let now = c.next_line.new.self in
    rows_end (state_of c.args.talk.now) (state_of c.lines.talk) (state_of now) c.lines.bills.items c.lines.number c.lines.invariant.reads now.buffer.now.pending (g.S.Source.tape now.source.now) c.last_piece.result
    (c.next_line.ensures.looked (λ e. cc (e, is)) (λ e. cc (e, is))) (rw is at c.next_line.ensures.reads) c.last_piece.ensures

pub returns-in-Ok-PastLimit-clause-reads : goal.returns-in-Ok-PastLimit-clause-reads
returns-in-Ok-PastLimit-clause-reads g c =
    let is : c.next_line.result ≡ Ok Next.PastLimit = c.in-Ok-PastLimit.is ∙ ap Ok c.in-Ok-PastLimit.field-0-is in
    let now = c.next_line.new.self in
    rows_past (state_of c.args.talk.now) (state_of c.lines.talk) (state_of now) c.lines.bills.items c.lines.number c.lines.invariant.reads now.buffer.now.pending (g.S.Source.tape now.source.now)
    (c.next_line.ensures.looked (λ e. cc (e, is)) (λ e. cc (e, is))) (rw is at c.next_line.ensures.reads)

pub returns-in-Err-clause-reads : goal.returns-in-Err-clause-reads
returns-in-Err-clause-reads g c =
    let now = c.next_line.new.self in
    rows_stop (state_of c.args.talk.now) (state_of c.lines.talk) (state_of now) c.lines.bills.items c.lines.number c.lines.invariant.reads now.buffer.now.pending (g.S.Source.tape now.source.now) c.in-Err.stop
    (le-add_right (length now.buffer.now.pending) now.room) c.in-Err.ensures.reads
