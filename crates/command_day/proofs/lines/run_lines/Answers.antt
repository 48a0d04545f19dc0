-- Each end of the run, by the lines that led to it.
use Rattle.std.proofs.Common.{◌≡◌, ◌∙◌, refl, sym, ap, subst, Ok, Err, Option}
use Rattle.std.specs.Borrow.{MutBor}
use Rattle.adx_io.specs.Streams.{Tape}
use Rattle.adx_io.specs.Talk.{Puts}
use Rattle.adx_io.specs.TalkState.{state_of}
use Rattle.adx_io.specs.declared.talk.Next.{Next}
use Rattle.command_runs.proofs.Firsts.{held_all, held_line, held_stop}
use Rattle.command_day.specs.Steps.{LinesRan}
use Rattle.command_day.proofs.DayLines.{Running, begins, closed_at, cut_at, goes_on, line_terms, past_at, stopped_at}
use Rattle.command_day.proofs.lines.run_lines.Goals as goal

pub lines-init : goal.lines-init
lines-init g c = record {
  running = λ disk start began. begins g.D.Disk c.args.roster.now start disk (state_of c.args.talk.now) c.args.desk.now began;
  unwritten = c.requires.unwritten;
  terms = c.requires.terms;
  lasts = g.met.D.Disk.lasts_same c.args.desk.now.disk;
  read_same = refl;
  write_same = refl;
  place = refl;
}

pub lines-preserved : goal.lines-preserved
lines-preserved g c =
    let is : c.next_line.result ≡ Ok Next.Line = c.in-Ok-Line.is ∙ ap Ok c.in-Ok-Line.field-0-is in
    let before = state_of c.args.talk.now in
    let mid = state_of c.lines.talk in
    let read = state_of c.next_line.new.self in
    let last = state_of c.answer_next.new.talk in
    let puts : Puts mid read = rw is at c.next_line.ensures.puts in
    let rest = c.answer_next.ensures.rest in
    let tape : last.tape ≡ read.tape = rw (rest.0, rest.1) refl in
    let allowed : last.allowed ≡ read.allowed = rw (rest.1, rest.2) refl in
    let next = c.in-Ok.next in
    let done : c.answer_next.result ≡ Ok next = c.in-Ok.is in
    let put = c.in-Ok.ensures.answered in record {
      running = λ disk start began.
          subst (λ n. Running g.D.Disk c.args.roster.now start disk before last n c.answer_next.new.desk) (sym c.in-Ok.ensures.next)
          (goes_on g.D.Disk c.args.roster.now start disk before mid c.lines.number c.lines.desk (c.lines.invariant.running disk start began) read last c.answer_next.new.desk (rw is at c.next_line.ensures.reads)
          (held_line mid read c.lines.invariant.unwritten puts) tape allowed put);
      unwritten = c.in-Ok.ensures.unwritten;
      terms = line_terms g.D.Disk c.lines.desk c.answer_next.new.desk put.1.told put.1.serves ∙ c.lines.invariant.terms;
      lasts = g.met.D.Disk.lasts_on c.args.desk.now.disk c.lines.desk.disk c.answer_next.new.desk.disk c.lines.invariant.lasts c.answer_next.ensures.lasts;
      read_same = c.answer_next.ensures.causes.read_same (λ e. cc (e, done)) ∙ c.next_line.ensures.causes.read_same (λ e. cc (e, is)) ∙ c.lines.invariant.read_same;
      write_same = c.answer_next.ensures.causes.write_same (λ e. cc (e, done)) ∙ c.next_line.ensures.causes.write_same (λ e. cc (e, is)) ∙ c.lines.invariant.write_same;
      place = c.answer_next.ensures.same ∙ c.next_line.ensures.same ∙ c.lines.invariant.place;
    }

pub returns-in-Err-answer_next-clause-ran : goal.returns-in-Err-answer_next-clause-ran
returns-in-Err-answer_next-clause-ran g c = λ disk start began.
    let is : c.next_line.result ≡ Ok Next.Line = c.in-Ok-Line.is ∙ ap Ok c.in-Ok-Line.field-0-is in
    let before = state_of c.args.talk.now in
    let mid = state_of c.lines.talk in
    let talk = c.next_line.new.self in
    let read = state_of talk in
    let last = c.answer_next.new.talk in
    let held = g.K.Sink.held last.sink.now in
    let stop = c.in-Err-answer_next.stop in
    let puts : Puts mid read = rw is at c.next_line.ensures.puts in
    subst (λ (t : Option Tape). LinesRan g.D.Disk c.args.roster.now start before t held disk c.answer_next.new.desk.disk (Err stop)) (sym (ap (λ (x : MutBor _). g.S.Source.tape x.now) c.answer_next.ensures.rest.0))
    (cut_at g.D.Disk c.args.roster.now start disk before mid c.lines.number c.lines.desk (c.lines.invariant.running disk start began) read talk.buffer.now.pending (g.S.Source.tape talk.source.now) held c.next_line.ensures.ahead
    (held_line mid read c.lines.invariant.unwritten puts) c.answer_next.new.desk stop (rw is at c.next_line.ensures.reads) c.in-Err-answer_next.ensures.cut)

pub returns-in-Ok-End-clause-ran : goal.returns-in-Ok-End-clause-ran
returns-in-Ok-End-clause-ran g c = λ disk start began.
    let is : c.next_line.result ≡ Ok Next.End = c.in-Ok-End.is ∙ ap Ok c.in-Ok-End.field-0-is in
    let before = state_of c.args.talk.now in
    let mid = state_of c.lines.talk in
    let talk = c.next_line.new.self in
    let read = state_of talk in
    let last = c.close_lines.new.talk in
    let held = g.K.Sink.held last.sink.now in
    subst (λ (t : Option Tape). LinesRan g.D.Disk c.args.roster.now start before t held disk c.lines.desk.disk c.close_lines.result) (sym (ap (λ (x : MutBor _). g.S.Source.tape x.now) c.close_lines.ensures.rest.0))
    (closed_at g.D.Disk c.args.roster.now start disk before mid c.lines.number c.lines.desk (c.lines.invariant.running disk start began) read talk.buffer.now.pending (g.S.Source.tape talk.source.now) held c.next_line.ensures.ahead
    (held_all mid read c.lines.invariant.unwritten (rw is at c.next_line.ensures.puts)) c.close_lines.result (c.next_line.ensures.looked (λ e. cc (e, is)) (λ e. cc (e, is))) (rw is at c.next_line.ensures.reads) c.close_lines.ensures.puts)

pub returns-in-Ok-PastLimit-clause-ran : goal.returns-in-Ok-PastLimit-clause-ran
returns-in-Ok-PastLimit-clause-ran g c = λ disk start began.
    let is : c.next_line.result ≡ Ok Next.PastLimit = c.in-Ok-PastLimit.is ∙ ap Ok c.in-Ok-PastLimit.field-0-is in
    let before = state_of c.args.talk.now in
    let mid = state_of c.lines.talk in
    let talk = c.next_line.new.self in
    let read = state_of talk in
    let last = c.pass_lines.new.talk in
    let held = g.K.Sink.held last.sink.now in
    subst (λ (t : Option Tape). LinesRan g.D.Disk c.args.roster.now start before t held disk c.lines.desk.disk c.pass_lines.result) (sym (ap (λ (x : MutBor _). g.S.Source.tape x.now) c.pass_lines.ensures.rest.0))
    (past_at g.D.Disk c.args.roster.now start disk before mid c.lines.number c.lines.desk (c.lines.invariant.running disk start began) read talk.buffer.now.pending (g.S.Source.tape talk.source.now) held c.next_line.ensures.ahead
    (held_all mid read c.lines.invariant.unwritten (rw is at c.next_line.ensures.puts)) c.pass_lines.result (c.next_line.ensures.looked (λ e. cc (e, is)) (λ e. cc (e, is))) (rw is at c.next_line.ensures.reads) c.pass_lines.ensures.puts)

pub returns-in-Err-clause-ran : goal.returns-in-Err-clause-ran
returns-in-Err-clause-ran g c = λ disk start began.
    let before = state_of c.args.talk.now in
    let mid = state_of c.lines.talk in
    let talk = c.next_line.new.self in
    let read = state_of talk in
    stopped_at g.D.Disk c.args.roster.now start disk before mid c.lines.number c.lines.desk (c.lines.invariant.running disk start began) read talk.buffer.now.pending (g.S.Source.tape talk.source.now) read.held c.next_line.ensures.ahead
    (held_stop mid read c.lines.invariant.unwritten c.in-Err.stop c.in-Err.ensures.puts) c.in-Err.stop (λ other. c.in-Err.ensures.looked (λ e. cc e) (λ e. other (cc e))) c.in-Err.ensures.reads refl
