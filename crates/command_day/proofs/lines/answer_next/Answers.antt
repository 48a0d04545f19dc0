-- A line's answer was put, or a prefix of it; or nothing was.
use Rattle.std.proofs.Common.{sym, subst, Err, string_bytes}
use Rattle.command_runs.proofs.Ran.{front_taken}
use Rattle.history_runs.specs.Clauses.{IsKept, LineAnswered}
use Rattle.command_day.specs.Steps.{PutsLine}
use Rattle.command_day.proofs.lines.answer_next.Goals as goal

pub returns-in-Err-put_out-clause-cut : goal.returns-in-Err-put_out-clause-cut
returns-in-Err-put_out-clause-cut g c =
    let talk = c.args.talk.now in
    let held = g.K.Sink.held talk.sink.now in
    let held_now = g.K.Sink.held c.put_out.new.self.sink.now in
    let out = string_bytes c.answer_line.new.out in
    subst (λ stop. PutsLine g.D.Disk c.args.roster.now c.args.desk.now c.answer_line.new.desk c.args.number (IsKept talk.buffer.now) held held_now (Err stop)) (sym c.in-Err-put_out.ensures.fault)
    (out, subst (λ o. LineAnswered g.D.Disk c.args.roster.now c.args.desk.now c.answer_line.new.desk c.args.number (IsKept talk.buffer.now) o out) c.requires.unwritten c.in-Ok.ensures.answered, front_taken held held_now out c.in-Err-put_out.ensures.front)
