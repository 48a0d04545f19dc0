-- The line that is kept is the line that was read.
use Rattle.std.proofs.Common.{inl, refl, string_bytes}
use Rattle.adx_io.specs.Lines.{Keeps}
use Rattle.script_lines.specs.declared.refusal.Refusal.{Refusal}
use Rattle.command_runs.specs.Limits.{line_limit}
use Rattle.history_runs.specs.Answering.{LeavesUnwritten}
use Rattle.history_runs.proofs.AnswerLaws.{answered_kept, dropped_line, line_refused, unwritten_kept}
use Rattle.adx_desk.proofs.ToldAnswers.{on_err}
use Rattle.command_day.proofs.answering.answer_line.Goals as goal

pub returns-in_ok-answer_text-in-Some-clause-answered : goal.returns-in_ok-answer_text-in-Some-clause-answered
returns-in_ok-answer_text-in-Some-clause-answered g c =
    let kept = rw c.in-Some.is at c.line.ensures in
    answered_kept g.D.Disk.faults g.D.Disk.may_leave g.D.Disk.moment g.D.Disk.left_since c.args.roster.now c.args.desk.now c.answer_text.new.desk c.args.number c.args.buffer.now.overlong c.args.buffer.now.line c.in-Some.line.now (string_bytes c.args.out.now) (string_bytes c.answer_text.new.out) kept.0 kept.1
    c.in_ok-answer_text-in-Some.ensures.answered

pub returns-in_err-answer_text-in-Some-clause-unwritten : goal.returns-in_err-answer_text-in-Some-clause-unwritten
returns-in_err-answer_text-in-Some-clause-unwritten g c =
    let kept = rw c.in-Some.is at c.line.ensures in
    on_err c.from_residual.result (LeavesUnwritten g.D.Disk.faults g.D.Disk.may_leave g.D.Disk.moment g.D.Disk.left_since c.args.roster.now c.args.desk.now c.answer_text.new.desk (Keeps line_limit c.args.buffer.now.overlong c.args.buffer.now.line))
    (unwritten_kept g.D.Disk.faults g.D.Disk.may_leave g.D.Disk.moment g.D.Disk.left_since c.args.roster.now c.args.desk.now c.answer_text.new.desk c.args.buffer.now.overlong c.args.buffer.now.line c.in-Some.line.now kept.0 kept.1 c.in_err-answer_text-in-Some.ensures.unwritten)

pub returns-in_ok-push_refused-in-None-clause-answered : goal.returns-in_ok-push_refused-in-None-clause-answered
returns-in_ok-push_refused-in-None-clause-answered g c =
    let dropped = rw c.in-None.is at c.line.ensures in
    line_refused g.D.Disk.faults g.D.Disk.may_leave g.D.Disk.moment g.D.Disk.left_since c.args.roster.now c.args.desk.now c.args.number (Keeps line_limit c.args.buffer.now.overlong c.args.buffer.now.line) (string_bytes c.args.out.now) (string_bytes c.push_refused.new.out) Refusal.Long
    (λ line keeps. inl (dropped_line line_limit c.args.buffer.now.overlong c.args.buffer.now.line line dropped keeps, refl)) c.in_ok-push_refused-in-None.ensures
