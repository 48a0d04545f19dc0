-- The answer to what the line means.
use Rattle.std.proofs.Common.{◌≡◌, ◌≤◌, inr, List, ℕ, length, sym, subst, string_bytes}
use Rattle.day_rules.specs.Runs.{IsCall}
use Rattle.deal_floor.specs.declared.campaign.Campaign.{Campaign}
use Rattle.script_lines.specs.Found.{call_of}
use Rattle.script_lines.specs.Meanings.{LineMeans, calls, refused}
use Rattle.command_runs.specs.Limits.{line_limit}
use Rattle.history_runs.specs.Answering.{AnswersCall, LeavesUnwritten}
use Rattle.history_runs.proofs.AnswerLaws.{budgets_counted, call_answered, call_unwritten, line_refused}
use Rattle.adx_desk.proofs.ToldAnswers.{on_err}
use Rattle.command_day.proofs.answering.answer_text.Goals as goal

pub answer_call-requires : goal.answer_call-requires
answer_call-requires g c = subst (λ n. IsCall n (call_of c.in-Ok.call)) (sym (budgets_counted c.args.roster.now c.args.desk.now.desk.terms.day c.requires.terms)) c.in-Ok.ensures.ready

pub returns-in_ok-answer_call-in-Ok-clause-answered : goal.returns-in_ok-answer_call-in-Ok-clause-answered
returns-in_ok-answer_call-in-Ok-clause-answered g c =
    let roster = c.args.roster.now in
    let old = c.args.desk.now in
    let new = c.answer_call.new.desk in
    let call = call_of c.in-Ok.call in
    let before = string_bytes c.args.out.now in
    let after = string_bytes c.answer_call.new.out in
    call_answered g.D.Disk.faults g.D.Disk.may_leave g.D.Disk.moment g.D.Disk.left_since roster old new c.args.number (λ text. (text ≡ c.args.line.now) × (length text ≤ line_limit)) call before after c.requires.terms
    (λ line kept. inr (kept.1, subst (λ l. LineMeans roster l (calls call)) (sym kept.0) c.in-Ok.ensures.means))
    (subst (λ (cs : List Campaign). AnswersCall g.D.Disk.faults g.D.Disk.may_leave g.D.Disk.moment g.D.Disk.left_since cs old new call before after) c.as_slice.ensures c.in_ok-answer_call-in-Ok.ensures.answered)

pub returns-in_err-answer_call-in-Ok-clause-unwritten : goal.returns-in_err-answer_call-in-Ok-clause-unwritten
returns-in_err-answer_call-in-Ok-clause-unwritten g c =
    let roster = c.args.roster.now in
    let old = c.args.desk.now in
    let new = c.answer_call.new.desk in
    let call = call_of c.in-Ok.call in
    let IsKept : List ℕ → Type 0 = λ text. (text ≡ c.args.line.now) × (length text ≤ line_limit) in
    on_err c.from_residual.result (LeavesUnwritten g.D.Disk.faults g.D.Disk.may_leave g.D.Disk.moment g.D.Disk.left_since roster old new IsKept)
    (call_unwritten g.D.Disk.faults g.D.Disk.may_leave g.D.Disk.moment g.D.Disk.left_since roster old new IsKept call (λ line kept. inr (kept.1, subst (λ l. LineMeans roster l (calls call)) (sym kept.0) c.in-Ok.ensures.means)) c.in_err-answer_call-in-Ok.ensures.unwritten)

pub returns-in_ok-push_refused-in-Err-Refused-clause-answered : goal.returns-in_ok-push_refused-in-Err-Refused-clause-answered
returns-in_ok-push_refused-in-Err-Refused-clause-answered g c =
    let roster = c.args.roster.now in
    line_refused g.D.Disk.faults g.D.Disk.may_leave g.D.Disk.moment g.D.Disk.left_since roster c.args.desk.now c.args.number (λ text. (text ≡ c.args.line.now) × (length text ≤ line_limit)) (string_bytes c.args.out.now) (string_bytes c.push_refused.new.out) c.in-Err-Refused.why
    (λ line kept. inr (kept.1, subst (λ l. LineMeans roster l (refused c.in-Err-Refused.why)) (sym kept.0) (rw c.in-Err-Refused.field-0-is at c.in-Err-Refused.ensures.means))) c.in_ok-push_refused-in-Err-Refused.ensures
