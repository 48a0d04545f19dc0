-- The keeper was asked, or it wasn't, or memory was refused.
use Rattle.std.proofs.Common.{string_bytes}
use Rattle.command_archive.proofs.Kept.{kept_as, kept_none, kept_nothing}
use Rattle.command_archive.proofs.keep.KeepDayJudge.judge.Goals as goal

pub returns-in-Ok-Accepted-clause-judged : goal.returns-in-Ok-Accepted-clause-judged
returns-in-Ok-Accepted-clause-judged g c =
    kept_as g.P.Keeper c.args.self.now.keeper.now c.keep_rows.new.keeper c.args.rest c.args.document.now c.in-Ok-Accepted.rec c.in-Ok-Accepted.bound (string_bytes c.check_document.new.out)
    (string_bytes c.keep_rows.new.out) c.keep_rows.result (rw c.in-Ok-Accepted.field-0-is at c.in-Ok-Accepted.ensures) c.keep_rows.ensures.put c.keep_rows.ensures.refused

pub returns-in-Ok-Ended-clause-judged : goal.returns-in-Ok-Ended-clause-judged
returns-in-Ok-Ended-clause-judged g c =
    kept_none g.P.Keeper c.args.self.now.keeper.now c.args.rest c.args.document.now (string_bytes c.check_document.new.out) c.in-Ok-Ended.outcome (rw c.in-Ok-Ended.field-0-is at c.in-Ok-Ended.ensures)

pub returns-in-Err-clause-judged : goal.returns-in-Err-clause-judged
returns-in-Err-clause-judged g c = kept_nothing g.P.Keeper c.args.self.now.keeper.now c.args.rest c.args.document.now (string_bytes c.check_document.new.out) c.in-Err.refused
