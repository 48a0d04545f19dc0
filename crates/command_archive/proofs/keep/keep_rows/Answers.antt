-- The keeper answered to the rows, or memory was refused.
use Rattle.std.proofs.Common.{◌∙◌, refl, string_bytes}
use Rattle.command_archive.proofs.Put.{put_as, untouched}
use Rattle.command_archive.proofs.keep.keep_rows.Goals as goal

pub returns-in-Ok-file_day-clause-put : goal.returns-in-Ok-file_day-clause-put
returns-in-Ok-file_day-clause-put g c =
    put_as g.P.Keeper c.args.keeper.now c.file_day.new.keeper c.args.rec.now c.args.bound c.as_slice.result.now (string_bytes c.args.out.now) (string_bytes c.file_day.new.out) c.in-Ok-file_day.end c.outcome_of.result
    (c.as_slice.ensures.value ∙ c.in-Ok.ensures.rows) c.in-Ok-file_day.ensures.filed c.requires c.in-Ok-file_day.ensures.cause c.outcome_of.ensures

pub returns-in-Ok-clause-refused : goal.returns-in-Ok-clause-refused
returns-in-Ok-clause-refused g c = record { memory = refl; kept = c.in-Err-file_day.ensures.refused; faults = c.in-Err-file_day.ensures.stands }

pub returns-clause-refused : goal.returns-clause-refused
returns-clause-refused g c = untouched g.P.Keeper c.args.keeper.now
