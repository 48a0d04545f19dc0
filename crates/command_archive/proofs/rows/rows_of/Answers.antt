use Rattle.std.proofs.Common.{List, sym, subst}
use Rattle.std.proofs.lemmas.Result.{IfOk-weaker}
use Rattle.day_archive.specs.declared.row.DayRow.{DayRow}
use Rattle.day_archive.specs.Kept.{AreOfOneDay}
use Rattle.command_archive.proofs.Campaigns.{one_day}
use Rattle.command_archive.proofs.rows.rows_of.Goals as goal

pub returns-clause-one_day : goal.returns-clause-one_day
returns-clause-one_day c =
    IfOk-weaker c.campaign_rows.result _ _ (λ v is. subst (λ (rows : List DayRow). AreOfOneDay rows) (sym is) (one_day c.args.day.now c.args.bound)) c.campaign_rows.ensures
