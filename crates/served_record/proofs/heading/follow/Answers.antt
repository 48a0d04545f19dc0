use Rattle.std.proofs.Common.{◌≡◌, set, subst, sym}
use Rattle.day_rules.specs.declared.entry.Entry.{Entry}
use Rattle.served_record.specs.Steps.{rows_after}
use Rattle.served_record.proofs.Campaigns.{rebudgeted_at}
use Rattle.served_record.proofs.heading.follow.Goals as goal

pub returns-in-Budget : goal.returns-in-Budget
returns-in-Budget c =
    subst (λ (e : Entry). set c.args.rows.now.items c.in-Budget.campaign c.rebudget.new.row ≡ rows_after e c.args.rows.now.items) (sym c.in-Budget.is)
    (rebudgeted_at c.args.rows.now.items c.in-Budget.campaign c.index_mut.result.now c.rebudget.new.row c.in-Budget.budget c.index_mut.ensures.value c.rebudget.ensures)
