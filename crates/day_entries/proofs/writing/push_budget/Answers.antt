use Rattle.formats.proofs.Laws.{adds_both, adds_made}
use Rattle.day_rules.specs.Entries.{change_of}
use Rattle.day_entries.specs.Entries.{change, change_of_parts, parts_of_change}
use Rattle.day_entries.proofs.Steps.{adds_kind}
use Rattle.day_entries.proofs.writing.push_budget.Goals as goal

pub returns-clause-ok : goal.returns-clause-ok
unfolding change
returns-clause-ok c =
    let x = change_of c.args.campaign c.args.change c.args.budget in
    adds_kind 6 c.args.out.now.payload c.push.new.self.payload c.push_wide.new.out.payload x c.in_ok-push.ensures.ok
    (adds_made change_of_parts parts_of_change x (adds_both c.in_ok-push_long.ensures.ok (adds_both c.in_ok-push_long-2.ensures.ok c.in_ok-push_wide.ensures.ok)))
