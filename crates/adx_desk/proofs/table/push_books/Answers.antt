-- The day's terms are the roster's.
use Rattle.std.proofs.Common.{◌∙◌, ◌++◌, length, ap, sym, string_bytes}
use Rattle.answer_lines.specs.Table.{closing_table}
use Rattle.adx_desk.proofs.Terms.{budgets_counted}
use Rattle.adx_desk.proofs.table.push_books.Goals as goal

pub push_campaigns-requires : goal.push_campaigns-requires
push_campaigns-requires g c = budgets_counted c.args.roster.now c.args.desk.now.desk.terms.day c.requires ∙ ap (λ cs. length cs) (sym c.as_slice.ensures)

pub returns : goal.returns
returns g c =
    let roster = c.args.roster.now in
    let desk = c.args.desk.now.desk in
    let old = string_bytes c.args.out.now in
    c.in_ok-push_campaigns.ensures ∙ ap (λ cs. old ++ closing_table cs desk.terms.day desk.history) c.as_slice.ensures ∙ ap (λ t. old ++ closing_table roster.campaigns t desk.history) c.requires
