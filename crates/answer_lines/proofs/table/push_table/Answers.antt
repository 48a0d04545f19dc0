-- The rows, and after them the counts.
use Rattle.std.proofs.Common.{◌++◌, ◌∙◌, List, ℕ, ap, ap₂, append_assoc, string_bytes}
use Rattle.std.specs.List.{flat_map, enumerate_from}
use Rattle.campaign_book.specs.Accounts.{Account}
use Rattle.day_rules.specs.declared.meters.Meters.{Meters}
use Rattle.answer_lines.specs.Table.{campaign_line, counts_text}
use Rattle.answer_lines.proofs.table.push_table.Goals as goal

pub returns : goal.returns
returns c terms history counted money =
    let old = string_bytes c.args.out.now in
    let lines : List Account → List ℕ = λ accounts. flat_map (campaign_line accounts) (enumerate_from 0 c.args.campaigns.now) in
    let counts : Meters → List ℕ = λ m. counts_text m.asks m.awards m.entries in
    c.in_ok-push_counts.ensures ∙ ap (λ (rows : List ℕ). rows ++ counts c.args.meters) c.in_ok-push_rows.ensures
    ∙ append_assoc old (lines c.args.book.now) (counts c.args.meters)
    ∙ ap₂ (λ (accounts : List Account) (m : Meters). old ++ (lines accounts ++ counts m)) money counted
