-- The texts that were read are those of the members.
use Rattle.std.proofs.Common.{◌≡◌, ◌∙◌, ℕ, List, Option, Some, ap}
use Rattle.day_rules.specs.Entries.{BudgetChange}
use Rattle.deal_floor.specs.declared.campaign.Campaign.{Campaign}
use Rattle.script_lines.specs.Changes.{change_in, change_named}
use Rattle.script_lines.proofs.budget.change_of.Goals as goal

named_in : (campaigns : List Campaign) (a b c d : Option (List ℕ)) (seat cid change budget : List ℕ) (r : Option BudgetChange) → Some seat ≡ a
    → Some cid ≡ b → Some change ≡ c → Some budget ≡ d → r ≡ change_named campaigns seat cid change budget → r ≡ change_in campaigns a b c d
named_in campaigns a b c d seat cid change budget r e f g h is = is ∙ (λ i. change_in campaigns (e i) (f i) (g i) (h i))

pub returns-clause-value : goal.returns-clause-value
returns-clause-value c =
    named_in c.args.roster.now.campaigns _ _ _ _ c.as_str.result.now c.as_str-2.result.now c.as_bytes.result.now c.as_bytes-2.result.now _
    (ap Some c.as_str.ensures.value ∙ c.in-Some.ensures)
    (ap Some c.as_str-2.ensures.value ∙ c.in-Some-text_in.ensures)
    (ap Some c.as_bytes.ensures.value ∙ c.in-Some-number_in.ensures)
    (ap Some c.as_bytes-2.ensures.value ∙ c.in-Some-number_in-2.ensures)
    c.read_change.ensures.value
