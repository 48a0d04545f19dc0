-- What a change of a budget adds to a history: its entry, or nothing.
use Rattle.std.proofs.Common.{ℕ, List, Bool, true, false, Option, Some, None, IfSome, length}
use Rattle.std.specs.Prelude.{nat_lt, ◌==◌, if◌then◌else◌}
use Rattle.adx_units.specs.Money.{units}
use Rattle.day_rules.specs.declared.answer.Answer.{Answer}
use Rattle.day_rules.specs.declared.answer.Which.{Which}
use Rattle.day_rules.specs.declared.entry.Entry.{Entry}
use Rattle.day_rules.specs.declared.limits.TheConstants.{MAX_CHANGES}
use Rattle.day_rules.specs.Books.{committed}
use Rattle.day_rules.specs.Changes.{last_change, same_change}
use Rattle.day_rules.specs.Entries.{BudgetChange, entry_of_change}
use Rattle.day_rules.specs.Replies.{added, answered, budget_reply, change_reply, changes_with, full, new_change_reply}
use Rattle.day_rules.specs.Terms.{Terms}

module _ (P : Entry → Type 0) (history : List Entry) (x : BudgetChange) (holds : P (entry_of_change x)) where
  new_entry : IfSome (new_change_reply history x).entry P
  new_entry = by (nat_lt x.change (last_change x.campaign history)) (nat_lt x.budget.0 (committed history x.campaign)) (nat_lt MAX_CHANGES (changes_with history))
    where
      by : (late below many : Bool) → IfSome (if late then answered (Answer.Late (last_change x.campaign history))
          else (if below then answered (Answer.BelowCommitted (units (committed history x.campaign)))
          else (if many then full Which.Changes (changes_with history)
          else added Answer.Budgeted (entry_of_change x)))).entry P
      by true below many = tt
      by false true many = tt
      by false false true = tt
      by false false false = holds

  change_entry : (kept : Option (ℕ × BudgetChange)) → IfSome (change_reply history x kept).entry P
  change_entry None = new_entry
  change_entry (Some (place, y)) = by (y.budget.0 == x.budget.0)
    where
      by : (same : Bool) → IfSome (if same then answered (Answer.Repeat place) else answered (Answer.BudgetReused y.budget)).entry P
      by true = tt
      by false = tt

  pub budget_entry : (terms : Terms) → IfSome (budget_reply terms history x).entry P
  budget_entry terms = by (nat_lt x.campaign (length terms.budgets))
    where
      by : (known : Bool) → IfSome (if known then change_reply history x (same_change x history) else answered Answer.NoCampaign).entry P
      by true = change_entry (same_change x history)
      by false = tt
