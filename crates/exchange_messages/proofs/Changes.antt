-- The change of a budget that four texts name, by what the roster's reader finds.
use Rattle.std.proofs.Common.{◌≡◌, ℕ, List, Option, Some, None, Result, Ok, refl, ◌∙◌}
use Rattle.std.specs.Cow.{cow_str_bytes}
use Rattle.adx_units.specs.Money.{budget_of}
use Rattle.adx_units.specs.declared.price.PriceFault.{PriceFault}
use Rattle.adx_units.specs.declared.units.Units.{Units}
use Rattle.day_rules.specs.Entries.{BudgetChange, change_of}
use Rattle.deal_floor.specs.declared.campaign.Campaign.{Campaign}
use Rattle.script_lines.specs.Changes.{change_by, change_named, pair_place}
use Rattle.script_lines.specs.Members.{change_number}
use Rattle.exchange_messages.specs.Meanings.{Meaning, formed_change, refused, sets_budget}
use Rattle.exchange_messages.specs.Wants.{change_meant}
use Rattle.exchange_messages.specs.declared.refusal.Refusal.{Refusal}
use Rattle.exchange_messages.specs.declared.wanted.ChangeTexts.{ChangeTexts}

-- a meaning is that of a change
pub record IsChange (campaigns : List Campaign) (meaning : Meaning) (x : BudgetChange) : Type 0 where
  pub seat : List ℕ
  pub cid : List ℕ
  pub change : ℕ
  pub budget : Units
  pub meant : meaning ≡ sets_budget seat cid change budget
  pub is : x ≡ change_of (pair_place campaigns seat cid) change budget

some_by : (campaigns : List Campaign) (seat cid : List ℕ) (number : Option ℕ) (budget : Result Units PriceFault) (x : BudgetChange)
    → Some x ≡ change_by (pair_place campaigns seat cid) number budget → IsChange campaigns (formed_change seat cid number budget) x
some_by campaigns seat cid (Some n) (Ok u) x is = record { seat = seat; cid = cid; change = n; budget = u; meant = refl; is = cc is }
some_by campaigns seat cid number budget x is = absurd (cc is)

none_by : (campaign : ℕ) (seat cid : List ℕ) (number : Option ℕ) (budget : Result Units PriceFault)
    → None ≡ change_by campaign number budget → formed_change seat cid number budget ≡ refused Refusal.Call
none_by campaign seat cid (Some n) (Ok u) is = absurd (cc is)
none_by campaign seat cid number budget is = refl

module _ (campaigns : List Campaign) (texts : ChangeTexts) (seat cid number budget : List ℕ) (first : seat ≡ cow_str_bytes texts.seat) (second : cid ≡ cow_str_bytes texts.cid) (third : number ≡ cow_str_bytes texts.number) (fourth : budget ≡ cow_str_bytes texts.budget) where
  same_named : change_named campaigns seat cid number budget ≡ change_named campaigns (cow_str_bytes texts.seat) (cow_str_bytes texts.cid) (cow_str_bytes texts.number) (cow_str_bytes texts.budget)
  same_named = λ i. change_named campaigns (first i) (second i) (third i) (fourth i)

  -- texts that name a change
  pub change_is : (x : BudgetChange) → Some x ≡ change_named campaigns seat cid number budget → IsChange campaigns (change_meant texts) x
  change_is x is = some_by campaigns (cow_str_bytes texts.seat) (cow_str_bytes texts.cid) (change_number (cow_str_bytes texts.number)) (budget_of (cow_str_bytes texts.budget)) x (is ∙ same_named)

  -- texts of another form
  pub no_change : None ≡ change_named campaigns seat cid number budget → change_meant texts ≡ refused Refusal.Call
  no_change is =
      none_by (pair_place campaigns (cow_str_bytes texts.seat) (cow_str_bytes texts.cid)) (cow_str_bytes texts.seat) (cow_str_bytes texts.cid) (change_number (cow_str_bytes texts.number)) (budget_of (cow_str_bytes texts.budget)) (is ∙ same_named)
