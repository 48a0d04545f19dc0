-- What a record takes of a day's roster and of its history, and the histories that the day may have. This project's own.
use Rattle.std.specs.Prelude.{ℕ, ◌≤◌, ◌==◌, List, length, map, All, AllPairs, IsTrue, Some, Bool, false}
use Rattle.std.specs.List.{count_by, enumerate_from}
use Rattle.std.specs.Option.{option_map_or}
use Rattle.adx_units.specs.declared.units.Units.{Units}
use Rattle.deal_floor.specs.declared.campaign.Campaign.{Campaign}
use Rattle.day_rules.specs.declared.entry.Entry.{Entry}
use Rattle.day_rules.specs.declared.limits.DayLimits.{DayLimits}
use Rattle.day_rules.specs.DayState.{IsDay}
use Rattle.day_rules.specs.Entries.{budgeted}
use Rattle.day_rules.specs.Terms.{Terms, budget_after, terms_of}
use Rattle.formats.specs.Days.{is_day}
use Rattle.bid_record.specs.declared.rows.CampaignRow.{CampaignRow}
use Rattle.bid_record.specs.Records.{Differ, IsCampaign}

-- the entry changes the campaign's budget
abbrev pub changes_budget : ℕ → Entry → Bool
changes_budget campaign e = option_map_or (λ x. campaign == x.campaign) (budgeted e) false

-- how often a history changed a campaign's budget
abbrev pub changes_in : List Entry → ℕ → ℕ
changes_in history campaign = count_by (changes_budget campaign) history

-- a campaign of a roster, beside its place, as the record of a history has it: its budget at the history's end, and how
-- often that changed
abbrev pub campaign_row : List Entry → ℕ × Campaign → CampaignRow
campaign_row history p = record {
  seat = p.1.seat;
  cid = p.1.cid;
  budget = budget_after history (p.0, p.1.budget);
  changes = Some (changes_in history p.0);
}

-- and all of them
abbrev pub campaign_rows : List Campaign → List Entry → List CampaignRow
campaign_rows campaigns history = map (campaign_row history) (enumerate_from 0 campaigns)

-- the first lines of a record: a date, and 1 to 1,024 campaigns that differ
pub record IsHeading (day : List ℕ) (campaigns : List CampaignRow) : Type 0 where
  pub dated : IsTrue (is_day day)
  pub some_campaign : 1 ≤ length campaigns
  pub few_campaigns : length campaigns ≤ 1024
  pub each_campaign : All (IsCampaign 2) campaigns
  pub distinct : AllPairs Differ campaigns

-- the budgets with which a roster's day is opened
abbrev pub budgets_of : List Campaign → List Units
budgets_of campaigns = map (λ c. c.budget) campaigns

-- the entries are a legal history of some day
pub record IsServed (history : List Entry) : Type 0 where
  pub terms : Terms
  pub is_day : IsDay terms history

-- the entries are a legal history of a day that was opened with the budgets of these campaigns, within some limits
pub record IsHistoryOf (campaigns : List Campaign) (history : List Entry) : Type 0 where
  pub limits : DayLimits
  pub is_day : IsDay (terms_of (budgets_of campaigns) limits) history
