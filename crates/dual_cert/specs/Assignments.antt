-- What an assignment of impressions earns: the hindsight problem of Mehta, Saberi, Vazirani and
-- Vazirani, "AdWords and Generalized Online Matching", JACM 2007.
use Rattle.std.specs.Prelude.{ℕ, min, List, map, ◌==◌, if◌then◌else◌, Option, Some, None, slice_index_or}
use Rattle.std.specs.List.{sum_by, enumerate_from}
use Rattle.adx_units.specs.Money.{units}
use Rattle.bid_record.specs.declared.record.Record.{Record}
use Rattle.bid_record.specs.declared.rows.CampaignRow.{CampaignRow}
use Rattle.bid_record.specs.declared.rows.Charge.{Charge}
use Rattle.bid_record.specs.declared.rows.ImpRow.{ImpRow}

-- an impression is all that was offered for it
abbrev pub Impression : Type 0
Impression = List Charge

-- the impressions of a record's rows, in their order
abbrev pub impressions_of : List ImpRow → List Impression
impressions_of rows = map (λ (row : ImpRow). row.offers) rows

-- those of a record
abbrev pub impressions : Record → List Impression
impressions r = impressions_of r.imps

-- an assignment picks at most one offer of each impression: the place of the picked one, by the
-- impression's number; a place past the last offer picks none
abbrev pub Assignment : Type 0
Assignment = ℕ → Option ℕ

-- an offer that charges nobody
abbrev pub no_charge : Charge
no_charge = record { campaign = 0; charge = units 0 }

-- what an offer charges a campaign
abbrev pub charge_for : ℕ → Charge → ℕ
charge_for campaign o = if o.campaign == campaign then o.charge.0 else 0

-- what the picked offer of an impression charges a campaign
abbrev pub picked_charge : ℕ → Impression → Option ℕ → ℕ
picked_charge campaign offers None = 0
picked_charge campaign offers (Some place) = charge_for campaign (slice_index_or offers place no_charge)

-- the charges that an assignment gives to a campaign
-- Example: the places 1, 0, 0 give 100 to campaign 0 and 300 to campaign 1.
abbrev pub assigned : Assignment → List Impression → ℕ → ℕ
assigned picks imps campaign =
    sum_by (λ (p : ℕ × Impression). picked_charge campaign p.1 (picks p.0)) (enumerate_from 0 imps)

-- what an assignment earns: for each campaign the lesser of its budget and its charges
-- Example: min(100, 100) + min(10,000, 300) = 400.
abbrev pub earned : Assignment → Record → ℕ
earned picks r =
    sum_by (λ (p : ℕ × CampaignRow). min p.1.budget.0 (assigned picks (impressions r) p.0)) (enumerate_from 0 r.campaigns)
