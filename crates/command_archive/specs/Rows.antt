-- The archive's rows of a record. This project's own.
use Rattle.std.specs.Prelude.{ℕ, List, map, length, Bool, true, false, Option, Some, None, if◌then◌else◌}
use Rattle.std.specs.List.{sum_by, enumerate_from}
use Rattle.bid_record.specs.declared.record.Record.{Record}
use Rattle.bid_record.specs.declared.rows.CampaignRow.{CampaignRow}
use Rattle.bid_record.specs.declared.rows.End.{End}
use Rattle.bid_record.specs.declared.rows.End.TheVariants.{Live, Billed, Lost, Expired}
use Rattle.bid_record.specs.declared.rows.ImpRow.{ImpRow}
use Rattle.dual_cert.specs.Assignments.{picked_charge}
use Rattle.day_archive.specs.declared.row.DayRow.{DayRow}

-- an award that is billed
abbrev pub is_billed : Option End → Bool
is_billed None = false
is_billed (Some Live) = false
is_billed (Some Billed) = true
is_billed (Some Lost) = false
is_billed (Some Expired) = false

-- an award that is billed or open
abbrev pub is_committed : Option End → Bool
is_committed None = false
is_committed (Some Live) = true
is_committed (Some Billed) = true
is_committed (Some Lost) = false
is_committed (Some Expired) = false

-- what an impression's award charges a campaign, where its end counts
abbrev pub money_in : (Option End → Bool) → ℕ → ImpRow → ℕ
money_in counts campaign row = if counts row.end then picked_charge campaign row.offers row.chosen else 0

-- the same over all impressions
abbrev pub money_of : (Option End → Bool) → List ImpRow → ℕ → ℕ
money_of counts imps campaign = sum_by (money_in counts campaign) imps

-- a campaign's row, beside the campaign's place
abbrev pub row_of : Record → ℕ → ℕ × CampaignRow → DayRow
row_of r bound p = record {
  day = r.day;
  seat = p.1.seat;
  cid = p.1.cid;
  budget = p.1.budget;
  committed = money_of is_committed r.imps p.0;
  billed = money_of is_billed r.imps p.0;
  bound = bound;
  imps = Some (length r.imps);
}

-- the rows of a record, in the order of its campaigns
abbrev pub rows_of : Record → ℕ → List DayRow
rows_of r bound = map (row_of r bound) (enumerate_from 0 r.campaigns)
