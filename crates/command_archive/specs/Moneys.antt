-- The money of each campaign as it is added up. Only private clauses cite this file.
use Rattle.std.specs.Prelude.{◌≡◌, ℕ, ◌<◌, ◌≤◌, List, length, slice_index, Bool, Option, Some, None}
use Rattle.bid_record.specs.declared.rows.Charge.{Charge}
use Rattle.bid_record.specs.declared.rows.End.{End}
use Rattle.bid_record.specs.declared.rows.ImpRow.{ImpRow}
use Rattle.dual_cert.specs.Assignments.{charge_for}
use Rattle.command_archive.specs.Rows.{is_billed, is_committed, money_of}
use Rattle.command_archive.specs.declared.money.Counting.{Counting}
use Rattle.command_archive.specs.declared.money.Moneys.{Moneys}

-- an award with this end counts
abbrev pub counts_by : Counting → Option End → Bool
counts_by Counting.Billed end = is_billed end
counts_by Counting.Committed end = is_committed end

-- what is charged to a campaign, where anything is
abbrev pub charged : ℕ → Option Charge → ℕ
charged campaign None = 0
charged campaign (Some offer) = charge_for campaign offer

-- each is at most this
abbrev pub AreFew : ℕ → List ℕ → Type 0
AreFew most moneys = (campaign : ℕ) → campaign < length moneys → slice_index moneys campaign ≤ most

-- they are the money of each of so many campaigns in awards that count
pub record AreMoney (counts : Option End → Bool) (campaigns : ℕ) (imps : List ImpRow) (moneys : List ℕ) : Type 0 where
  pub len : length moneys ≡ campaigns
  pub value : (campaign : ℕ) → campaign < campaigns → slice_index moneys campaign ≡ money_of counts imps campaign

-- the same of both kinds
pub record HasMoneys (campaigns : ℕ) (imps : List ImpRow) (m : Moneys) : Type 0 where
  pub committed : AreMoney is_committed campaigns imps m.committed.items
  pub billed : AreMoney is_billed campaigns imps m.billed.items
