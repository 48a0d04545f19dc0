-- The line of a day's revenue guarantee, by the day's history. This project's own.
use Rattle.std.specs.Prelude.{◌≡◌, ◌≤◌, ℕ, List, IsTrue, length}
use Rattle.bid_record.specs.declared.record.Record.{Record}
use Rattle.day_rules.specs.declared.entry.Entry.{Entry}
use Rattle.deal_floor.specs.declared.roster.Roster.{Roster}
use Rattle.dual_cert.specs.Assignments.{Assignment}
use Rattle.ratio_law.specs.Line.{ratio_line}
use Rattle.ratio_law.specs.SmallDays.{IsBoundOf, committed_of, greatest_of, is_small, left_of, right_of}
use Rattle.ratio_law.specs.declared.sides.Ratio.{Ratio}
use Rattle.served_record.specs.Served.{IsRecordOf, earned_in}

-- the numbers of the guarantee are those of the record of a roster's day with this history
pub record HasNumbers (r : Roster) (history : List Entry) (x : Ratio) : Type 0 where
  pub day : Record
  pub served : IsRecordOf r.day r.campaigns history day
  pub small : x.small ≡ is_small day
  pub committed : x.committed ≡ committed_of day
  pub greatest : x.greatest ≡ greatest_of day
  pub imps : x.imps ≡ length day.imps
  pub bound : IsBoundOf day x.bound
  pub left : x.left ≡ left_of x.bound
  pub right : x.right ≡ right_of x.committed x.greatest x.imps
  -- On a small day the left side is at most the right one.
  pub holds : IsTrue x.small → x.left ≤ x.right
  -- No assignment of the day's impressions earns more than the bound,
  pub hindsight : (picks : Assignment) → earned_in picks r.campaigns history ≤ x.bound
  -- so that on a small day what any of them earns, times 9,999 and a full discount, is at most the right side.
  pub guarantee : IsTrue x.small → (picks : Assignment) → left_of (earned_in picks r.campaigns history) ≤ x.right

-- these bytes are the line of those numbers
pub record IsGuarantee (r : Roster) (history : List Entry) (out : List ℕ) : Type 0 where
  pub numbers : Ratio
  pub are_its : HasNumbers r history numbers
  pub spelled : out ≡ ratio_line numbers

-- a history has one such line
abbrev pub HasOneGuarantee : Type 0
HasOneGuarantee = (r : Roster) (history : List Entry) (out other : List ℕ) → IsGuarantee r history out → IsGuarantee r history other → out ≡ other
