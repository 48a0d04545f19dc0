-- The records so far were added, and nothing was written.
use Rattle.std.proofs.Common.{◌≡◌, ◌+◌, ◌-◌, ◌^◌, ◌≤◌, ℕ, List, Some, length}
use Rattle.std.specs.List.{sum_by}
use Rattle.day_journal.specs.Openings.{OnlyReads}
use Rattle.day_rules.specs.DayState.{IsDay}
use Rattle.day_machine.specs.Held.{longest_record}
use Rattle.adx_desk.specs.Loading.{HasRead}
use Rattle.adx_desk.proofs.loading.read_records.Given as goal

abbrev pub invariant-records : goal.invariant-records
invariant-records g l = record {
  terms : l.day.terms ≡ l.fn.day.terms;
  legal : IsDay l.fn.day.terms l.day.history;
  read : (digest file : List ℕ) → g.D.Disk.reads l.fn.disk ≡ Some file → HasRead digest file l.fn.opening l.fn.day.history → HasRead digest file l.opening l.day.history;
  only : OnlyReads g.D.Disk.reads g.D.Disk.may_leave g.D.Disk.moment g.D.Disk.left_since l.fn.disk l.disk;
  count : g.D.Disk.faults l.disk ≡ g.D.Disk.faults l.fn.disk;
  format : l.opening.format ≡ l.fn.opening.format;
  lasts : g.D.Disk.lasts l.fn.disk l.disk;
  moved : l.opening.window.at + sum_by longest_record l.fn.day.history ≤ l.fn.opening.window.at + sum_by longest_record l.day.history;
}

abbrev pub decreases-records : goal.decreases-records
decreases-records g l = 2 ^ 32 - length l.day.history
