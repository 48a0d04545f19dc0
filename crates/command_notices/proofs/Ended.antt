-- How a run of posting ends, from what came of its day.
use Rattle.std.proofs.Common.{◌≡◌, inl, inr, List, ℕ, Result, Ok, Err}
use Rattle.day_journal.specs.declared.disk.Disk as disk
use Rattle.adx_links.specs.declared.link.Link as links
use Rattle.adx_desk.specs.declared.fault.DeskFault.{DeskFault}
use Rattle.deal_floor.specs.declared.roster.Roster.{Roster}
use Rattle.script_lines.specs.declared.refusal.RosterLineFault.{RosterLineFault}
use Rattle.script_lines.specs.declared.refusal.RosterRefusal.{RosterRefusal}
use Rattle.script_lines.specs.Rosters.{FindsRoster}
use Rattle.command_runs.specs.FirstLines.{IsShortLine}
use Rattle.command_notices.specs.Posting.{EndsDay, EndsPosting}
use Rattle.command_notices.specs.Rosters.{BeginsWithRoster, FindsFirst}
use Rattle.command_notices.specs.Statuses.{unopened_end}
use Rattle.command_notices.specs.declared.ending.PostEnd.{PostEnd}

-- what is found of a document by its first line
pub found_first : (document line : List ℕ) (r : Result Roster RosterLineFault) → IsShortLine document line → FindsRoster line r → FindsFirst document r
found_first document line (Ok roster) is found = (line, is, found)
found_first document line (Err (RosterLineFault.Refused why)) is refuses = inl (line, is, refuses)
found_first document line (Err RosterLineFault.OutOfMemory) is none = tt

-- no cause refuses a roster that was read
no_refusal : (why : RosterRefusal) (cause : DeskFault) → PostEnd.Refused why ≡ unopened_end cause → ⊥
no_refusal why DeskFault.DiskFault e = cc e
no_refusal why (DeskFault.JournalFull size) e = cc e
no_refusal why (DeskFault.BadEntry at) e = cc e
no_refusal why (DeskFault.OtherRoster kept) e = cc e
no_refusal why (DeskFault.NotAJournal at) e = cc e
no_refusal why (DeskFault.BadLength at) e = cc e
no_refusal why DeskFault.OutOfMemory e = cc e

module _ {L D : Type 0} (l : links.Ghosts L) (d : disk.Ghosts D) (document : List ℕ) (roster : Roster) (old new : D) (link link_now : L) where
  -- the day of the document's roster ended so
  pub ends_posting : (end : PostEnd) → BeginsWithRoster document roster → EndsDay l d roster old new link link_now end → EndsPosting l d document old new link link_now end
  ends_posting PostEnd.Delivered begins ends = (roster, begins, ends)
  ends_posting PostEnd.Pending begins ends = (roster, begins, ends)
  ends_posting (PostEnd.Refused why) begins (inl (history, keeps, tries)) = absurd tries
  ends_posting (PostEnd.Refused why) begins (inr (cause, is, same, gives_up, caused)) = absurd (no_refusal why cause is)
  ends_posting PostEnd.DiskFault begins ends = (roster, begins, ends)
  ends_posting (PostEnd.NoHistory why) begins ends = (roster, begins, ends)
  ends_posting PostEnd.OutOfMemory begins ends = inr (roster, begins, ends)
