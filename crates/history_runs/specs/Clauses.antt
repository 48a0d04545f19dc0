-- What the clauses of a day's calls say in few words: the relations of other files, over a buffer's line, and over a disk
-- with its ghosts. Only private clauses cite this file.
use Rattle.std.specs.Prelude.{◌≡◌, ◌≤◌, ℕ, List, length}
use Rattle.adx_desk.specs.Desks.{OnDisk}
use Rattle.adx_io.specs.Lines.{Keeps}
use Rattle.day_journal.specs.declared.disk.Disk as disks
use Rattle.adx_io.specs.declared.line_buffer.LineBuffer.{LineBuffer}
use Rattle.day_rules.specs.Replies.{Call, notice}
use Rattle.deal_floor.specs.declared.campaign.Campaign.{Campaign}
use Rattle.deal_floor.specs.declared.roster.Roster.{Roster}
use Rattle.adx_desk.specs.Answering.{LeavesCall}
use Rattle.script_lines.specs.declared.notice.Notice.{Notice}
use Rattle.history_runs.specs.Answering.{AnswersCall, AnswersTo, LeavesUnwritten}
use Rattle.command_runs.specs.Limits.{line_limit}

-- this is a line's text, within the limit of a line
abbrev pub IsShort : List ℕ → List ℕ → Type 0
IsShort line text = (text ≡ line) × (length text ≤ line_limit)

-- this is the line that a buffer keeps, or a longer one of which it tells that it is longer than a line may be
abbrev pub IsKept : LineBuffer → List ℕ → Type 0
IsKept buffer line = Keeps line_limit buffer.overlong buffer.line line

-- so it is of the line that a buffer keeps
abbrev pub OfLine : LineBuffer → (List ℕ → Type 0) → Type 0
OfLine buffer P = (line : List ℕ) → IsKept buffer line → P line

-- the call of a notice's line
abbrev pub notice_of : Notice → Call
notice_of n = notice n.kind n.auction n.award

module _ {D : Type 0} (d : disks.Ghosts D) where
  -- a call was answered on a desk, or given up for want of memory
  abbrev pub CallAnswered : List Campaign → OnDisk D → OnDisk D → Call → List ℕ → List ℕ → Type 0
  CallAnswered campaigns old new call out out_now = AnswersCall d.faults d.may_leave d.moment d.left_since campaigns old new call out out_now

  abbrev pub CallLeft : OnDisk D → OnDisk D → Call → Type 0
  CallLeft old new call = LeavesCall d.faults d.may_leave d.moment d.left_since old new call

  -- a line of which this is known was
  abbrev pub LineAnswered : Roster → OnDisk D → OnDisk D → ℕ → (List ℕ → Type 0) → List ℕ → List ℕ → Type 0
  LineAnswered r old new number Known out out_now = AnswersTo d.faults d.may_leave d.moment d.left_since r old new number Known out out_now

  abbrev pub LineLeft : Roster → OnDisk D → OnDisk D → (List ℕ → Type 0) → Type 0
  LineLeft r old new Known = LeavesUnwritten d.faults d.may_leave d.moment d.left_since r old new Known
