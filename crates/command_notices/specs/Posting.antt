-- How a run of posting ended: what became of each notice, of the link and of the disk. This project's own.
use Rattle.std.specs.Prelude.{◌≡◌, ◌⊎◌, ℕ, ◌≤◌, ◌<◌, List, [], length, take}
use Rattle.day_journal.specs.declared.disk.Disk as disk
use Rattle.adx_links.specs.declared.link.Link as links
use Rattle.adx_desk.specs.Calls.{DeskGivesUp}
use Rattle.adx_desk.specs.Openings.{HasDiskCause}
use Rattle.adx_desk.specs.Rosters.{desk_terms}
use Rattle.adx_desk.specs.declared.fault.DeskFault.{DeskFault}
use Rattle.day_rules.specs.declared.entry.Entry.{Entry}
use Rattle.deal_floor.specs.declared.roster.Roster.{Roster}
use Rattle.history_runs.specs.Histories.{KeepsHistory}
use Rattle.outbox.specs.Following.{OutboxState}
use Rattle.outbox.specs.Posts.{posts_of}
use Rattle.outbox.specs.Pumping.{AreTried, left_of}
use Rattle.outbox.specs.declared.outbox.TheConstants.{ANSWER_LIMIT}
use Rattle.outbox.specs.declared.post.Post.{Post}
use Rattle.outbox.specs.declared.report.Outcome.{Outcome}
use Rattle.command_notices.specs.Rosters.{BeginsWithRoster, LacksRoster}
use Rattle.command_notices.specs.Statuses.{unopened_end}
use Rattle.command_notices.specs.declared.ending.PostEnd.{PostEnd}

module _ {L : Type 0} (l : links.Ghosts L) where
  -- The first of these posts were tried over the link, each once and in order, with these outcomes.
  -- Example: two posts, of which the first is answered 204 and the second 500: the run ends pending, with the
  -- second left.
  pub record Tries (posts : List Post) (link link_now : L) (outcomes : List Outcome) : Type 0 where
    pub few : length outcomes ≤ length posts
    pub tried : AreTried l.exchanges l.course l.faults l.place ANSWER_LIMIT (take (length outcomes) posts) outcomes link link_now

  -- All of them were, and these stay pending.
  pub record TriesAll (posts : List Post) (link link_now : L) (left : List Post) : Type 0 where
    pub outcomes : List Outcome
    pub all : length outcomes ≡ length posts
    pub tries : Tries posts link link_now outcomes
    pub left_is : left ≡ left_of posts outcomes

  -- what came of the posts, by how a run ended after its opening
  abbrev pub TriesSo : List Post → L → L → PostEnd → Type 0
  TriesSo posts link link_now PostEnd.Delivered = TriesAll posts link link_now []
  TriesSo posts link link_now PostEnd.Pending = (left : List Post) × (0 < length left) × TriesAll posts link link_now left
  TriesSo posts link link_now (PostEnd.Refused why) = ⊥
  TriesSo posts link link_now PostEnd.DiskFault = ⊥
  TriesSo posts link link_now (PostEnd.NoHistory why) = ⊥
  TriesSo posts link link_now PostEnd.OutOfMemory = (outcomes : List Outcome) × Tries posts link link_now outcomes

  -- the same of the posts that a history asks for
  abbrev pub TriesPosts : List Entry → L → L → PostEnd → Type 0
  TriesPosts history = TriesSo (posts_of history)

  -- and of those that an outbox has pending
  abbrev pub PumpsOnce : OutboxState → L → L → PostEnd → Type 0
  PumpsOnce box = TriesSo box.pending

  module _ {D : Type 0} (d : disk.Ghosts D) where
    -- The roster's day was opened with a history, whose posts were tried; or opening it gave up for a cause, and the link
    -- is as it was.
    abbrev pub EndsDay : Roster → (disk disk_now : D) → (link link_now : L) → PostEnd → Type 0
    EndsDay roster disk disk_now link link_now end =
        ((history : List Entry) × KeepsHistory d roster history disk disk_now × TriesPosts history link link_now end)
        ⊎ ((why : DeskFault) × (end ≡ unopened_end why) × (link_now ≡ link)
        × DeskGivesUp d (desk_terms roster) disk disk_now why × HasDiskCause (d.faults disk) (d.faults disk_now) why)

    -- disk and link are as they were
    abbrev pub IsUntouched : (disk disk_now : D) → (link link_now : L) → Type 0
    IsUntouched disk disk_now link link_now = (disk_now ≡ disk) × (link_now ≡ link)

    -- the document begins with a roster, whose day ended so
    abbrev pub EndsOpened : List ℕ → (disk disk_now : D) → (link link_now : L) → PostEnd → Type 0
    EndsOpened document disk disk_now link link_now end =
        (roster : Roster) × BeginsWithRoster document roster × EndsDay roster disk disk_now link link_now end

    -- How a run of posting ended over a document, a disk and a link.
    abbrev pub EndsPosting : List ℕ → (disk disk_now : D) → (link link_now : L) → PostEnd → Type 0
    EndsPosting document disk disk_now link link_now PostEnd.Delivered = EndsOpened document disk disk_now link link_now PostEnd.Delivered
    EndsPosting document disk disk_now link link_now PostEnd.Pending = EndsOpened document disk disk_now link link_now PostEnd.Pending
    EndsPosting document disk disk_now link link_now (PostEnd.Refused why) = LacksRoster document why × IsUntouched disk disk_now link link_now
    EndsPosting document disk disk_now link link_now PostEnd.DiskFault = EndsOpened document disk disk_now link link_now PostEnd.DiskFault
    EndsPosting document disk disk_now link link_now (PostEnd.NoHistory why) =
        EndsOpened document disk disk_now link link_now (PostEnd.NoHistory why)
    EndsPosting document disk disk_now link link_now PostEnd.OutOfMemory =
        IsUntouched disk disk_now link link_now ⊎ EndsOpened document disk disk_now link link_now PostEnd.OutOfMemory
