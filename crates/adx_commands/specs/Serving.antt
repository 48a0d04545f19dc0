-- How serving connections as an exchange ended, over the objects that were given. This project's own.
use Rattle.std.specs.Prelude.{◌≡◌, ◌≢◌, ◌⊎◌, ℕ, List, length, All, Option, Some, None, is_some, Result, Ok, Err}
use Rattle.adx_links.specs.Told.{told_by}
use Rattle.adx_links.specs.declared.acceptor.Acceptor as acceptors
use Rattle.adx_desk.specs.Calls.{DeskGivesUp}
use Rattle.adx_desk.specs.Desks.{OnDisk}
use Rattle.adx_desk.specs.Openings.{HasDiskCause}
use Rattle.adx_desk.specs.Rosters.{desk_terms}
use Rattle.adx_desk.specs.declared.fault.DeskFault.{DeskFault}
use Rattle.day_journal.specs.declared.disk.Disk as disks
use Rattle.adx_io.specs.declared.sink.Sink as sinks
use Rattle.adx_io.specs.declared.source.Source as sources
use Rattle.adx_links.specs.declared.link.Link as links
use Rattle.deal_floor.specs.declared.roster.Roster.{Roster}
use Rattle.exchange_serving.specs.Served.{ServesDay}
use Rattle.exchange_serving.specs.Unserved.{LeavesPost}
use Rattle.exchange_serving.specs.declared.ending.Ending.{Ending}
use Rattle.exchange_serving.specs.declared.leaving.Served.{Served as Left}
use Rattle.exchange_serving.specs.declared.leaving.Unserved.{Unserved}
use Rattle.fan_out.specs.declared.lane.Lane.{Lane}
use Rattle.history_runs.specs.Histories.{KeepsHistory}
use Rattle.command_notices.specs.Rosters.{BeginsWithRoster, LacksRoster}
use Rattle.adx_commands.specs.Lanes.{AreWorkersOver, Fit, links_in}
use Rattle.adx_commands.specs.Served.{EndsAtOnce}
use Rattle.adx_commands.specs.declared.not_begun.NotBegun.{NotBegun}
use Rattle.adx_commands.specs.declared.objects.Objects.{Objects}
use Rattle.adx_commands.specs.declared.served.Served.{Served}

-- the exit status of a run that served, and of one whose day wasn't opened
abbrev pub status_by : Ending → ℕ
status_by Ending.Done = 0
status_by Ending.AcceptorFault = 4
status_by Ending.DiskFault = 6
status_by Ending.Pending = 11
status_by Ending.OutOfMemory = 12

-- the status of a day that a fault kept from being opened
abbrev pub status_by_fault : DeskFault → ℕ
status_by_fault DeskFault.DiskFault = 6
status_by_fault (DeskFault.JournalFull size) = 7
status_by_fault (DeskFault.BadEntry at) = 7
status_by_fault (DeskFault.OtherRoster kept) = 7
status_by_fault (DeskFault.NotAJournal at) = 7
status_by_fault (DeskFault.BadLength at) = 7
status_by_fault DeskFault.OutOfMemory = 12

-- The document begins with a roster, there are so many lists of links, and each has one for each of its bidders.
pub record FitsServing {L : Type 0} (document : List ℕ) (workers : ℕ) (lists : List (List L)) : Type 0 where
  pub roster : Roster
  pub begins : BeginsWithRoster document roster
  pub counted : length lists ≡ workers
  pub each : All (Fit roster.bidders) lists

-- What is said of a document that isn't served: why its first line is no roster; nothing only where there are more or fewer
-- lists of links than workers, or the document begins with a roster, whose bidders the links don't fit.
abbrev pub SaysUnfit : {L : Type 0} → List ℕ → ℕ → List (List L) → Option NotBegun → Type 0
SaysUnfit document workers lists None = (length lists ≢ workers) ⊎ ((roster : Roster) × BeginsWithRoster document roster)
SaysUnfit document workers lists (Some (NotBegun.Line why)) = LacksRoster document why
SaysUnfit document workers lists (Some (NotBegun.Journal fault)) = ⊥

-- this was given back, with this status, and for this the run didn't begin; the post link always is given back
pub record GivesBack {A D L : Type 0} (status : ℕ) (acceptor : Option A) (disk : Option D) (post : L) (why : Option NotBegun)
    (back : Served A D L) : Type 0 where
  pub status_is : back.status ≡ status
  pub acceptor_is : back.acceptor ≡ acceptor
  pub disk_is : back.disk ≡ disk
  pub post_is : back.post ≡ Some post
  pub why_is : back.why ≡ why

-- What is given back of a run that served, and of one that no desk was left for. Private clauses alone cite this.
abbrev pub GivesServed : {A D L : Type 0} → Result (Left A D L) (Unserved A D L) → Served A D L → Type 0
GivesServed (Ok left) back =
    GivesBack (status_by left.ending) (Some left.acceptor) (Some left.disk) left.post None back × (back.workers ≡ left.workers)
GivesServed (Err (Unserved.Unbegun desk acceptor lanes post)) back = GivesBack 12 (Some acceptor) (Some desk.disk) post None back
GivesServed (Err (Unserved.Unshared acceptor lanes post)) back = GivesBack 12 (Some acceptor) None post None back
GivesServed (Err (Unserved.Lost post)) back = GivesBack 12 None None post None back

-- What serving a roster's day leaves, over an acceptor, a disk and a post link, by a worker for each of these lists of lanes.
module _ {A I O D L : Type 0} (a : acceptors.Ghosts A I O) (s : sources.Ghosts I) (k : sinks.Ghosts O) (d : disks.Ghosts D)
    (l : links.Ghosts L) (IsMoment : ℕ → Type 0) (acceptor : A) (disk : D) (post : L) (back : Served A D L) (roster : Roster) where
  -- The day was opened on the disk with a history, and the acceptor's connections were served on it.
  pub record ServesOpened (workers : List (List (Lane L))) : Type 0 where
    pub opened : OnDisk D
    pub opens : KeepsHistory d roster opened.desk.history disk opened.disk
    pub since : opened.since ≡ record { count = d.faults disk; tells = is_some (d.reads disk) }
    pub left : Left A D L
    pub serves : ServesDay d l IsMoment roster workers opened left.disk (told_by a s k acceptor) (told_by a s k left.acceptor) post left.post left.ending
    -- as many workers shared the connections as there are lists of lanes, unless memory was refused for them
    pub as_many : left.ending ≢ Ending.OutOfMemory → back.workers ≡ length workers
    pub gives : GivesBack (status_by left.ending) (Some left.acceptor) (Some left.disk) left.post None back

  -- The day was opened so, and memory was refused before a worker began: all is given back, the disk as the opening left
  -- it; or all but the disk. Or it was refused for the workers: the post link alone is given back, over which posts of a
  -- history that begins with the opened one were tried.
  pub data LosesDay : Type 0 where
    all_left : (opened : OnDisk D) → KeepsHistory d roster opened.desk.history disk opened.disk
        → GivesBack 12 (Some acceptor) (Some opened.disk) post None back → LosesDay
    no_disk_left : GivesBack 12 (Some acceptor) None post None back → LosesDay
    post_left : (opened : OnDisk D) → KeepsHistory d roster opened.desk.history disk opened.disk
        → (post_now : L) → LeavesPost l roster opened.desk.history post post_now → GivesBack 12 None None post_now None back → LosesDay

  -- The day wasn't opened for a cause; acceptor and post link are as they were.
  pub record OpensNot : Type 0 where
    pub why : DeskFault
    pub disk_now : D
    pub gives_up : DeskGivesUp d (desk_terms roster) disk disk_now why
    pub cause : HasDiskCause (d.faults disk) (d.faults disk_now) why
    pub gives : GivesBack (status_by_fault why) (Some acceptor) (Some disk_now) post (Some (NotBegun.Journal why)) back

  -- it served; or the day wasn't opened; or memory was refused once it was
  abbrev pub EndsOpening : List (List (Lane L)) → Type 0
  EndsOpening workers = ServesOpened workers ⊎ (OpensNot ⊎ LosesDay)

module _ {A I O D L : Type 0} (a : acceptors.Ghosts A I O) (s : sources.Ghosts I) (k : sinks.Ghosts O) (d : disks.Ghosts D)
    (l : links.Ghosts L) (IsMoment : ℕ → Type 0) (given : Objects A D L) (back : Served A D L) where
  -- each worker has lanes to a roster's bidders over its own links, and the roster's day was served by them
  pub record ServesRoster (roster : Roster) : Type 0 where
    pub workers : List (List (Lane L))
    pub lanes : AreWorkersOver roster.bidders (links_in given.links.items) workers
    pub ends : EndsOpening a s k d l IsMoment given.acceptor given.disk given.post back roster workers

  -- How a run ended: the links fit the roster that the document begins with, and its day was served so; or they don't fit;
  -- or memory was refused before.
  pub data RunsServing (document : List ℕ) (workers : ℕ) : Type 0 where
    serving : (fits : FitsServing document workers (links_in given.links.items)) → ServesRoster fits.roster → RunsServing document workers
    unfit : (FitsServing document workers (links_in given.links.items) → ⊥) → EndsAtOnce given back 3 → SaysUnfit document workers (links_in given.links.items) back.why
        → RunsServing document workers
    unserved : EndsAtOnce given back 12 → RunsServing document workers

  -- The same of a roster, by whether each list of links fits it. A private clause alone cites this.
  abbrev pub EndsRoster : Roster → Type 0
  EndsRoster roster =
      ServesRoster roster
      ⊎ (((All (Fit roster.bidders) (links_in given.links.items) → ⊥) × EndsAtOnce given back 3 × (back.why ≡ None)) ⊎ EndsAtOnce given back 12)
