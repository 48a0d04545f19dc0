-- What each command that talks over the network does, and which words ask for it. This project's own.
use Rattle.std.specs.Prelude.{◌≡◌, ◌⊎◌, ℕ, List, Option, Some, None}
use Rattle.adx_links.specs.Told.{told_by}
use Rattle.adx_links.specs.declared.acceptor.Acceptor as acceptors
use Rattle.day_journal.specs.declared.disk.Disk as disks
use Rattle.adx_io.specs.declared.sink.Sink as sinks
use Rattle.adx_io.specs.declared.source.Source as sources
use Rattle.adx_links.specs.declared.link.Link as links
use Rattle.command_bidder.specs.Bidding.{EndsBid}
use Rattle.command_bidder.specs.Statuses.{status_by as status_by_bid}
use Rattle.command_bidder.specs.declared.ending.BidEnd.{BidEnd}
use Rattle.command_words.specs.Network.{IsPlainNetwork}
use Rattle.command_words.specs.NetworkTaken.{IsNetworkReadingOf}
use Rattle.command_words.specs.declared.network.NetworkCommand.{NetworkCommand}
use Rattle.command_notices.specs.Posting.{EndsPosting}
use Rattle.command_notices.specs.Statuses.{status_by as status_by_post}
use Rattle.command_notices.specs.declared.ending.PostEnd.{PostEnd}
use Rattle.adx_commands.specs.Serving.{RunsServing}
use Rattle.adx_commands.specs.Served.{EndsAtOnce, RunsUnlinked, why_no_bid, why_no_post}
use Rattle.adx_commands.specs.declared.objects.Objects.{Objects}
use Rattle.adx_commands.specs.declared.served.Served.{Served}

-- the words serve connections as an exchange by so many workers, with the roster and the journal in files, at a port
abbrev pub IsServe : List (List ℕ) → ℕ → Type 0
IsServe words workers =
    (roster : List ℕ) × (journal : List ℕ) × (port : ℕ) × IsPlainNetwork (NetworkCommand.Serve roster journal port workers) words

-- the words send the notices of a day, with the roster and the journal in files
abbrev pub IsPost : List (List ℕ) → Type 0
IsPost words = (roster : List ℕ) × (journal : List ℕ) × IsPlainNetwork (NetworkCommand.Post roster journal) words

-- the words serve a bidder's connections, with the price line in a file, at a port
abbrev pub IsBid : List (List ℕ) → Type 0
IsBid words = (prices : List ℕ) × (port : ℕ) × IsPlainNetwork (NetworkCommand.Bid prices port) words

-- the words, in whichever spelling, are read as serving connections as an exchange
abbrev pub IsReadAsServe : List (List ℕ) → Type 0
IsReadAsServe words =
    (roster : List ℕ) × (journal : List ℕ) × (port : ℕ) × (workers : ℕ)
    × IsNetworkReadingOf words (Some (NetworkCommand.Serve roster journal port workers))

-- The words don't ask for that: in plain spelling they ask for another of the commands, or they aren't read so.
abbrev pub IsNoServe : List (List ℕ) → Type 0
IsNoServe words = (IsPost words ⊎ IsBid words) ⊎ (IsReadAsServe words → ⊥)

-- the words ask for something in plain spelling
abbrev pub IsNetworkCommand : List (List ℕ) → Type 0
IsNetworkCommand words = (command : NetworkCommand) × IsPlainNetwork command words

-- The notices of the day of a document's roster were tried over the disk and the post link, by the exit status. The
-- acceptor is as it was.
pub record PostsNotices {A D L : Type 0} (l : links.Ghosts L) (d : disks.Ghosts D) (document : List ℕ)
    (given : Objects A D L) (back : Served A D L) : Type 0 where
  pub end : PostEnd
  pub told : back.status ≡ status_by_post end
  pub disk : D
  pub post : L
  pub ends : EndsPosting l d document given.disk disk given.post post end
  pub acceptor_back : back.acceptor ≡ Some given.acceptor
  pub disk_back : back.disk ≡ Some disk
  pub post_back : back.post ≡ Some post
  pub why_is : back.why ≡ why_no_post end
  pub lasts : d.lasts given.disk disk

-- The bidder of a document's price line served the acceptor's connections, by the exit status. The disk and the post
-- link are as they were.
pub record ServesBidder {A I O D L : Type 0} (a : acceptors.Ghosts A I O) (s : sources.Ghosts I) (k : sinks.Ghosts O)
    (document : List ℕ) (given : Objects A D L) (back : Served A D L) : Type 0 where
  pub end : BidEnd
  pub told : back.status ≡ status_by_bid end
  pub acceptor : A
  pub ends : EndsBid document (told_by a s k given.acceptor) (told_by a s k acceptor) end
  pub acceptor_back : back.acceptor ≡ Some acceptor
  pub disk_back : back.disk ≡ Some given.disk
  pub post_back : back.post ≡ Some given.post
  pub why_is : back.why ≡ why_no_bid end

-- what the two commands do, by the links that they are given
abbrev pub RunsPost : {A D L : Type 0} → links.Ghosts L → disks.Ghosts D → List ℕ → Objects A D L → Served A D L → Type 0
RunsPost l d document given back = RunsUnlinked given back (PostsNotices l d document given back)

-- what `bid` does: it serves the bidder of a price line, or can't begin
abbrev pub RunsBid : {A I O D L : Type 0} → acceptors.Ghosts A I O → sources.Ghosts I → sinks.Ghosts O
    → List ℕ → Objects A D L → Served A D L → Type 0
RunsBid a s k document given back = RunsUnlinked given back (ServesBidder a s k document given back)

-- What a run comes to that read this of the words; where nothing was read, the words are no command.
module _ {A I O D L : Type 0} (a : acceptors.Ghosts A I O) (s : sources.Ghosts I) (k : sinks.Ghosts O) (d : disks.Ghosts D)
    (l : links.Ghosts L) (IsMoment : ℕ → Type 0) (document : List ℕ) (given : Objects A D L) (back : Served A D L) where
  -- what a run comes to that read this of the words; where nothing was read, the words are no command
  abbrev pub Runs : Option NetworkCommand → Type 0
  Runs (Some (NetworkCommand.Serve roster journal port workers)) = RunsServing a s k d l IsMoment given back document workers
  Runs (Some (NetworkCommand.Post roster journal)) = RunsPost l d document given back
  Runs (Some (NetworkCommand.Bid prices port)) = RunsBid a s k document given back
  Runs None = EndsAtOnce given back 2 ⊎ EndsAtOnce given back 12

  -- Words of any spelling do what `clap` reads of them.
  abbrev pub RunsAsRead : List (List ℕ) → Type 0
  RunsAsRead words = (read : Option NetworkCommand) × IsNetworkReadingOf words read × Runs read
