-- What a command gives back of the objects that it was given. This project's own.
use Rattle.std.specs.Prelude.{◌≡◌, ◌≢◌, ◌⊎◌, ℕ, ◌<◌, [], length, Option, Some, None, IsSome, IfSome}
use Rattle.adx_io.specs.Streams.{Rises}
use Rattle.day_journal.specs.declared.disk.Disk as disks
use Rattle.command_bidder.specs.declared.ending.BidEnd.{BidEnd}
use Rattle.command_notices.specs.declared.ending.PostEnd.{PostEnd}
use Rattle.adx_commands.specs.declared.not_begun.NotBegun.{NotBegun}
use Rattle.adx_commands.specs.declared.objects.Objects.{Objects}
use Rattle.adx_commands.specs.declared.served.Served.{Served}

-- each object was given back as it was
pub record IsUntouched {A D L : Type 0} (given : Objects A D L) (back : Served A D L) : Type 0 where
  pub acceptor : back.acceptor ≡ Some given.acceptor
  pub disk : back.disk ≡ Some given.disk
  pub post : back.post ≡ Some given.post

-- each object was given back
pub record IsGivenBack {A D L : Type 0} (back : Served A D L) : Type 0 where
  pub acceptor : IsSome back.acceptor
  pub disk : IsSome back.disk
  pub post : IsSome back.post

-- each object was given back; the disk is the one that was given, after calls, and failed only where the status says so
pub record KeepsObjects {A D L : Type 0} (d : disks.Ghosts D) (given : Objects A D L) (back : Served A D L) : Type 0 where
  pub all_back : IsGivenBack back
  pub disk_lasts : IfSome back.disk (λ now. d.lasts given.disk now)
  pub disk_fault : back.status ≡ 6 → IfSome back.disk (λ now. Rises (d.faults given.disk) (d.faults now))
  pub disk_passed : back.status ≢ 6 → IfSome back.disk (λ now. d.faults now ≡ d.faults given.disk)

-- a command ended with this status before it did anything
pub record EndsAtOnce {A D L : Type 0} (given : Objects A D L) (back : Served A D L) (status : ℕ) : Type 0 where
  pub status_is : back.status ≡ status
  pub untouched : IsUntouched given back

-- A command that has no use for lists of links: it ran where it was given none; where it was given some, it ended at once,
-- and nothing is said of its document; and so it did where memory was refused before it began.
pub data RunsUnlinked {A D L : Type 0} (given : Objects A D L) (back : Served A D L) (Ran : Type 0) : Type 0 where
  ran : given.links.items ≡ [] → Ran → RunsUnlinked given back Ran
  linked : 0 < length given.links.items → EndsAtOnce given back 3 → back.why ≡ None → RunsUnlinked given back Ran
  unbegun : EndsAtOnce given back 12 → RunsUnlinked given back Ran

-- Why the run of `post` didn't begin that ended so: where its document or its journal was refused.
abbrev pub why_no_post : PostEnd → Option NotBegun
why_no_post (PostEnd.Refused why) = Some (NotBegun.Line why)
why_no_post (PostEnd.NoHistory fault) = Some (NotBegun.Journal fault)
why_no_post other = None

-- The same of `bid`.
abbrev pub why_no_bid : BidEnd → Option NotBegun
why_no_bid (BidEnd.Refused why) = Some (NotBegun.Line why)
why_no_bid other = None

-- a status comes exactly where this holds, unless memory was refused
abbrev pub ComesExactly : (status wanted : ℕ) → Type 0 → Type 0
ComesExactly status wanted P = (status ≡ wanted → P) × (P → (status ≡ wanted) ⊎ (status ≡ 12))
