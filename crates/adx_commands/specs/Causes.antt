-- Which objects failed where a command ended with a status. Private clauses alone cite this file.
use Rattle.std.specs.Prelude.{◌≡◌, ◌≢◌, Option, Some, None, IfSome, IsSome}
use Rattle.adx_links.specs.declared.acceptor.Acceptor as acceptors
use Rattle.adx_desk.specs.Endings.{IsWithinRise}
use Rattle.adx_io.specs.Streams.{Rises}
use Rattle.day_journal.specs.declared.disk.Disk as disks
use Rattle.command_words.specs.declared.network.NetworkCommand.{NetworkCommand}
use Rattle.adx_commands.specs.Served.{IsGivenBack, KeepsObjects}
use Rattle.adx_commands.specs.declared.objects.Objects.{Objects}
use Rattle.adx_commands.specs.declared.served.Served.{Served}

module _ {A I O D L : Type 0} (a : acceptors.Ghosts A I O) (d : disks.Ghosts D) (given : Objects A D L) (back : Served A D L) where
  pub record HasCauses : Type 0 where
    pub acceptor_fault : back.status ≡ 4 → IfSome back.acceptor (λ now. Rises (a.faults given.acceptor) (a.faults now))
    pub acceptor_passed : back.status ≢ 4 → back.status ≢ 12 → IfSome back.acceptor (λ now. a.faults now ≡ a.faults given.acceptor)
    pub disk_fault : back.status ≡ 6 → IfSome back.disk (λ now. IsWithinRise (d.faults given.disk) 1 (d.faults now))
    pub disk_passed : back.status ≢ 4 → back.status ≢ 6 → back.status ≢ 12 → IfSome back.disk (λ now. d.faults now ≡ d.faults given.disk)
    pub all_back : back.status ≢ 12 → IsGivenBack back
    pub post_back : IsSome back.post

  -- the causes of a run that read this of the words; one that doesn't serve connections on a day also keeps its objects
  abbrev pub HasCausesAs : Option NetworkCommand → Type 0
  HasCausesAs (Some (NetworkCommand.Serve roster journal port workers)) = HasCauses
  HasCausesAs (Some (NetworkCommand.Post roster journal)) = HasCauses × KeepsObjects d given back
  HasCausesAs (Some (NetworkCommand.Bid prices port)) = HasCauses × KeepsObjects d given back
  HasCausesAs None = HasCauses × KeepsObjects d given back
