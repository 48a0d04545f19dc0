-- What words do, by what is read of them.
use Rattle.std.proofs.Common.{◌≡◌, ◌∙◌, inl, inr, sym, subst, ℕ, List, Option, Some, None, arith}
use Rattle.adx_links.specs.declared.acceptor.Acceptor as acceptors
use Rattle.day_journal.specs.declared.disk.Disk as disks
use Rattle.adx_io.specs.declared.sink.Sink as sinks
use Rattle.adx_io.specs.declared.source.Source as sources
use Rattle.adx_links.specs.declared.link.Link as links
use Rattle.command_bidder.specs.Statuses.{status_by as status_by_bid}
use Rattle.command_bidder.specs.declared.ending.BidEnd.{BidEnd}
use Rattle.command_words.specs.Network.{IsPlainNetwork}
use Rattle.command_words.specs.NetworkTaken.{IsNetworkReadingOf}
use Rattle.command_words.specs.declared.network.NetworkCommand.{NetworkCommand}
use Rattle.command_words.proofs.NetworkRows.{network_only, some_network_reading}
use Rattle.command_notices.specs.Statuses.{status_by as status_by_post}
use Rattle.command_notices.specs.declared.ending.PostEnd.{PostEnd}
use Rattle.adx_commands.specs.Causes.{HasCauses, HasCausesAs}
use Rattle.adx_commands.specs.NetworkCommands.{IsNetworkCommand, IsNoServe, Runs, RunsAsRead}
use Rattle.adx_commands.specs.Served.{EndsAtOnce, KeepsObjects, linked, ran, unbegun}
use Rattle.adx_commands.specs.Serving.{unserved}
use Rattle.adx_commands.specs.declared.objects.Objects.{Objects}
use Rattle.adx_commands.specs.declared.served.Served.{Served}
use Rattle.adx_commands.proofs.ServedRuns.{serving_not_two}

post_not_two : (end : PostEnd) → status_by_post end ≡ 2 → ⊥
post_not_two PostEnd.Delivered is = omega (arith, is)
post_not_two PostEnd.Pending is = omega (arith, is)
post_not_two (PostEnd.Refused why) is = omega (arith, is)
post_not_two PostEnd.DiskFault is = omega (arith, is)
post_not_two (PostEnd.NoHistory why) is = omega (arith, is)
post_not_two PostEnd.OutOfMemory is = omega (arith, is)

bid_not_two : (end : BidEnd) → status_by_bid end ≡ 2 → ⊥
bid_not_two BidEnd.Over is = omega (arith, is)
bid_not_two (BidEnd.Refused why) is = omega (arith, is)
bid_not_two BidEnd.AcceptorFault is = omega (arith, is)
bid_not_two BidEnd.OutOfMemory is = omega (arith, is)

module _ {A I O D L : Type 0} (a : acceptors.Ghosts A I O) (s : sources.Ghosts I) (k : sinks.Ghosts O) (d : disks.Ghosts D) (l : links.Ghosts L) (IsMoment : ℕ → Type 0) (document : List ℕ)
    (given : Objects A D L) (back : Served A D L) where
  -- memory was refused before anything was done: whatever was to run ends so
  unstarted : EndsAtOnce given back 12 → (read : Option NetworkCommand) → Runs a s k d l IsMoment document given back read
  unstarted e (Some (NetworkCommand.Serve roster journal port workers)) = unserved e
  unstarted e (Some (NetworkCommand.Post roster journal)) = unbegun e
  unstarted e (Some (NetworkCommand.Bid prices port)) = unbegun e
  unstarted e None = inr e

  pub runs_unstarted : EndsAtOnce given back 12 → (words : List (List ℕ)) → RunsAsRead a s k d l IsMoment document given back words
  runs_unstarted e words =
      let reading = some_network_reading words in
      (reading.0, reading.1, unstarted e reading.0)

  -- a command doesn't end with the status of words that are none
  never_two : (command : NetworkCommand) → Runs a s k d l IsMoment document given back (Some command) → back.status ≡ 2 → ⊥
  never_two (NetworkCommand.Serve roster journal port workers) runs is = serving_not_two a s k d l IsMoment given back document workers runs is
  never_two (NetworkCommand.Post roster journal) (ran none p) is = post_not_two p.end (sym p.told ∙ is)
  never_two (NetworkCommand.Post roster journal) (linked some e none) is = omega (arith, e.status_is, is)
  never_two (NetworkCommand.Post roster journal) (unbegun e) is = omega (arith, e.status_is, is)
  never_two (NetworkCommand.Bid prices port) (ran none b) is = bid_not_two b.end (sym b.told ∙ is)
  never_two (NetworkCommand.Bid prices port) (linked some e none) is = omega (arith, e.status_is, is)
  never_two (NetworkCommand.Bid prices port) (unbegun e) is = omega (arith, e.status_is, is)

module _ {A I O D L : Type 0} {a : acceptors.Ghosts A I O} {s : sources.Ghosts I} {k : sinks.Ghosts O} {d : disks.Ghosts D} {l : links.Ghosts L} {IsMoment : ℕ → Type 0} {document : List ℕ}
    {given : Objects A D L} {back : Served A D L} where
  -- words in plain spelling do what they ask for
  pub plain_runs : {words : List (List ℕ)} → RunsAsRead a s k d l IsMoment document given back words → (command : NetworkCommand) → IsPlainNetwork command words
      → Runs a s k d l IsMoment document given back (Some command)
  plain_runs {words} runs command plain = subst (Runs a s k d l IsMoment document given back) (network_only words runs.0 runs.1 command plain) runs.2

  -- and are taken
  pub plain_taken : {words : List (List ℕ)} → RunsAsRead a s k d l IsMoment document given back words → back.status ≡ 2 → IsNetworkCommand words → ⊥
  plain_taken {words} runs is asked = never_two a s k d l IsMoment document given back asked.0 (plain_runs runs asked.0 asked.1) is

-- what doesn't serve connections on a day keeps its objects
module _ {A I O D L : Type 0} (a : acceptors.Ghosts A I O) (d : disks.Ghosts D) (given : Objects A D L) (back : Served A D L) where
  pub causes_in : (read : Option NetworkCommand) → HasCausesAs a d given back read → HasCauses a d given back
  causes_in (Some (NetworkCommand.Serve roster journal port workers)) c = c
  causes_in (Some (NetworkCommand.Post roster journal)) c = c.0
  causes_in (Some (NetworkCommand.Bid prices port)) c = c.0
  causes_in None c = c.0

  pub kept_in : (words : List (List ℕ)) (read : Option NetworkCommand) → IsNetworkReadingOf words read → IsNoServe words → HasCausesAs a d given back read → KeepsObjects d given back
  kept_in words read reading (inl (inl post)) c =
      (subst (HasCausesAs a d given back) (network_only words read reading (NetworkCommand.Post post.0 post.1) post.2) c).1
  kept_in words read reading (inl (inr bid)) c =
      (subst (HasCausesAs a d given back) (network_only words read reading (NetworkCommand.Bid bid.0 bid.1) bid.2) c).1
  kept_in words (Some (NetworkCommand.Serve roster journal port workers)) reading (inr other) c = absurd (other (roster, journal, port, workers, reading))
  kept_in words (Some (NetworkCommand.Post roster journal)) reading (inr other) c = c.1
  kept_in words (Some (NetworkCommand.Bid prices port)) reading (inr other) c = c.1
  kept_in words None reading (inr other) c = c.1
