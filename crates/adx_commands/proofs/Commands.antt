-- What words do, by what is read of them.
use Rattle.std.proofs.Common.{◌≡◌, ◌≢◌, ◌⊎◌, inl, inr, refl, subst, sym, ℕ, List, [], Option, Some, None, Result, Ok, Err, arith, zero-le, true, false}
use Rattle.std.proofs.lemmas.List.Elements.{All-nil}
use Rattle.day_journal.specs.declared.disk.Disk as disks
use Rattle.adx_io.specs.declared.sink.Sink as sinks
use Rattle.adx_io.specs.declared.source.Source as sources
use Rattle.adx_io.specs.declared.stop.Stop.{Stop}
use Rattle.command_bidder.specs.Bidders.{bidder_command, price_heads}
use Rattle.command_archive.proofs.Unbegun.{unkept, unlisted_days}
use Rattle.command_check.proofs.Ended.{unbegun as unchecked}
use Rattle.command_close.specs.ClosedDays.{IsClosedDay}
use Rattle.command_close.specs.Guarantees.{IsGuarantee}
use Rattle.adx_commands.specs.Exchanges.{LeavesDay as LeavesExchange, conn_command}
use Rattle.command_day.specs.Days.{day_command}
use Rattle.command_notices.specs.PostLines.{AreNotices}
use Rattle.command_reconcile.specs.Reconciling.{LeavesDisk as LeavesLedgerDay}
use Rattle.command_reconcile.specs.Runs.{RunsReconciliation, reconcile_command}
use Rattle.command_runs.specs.Firsts.{Heads, headless}
use Rattle.command_runs.specs.Limits.{input_limit}
use Rattle.command_runs.specs.Runs.{Runs as RunsOver, RunsAs}
use Rattle.command_runs.specs.Statuses.{status_by}
use Rattle.command_runs.specs.declared.outcome.Outcome.{Outcome}
use Rattle.command_runs.proofs.Ran.{unbegun_counted, unbegun_wrote}
use Rattle.command_words.specs.Meanings.{IsPlain}
use Rattle.command_words.specs.declared.command.Command.{Command}
use Rattle.command_words.proofs.Rows.{plain_only, some_reading}
use Rattle.day_archive.specs.declared.keeper.Keeper as keepers
use Rattle.history_runs.specs.Histories.{LeavesDay, Prints}
use Rattle.history_runs.specs.Rosters.{roster_heads}
use Rattle.history_runs.specs.Runs.{history_command}
use Rattle.adx_desk.specs.Courses.{unopened}
use Rattle.command_gen.specs.GeneratedEnds.{GeneratedRuns}
use Rattle.adx_commands.specs.Commands.{Does, DoesAsRead, EndsBidder, IsCommand, KeepsDay, KeepsRoster, Outside, Runs}

-- ---- the status of words that are no command

not_two_by : (ended : Result Outcome Stop) → 2 ≡ status_by ended → ⊥
not_two_by (Ok Outcome.Done) is = omega (arith, is)
not_two_by (Ok Outcome.Refused) is = omega (arith, is)
not_two_by (Ok Outcome.DiskFault) is = omega (arith, is)
not_two_by (Ok Outcome.NoHistory) is = omega (arith, is)
not_two_by (Ok Outcome.NotAccepted) is = omega (arith, is)
not_two_by (Ok Outcome.KeeperFault) is = omega (arith, is)
not_two_by (Ok Outcome.NotKept) is = omega (arith, is)
not_two_by (Ok Outcome.Pending) is = omega (arith, is)
not_two_by (Err Stop.ReadFault) is = omega (arith, is)
not_two_by (Err Stop.WriteFault) is = omega (arith, is)
not_two_by (Err Stop.OutOfMemory) is = omega (arith, is)

told_otherwise : {P Q R : Type 0} → (◌≡◌ {A = ℕ} 2 0 × P) ⊎ ((◌≡◌ {A = ℕ} 2 5 × Q) ⊎ (◌≡◌ {A = ℕ} 2 12 × R)) → ⊥
told_otherwise (inl (done, taken)) = omega (arith, done)
told_otherwise (inr (inl (failed, taken))) = omega (arith, failed)
told_otherwise (inr (inr (refused, taken))) = omega (arith, refused)

-- ---- memory was refused before anything was asked for

-- between these nothing happened
abbrev still : {S K D P : Type 0} → S → K → D → P → Outside S K D P
still source sink disk keeper = record {
  source = source;
  source_now = source;
  sink = sink;
  sink_now = sink;
  disk = disk;
  disk_now = disk;
  keeper = keeper;
  keeper_now = keeper;
}

module _ {S K D P : Type 0} (s : sources.Ghosts S) (k : sinks.Ghosts K) (d : disks.Ghosts D) (p : keepers.Ghosts P) (source : S) (sink : K) (disk : D) (keeper : P) where
  -- nothing was read, and so no first line
  unbegun : {H : Type 0} (heads : Heads H) → RunsOver s k (headless heads input_limit) source source sink sink (Err Stop.OutOfMemory)
  unbegun heads = record {
    wrote = unbegun_wrote (headless heads input_limit) (s.tape source) (k.held sink) (λ left. (refl, inr (([], All-nil (λ b. b ≢ 10), zero-le, inl ([], zero-le, refl)), refl)));
    causes = unbegun_counted (s.faults source) (k.faults sink);
    source_same = refl;
    sink_same = refl;
  }

  unserved : RunsAs s k (KeepsDay d) day_command source source sink sink disk disk 12
  unserved = record { course = unopened; ended = Err Stop.OutOfMemory; told = refl; left = (tt, refl); runs = unbegun roster_heads }

  unconnected : RunsAs s k (KeepsRoster (LeavesExchange d)) conn_command source source sink sink disk disk 12
  unconnected = record { course = None; ended = Err Stop.OutOfMemory; told = refl; left = (refl, tt); runs = unbegun roster_heads }

  bidder_unserved : RunsAs s k EndsBidder bidder_command source source sink sink tt tt 12
  bidder_unserved = record { course = None; ended = Err Stop.OutOfMemory; told = refl; left = tt; runs = unbegun price_heads }

  unclosed : (prints : Prints) → RunsAs s k (KeepsRoster (LeavesDay d)) (history_command prints) source source sink sink disk disk 12
  unclosed prints = record { course = None; ended = Err Stop.OutOfMemory; told = refl; left = (refl, tt); runs = unbegun roster_heads }

  unreconciled : (name : List ℕ) → RunsAs s k (KeepsRoster (LeavesLedgerDay d)) (reconcile_command name) source source sink sink disk disk 12
  unreconciled name = record { course = None; ended = Err Stop.OutOfMemory; told = refl; left = (refl, tt); runs = unbegun roster_heads }

  generated_untaken : (seed asks : ℕ) → GeneratedRuns d seed asks (k.held sink) (k.held sink) disk disk (Err Stop.OutOfMemory)
  generated_untaken seed asks = record { course = unopened; ends = (refl, refl); on_disk = refl }

  -- whatever was to run ends so
  unstarted : (read : Option Command) → Runs s k d p (still source sink disk keeper) 12 read
  unstarted (Some (Command.Day journal)) = unserved
  unstarted (Some (Command.Connection journal)) = unconnected
  unstarted (Some (Command.Notices journal)) = unclosed AreNotices
  unstarted (Some Command.Bidder) = bidder_unserved
  unstarted (Some (Command.Close journal false)) = unclosed IsClosedDay
  unstarted (Some (Command.Close journal true)) = unclosed IsGuarantee
  unstarted (Some (Command.Generate seed asks)) = record { ended = Err Stop.OutOfMemory; told = refl; runs = generated_untaken seed asks }
  unstarted (Some Command.Check) = unchecked (s.tape source) (k.held sink)
  unstarted (Some (Command.ArchivePut file)) = unkept s k p source sink keeper
  unstarted (Some (Command.ArchiveList file seat cid first last)) = unlisted_days p (record { seat = seat; cid = cid; first = first; last = last }) keeper (k.held sink)
  unstarted (Some (Command.Reconcile journal name)) = unreconciled name
  unstarted (Some (Command.Help topic)) = inr (inr (refl, refl))
  unstarted (Some Command.Version) = inr (inr (refl, refl))
  unstarted None = inr (inr (refl, refl))

  pub does_unstarted : (words : List (List ℕ)) → DoesAsRead s k d p (still source sink disk keeper) 12 words
  does_unstarted words =
      let reading = some_reading words in
      (reading.0, reading.1, record { by_run = unstarted reading.0; unasked = λ nothing. refl; untouched = λ left. refl; nothing_kept = λ left. refl })

-- ---- what was read

-- bills were compared, where that was read
pub reconciled : {S K D P : Type 0} (s : sources.Ghosts S) (k : sinks.Ghosts K) (d : disks.Ghosts D) (p : keepers.Ghosts P) (o : Outside S K D P) (status : ℕ)
    (read : Option Command) (journal name asked : List ℕ) (ended : Result Outcome Stop) → read ≡ Some (Command.Reconcile journal name) → asked ≡ name → o.keeper_now ≡ o.keeper
    → status ≡ status_by ended → RunsReconciliation s k d asked o.source o.source_now o.sink o.sink_now o.disk o.disk_now ended → Does s k d p o status read
reconciled s k d p o status read journal name asked ended is named kept told ran =
    let ran = subst (λ n. RunsReconciliation s k d n o.source o.source_now o.sink o.sink_now o.disk o.disk_now ended) named ran in
    subst (Does s k d p o status) (sym is) (record {
      by_run = record { course = ran.course; ended = ended; told = told; left = ran.leaves; runs = ran.runs };
      unasked = λ nothing. absurd nothing;
      untouched = λ left. absurd left;
      nothing_kept = λ left. kept;
    })

-- ---- words in plain spelling

module _ {S K D P : Type 0} (s : sources.Ghosts S) (k : sinks.Ghosts K) (d : disks.Ghosts D) (p : keepers.Ghosts P) (o : Outside S K D P) where
  not_refused : (command : Command) → Runs s k d p o 2 (Some command) → ⊥
  not_refused (Command.Day journal) runs = not_two_by runs.ended runs.told
  not_refused (Command.Connection journal) runs = not_two_by runs.ended runs.told
  not_refused (Command.Notices journal) runs = not_two_by runs.ended runs.told
  not_refused Command.Bidder runs = not_two_by runs.ended runs.told
  not_refused (Command.Close journal false) runs = not_two_by runs.ended runs.told
  not_refused (Command.Close journal true) runs = not_two_by runs.ended runs.told
  not_refused (Command.Generate seed asks) runs = not_two_by runs.ended runs.told
  not_refused Command.Check runs = not_two_by runs.ended runs.told
  not_refused (Command.ArchivePut file) runs = not_two_by runs.ended runs.told
  not_refused (Command.ArchiveList file seat cid first last) runs = not_two_by runs.ended runs.told
  not_refused (Command.Reconcile journal name) runs = not_two_by runs.ended runs.told
  not_refused (Command.Help topic) runs = told_otherwise runs
  not_refused Command.Version runs = told_otherwise runs

module _ {S K D P : Type 0} {s : sources.Ghosts S} {k : sinks.Ghosts K} {d : disks.Ghosts D} {p : keepers.Ghosts P} {o : Outside S K D P} where
  -- they do what they ask for
  pub plain_does : {status : ℕ} {words : List (List ℕ)} → DoesAsRead s k d p o status words → (command : Command) → IsPlain command words → Does s k d p o status (Some command)
  plain_does {status} {words} does command plain = subst (Does s k d p o status) (plain_only words does.0 does.1 command plain) does.2

  -- none of them ends with the status of words that are no command
  pub plain_taken : {status : ℕ} {words : List (List ℕ)} → DoesAsRead s k d p o status words → status ≡ 2 → IsCommand words → ⊥
  plain_taken {status} {words} does is asked =
      not_refused s k d p o asked.0 (subst (λ n. Runs s k d p o n (Some asked.0)) is (plain_does does asked.0 asked.1).by_run)
