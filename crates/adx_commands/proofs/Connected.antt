-- A connection on a desk that was opened on a loan of a disk, said of the disk.
use Rattle.std.proofs.Common.{◌≡◌, ◌∙◌, subst, ℕ, List, Option, Some, Result}
use Rattle.adx_io.specs.Streams.{Rises, Tape, WhereTold}
use Rattle.day_journal.specs.declared.disk.Disk.{Ghosts as DiskGhosts}
use Rattle.adx_io.specs.declared.stop.Stop.{Stop}
use Rattle.adx_links.specs.declared.link.Link.{Ghosts as LinkGhosts}
use Rattle.adx_desk.specs.Desks.{OnDisk}
use Rattle.adx_desk.specs.Histories.{DeskTerms}
use Rattle.adx_desk.specs.Opened.{Opens}
use Rattle.adx_desk.specs.Rosters.{desk_terms}
use Rattle.command_runs.specs.Meanings.{Wrote}
use Rattle.command_runs.specs.declared.outcome.Outcome.{Outcome}
use Rattle.deal_floor.specs.declared.roster.Roster.{Roster}
use Rattle.adx_desk.specs.Steps.{AreSteps, Step, alone}
use Rattle.adx_desk.specs.Meanings.{Told}
use Rattle.adx_desk.specs.OnDisk.{history_after}
use Rattle.adx_desk.specs.Records.{RaisesAmong, RunsOn}
use Rattle.adx_desk.specs.Told.{told_of}
use Rattle.adx_desk.proofs.RunsCalls.{runs_books}
use Rattle.exchange_messages.specs.Floors.{IsMomentOf}
use Rattle.fan_out.specs.Lanes.{works}
use Rattle.exchange_http.specs.Serving.{ServesConnection, Talked}
use Rattle.exchange_messages.specs.Courses.{Course}
use Rattle.fan_out.specs.declared.lane.Lane.{Lane}
use Rattle.http_connection.specs.declared.conn.ConnEnd.{ConnEnd}
use Rattle.adx_commands.specs.RosterLinks.{AreRosterLanes}
use Rattle.adx_commands.specs.declared.link.RosterLink.{RosterLink}
use Rattle.adx_commands.specs.Exchanges.{EndsServed, Served, serving}
use Rattle.adx_commands.specs.ConnSteps.{EndsConn, ServesDesk}
use Rattle.adx_commands.proofs.ConnDisks.{serves_lent}
use Rattle.adx_commands.proofs.ConnEnds.{ends_so, serving_wrote}

-- a clock that gives a moment and one that gives the same
pub same_moment : {D L : Type 0} {d : DiskGhosts D} {l : LinkGhosts L} {r : Roster} {before behind : Talked} {lanes lanes_now : List (Lane L)} {old new : OnDisk D} {result : ConnEnd}
    (told now : ℕ) → told ≡ now
    → ServesConnection d l (IsMomentOf (Some told)) r before behind lanes lanes_now old new result → ServesConnection d l (IsMomentOf (Some now)) r before behind lanes lanes_now old new result
same_moment {d = d} {l = l} {r = r} {before = before} {behind = behind} {lanes = lanes} {lanes_now = lanes_now} {old = old} {new = new} {result = result} told now is serves =
    subst (λ (m : ℕ). ServesConnection d l (IsMomentOf (Some m)) r before behind lanes lanes_now old new result) is serves

-- what a connection on a desk wrote that had counted no fault
pub desk_wrote : {D L : Type 0} (d : DiskGhosts D) (l : LinkGhosts L) (r : Roster) (behind tape_now : Option Tape) (held held_now : Option (List ℕ)) (lanes lanes_now : List (Lane L)) (old new : OnDisk D) (result : Result Outcome Stop)
    → old.desk.faults ≡ 0 → (s : ServesDesk d l r behind tape_now held held_now lanes lanes_now old new result)
    → WhereTold behind tape_now (λ x y. Wrote (serving (works l) r lanes s.serves.course) x.left y.left held held_now result)
desk_wrote d l r behind tape_now held held_now lanes lanes_now old new result none s =
    serving_wrote (works l) r lanes s.serves.course behind tape_now s.pending s.few held held_now s.end s.read_out new.desk.faults result s.ends
    (subst (λ (n : ℕ). RaisesAmong n (told_of s.serves.course.steps) new.desk.faults) none s.serves.on_disk.known) s.serves.ends

-- each loan is one of a disk
module _ {D E : Type 0} (d : DiskGhosts D) (disk_of : E → D) (roster : Roster) (old : E) (desk now : OnDisk E) (first last : D)
    (begins : disk_of old ≡ first) (ends : disk_of now.disk ≡ last)
    (opens : Opens (λ e. d.reads (disk_of e)) (λ e. d.may_leave (disk_of e)) (λ e. d.moment (disk_of e)) (λ e. d.left_since (disk_of e)) (desk_terms roster) old desk.disk desk.desk)
    (same_count : d.faults (disk_of desk.disk) ≡ d.faults (disk_of old)) where
  abbrev RunsLent : List Told → Type 0
  RunsLent told = RunsOn (λ e. d.faults (disk_of e)) (λ e. d.may_leave (disk_of e)) (λ e. d.moment (disk_of e)) (λ e. d.left_since (disk_of e)) desk now told

  -- how the run ends, by the disk's count
  so_lent : (told : List Told) (end : ConnEnd) (result : Result Outcome Stop) → RunsLent told → EndsConn end now.desk.faults result → EndsServed told (d.faults first) (d.faults last) result
  so_lent told end result run is =
      subst (λ (x : D). EndsServed told (d.faults first) (d.faults x) result) ends
      (subst (λ (x : D). EndsServed told (d.faults x) (d.faults (disk_of now.disk)) result) begins
      (ends_so told now.desk.faults (d.faults (disk_of old)) (d.faults (disk_of now.disk))
      (subst (λ (n : ℕ). RaisesAmong n told now.desk.faults) opens.no_fault run.known)
      (λ none. run.passed none ∙ same_count)
      (λ more. subst (λ (n : ℕ). Rises n (d.faults (disk_of now.disk))) same_count (run.risen (λ same. more (same ∙ opens.no_fault))))
      end result is))

  -- the steps of the connection, from the history that was opened
  steps_lent : (steps : List Step) → RunsLent (told_of steps) → AreSteps alone desk.desk.terms desk.desk.history steps now.desk.history
      → AreSteps alone (desk_terms roster) desk.desk.history steps (history_after (desk_terms roster).day desk.desk.history (told_of steps))
  steps_lent steps run are =
      subst (λ (t : DeskTerms). AreSteps alone t desk.desk.history steps (history_after t.day desk.desk.history (told_of steps))) opens.same_terms
      (subst (AreSteps alone desk.desk.terms desk.desk.history steps) run.history are)

  pub connection_lent : (lanes : List (Lane RosterLink)) (course : Course RosterLink) (end : ConnEnd) (result : Result Outcome Stop) → AreRosterLanes roster lanes
      → RunsLent (told_of course.steps) → AreSteps alone desk.desk.terms desk.desk.history course.steps now.desk.history → EndsConn end now.desk.faults result
      → Served d roster desk.desk.history lanes course first last result
  connection_lent lanes course end result are run steps is = record {
    lanes_are = are;
    steps = steps_lent course.steps run steps;
    on_disk = serves_lent disk_of d.faults d.reads d.may_leave d.moment d.left_since (desk_terms roster) old desk now (told_of course.steps) first last begins ends opens same_count run
        (runs_books (λ e. d.faults (disk_of e)) (λ e. d.may_leave (disk_of e)) (λ e. d.moment (disk_of e)) (λ e. d.left_since (disk_of e)) desk now (told_of course.steps) run);
    ends = so_lent (told_of course.steps) end result run is;
  }
