-- Private, cited by the end of serving alone: how the passes are joined and the desk is closed, and what the ending is reported
-- by.
use Rattle.std.specs.Prelude.{◌≡◌, ◌≢◌, ◌⊎◌, ℕ, ◌<◌, ◌≤◌, List, ◌++◌, length, Bool, true, false, nat_lt, if◌then◌else◌}
use mathlib.Core.List.{IsPrefix}
use Rattle.adx_links.specs.declared.link.Link as links
use Rattle.adx_desk.specs.declared.shared.OpenedWith.{OpenedWith}
use Rattle.adx_desk.specs.declared.turn.Turn.{Turn}
use Rattle.adx_desk.specs.Shared.{is_disk_fault}
use Rattle.day_rules.specs.declared.entry.Entry.{Entry}
use Rattle.adx_links.specs.declared.intake.Intake.{Intake}
use Rattle.desk_board.specs.Tending.{AreTended, AreTriedOnce, due_behind}
use Rattle.desk_board.specs.declared.mail.Mail.{Mail}
use Rattle.shared_desk.specs.Callers.{DeskPass, IsRightPass, entry_of}
use Rattle.turnstile.specs.Passes.{joined}
use Rattle.turnstile.specs.Places.{AreAllOnce, AreOneList}
use Rattle.turnstile.specs.Turns.{faults_noted, places_of}
use Rattle.turnstile.specs.declared.limits.TheConstants.{LAST_COUNT}
use Rattle.exchange_serving.specs.declared.ending.Ending.{Ending}

-- how serving ends once the acceptor said so, by whether memory was refused, by the desk's faults, and by whether no post
-- is pending
abbrev pub ending_at : Intake → ℕ → Bool → Ending
ending_at Intake.Open faults none = Ending.OutOfMemory
ending_at Intake.Failed faults none = Ending.AcceptorFault
ending_at Intake.Over faults none = if nat_lt 0 faults then Ending.DiskFault else if none then Ending.Done else Ending.Pending

abbrev pub ending_by : Bool → Intake → ℕ → Bool → Ending
ending_by short intake faults none = if short then Ending.OutOfMemory else ending_at intake faults none

-- what an ending says
pub record Tells (short : Bool) (intake : Intake) (faults : ℕ) (ending : Ending) : Type 0 where
  pub short_is : short ≡ true → ending ≡ Ending.OutOfMemory
  pub failed : ending ≡ Ending.AcceptorFault → intake ≡ Intake.Failed
  pub over : ending ≢ Ending.OutOfMemory → ending ≢ Ending.AcceptorFault → intake ≡ Intake.Over
  pub fault : ending ≡ Ending.DiskFault → 0 < faults
  pub passed : (ending ≡ Ending.Done) ⊎ (ending ≡ Ending.Pending) → faults ≡ 0

-- two passes were joined into the first one, and the desk was closed with this history and so many faults
pub record Closes (opened : OpenedWith) (first one other : DeskPass) (history : List Entry) (faults : ℕ) : Type 0 where
  pub mid : DeskPass
  pub last : DeskPass
  pub mid_is : mid ≡ joined first one
  pub mid_one : AreOneList first.seen one.seen
  pub last_is : last ≡ joined mid other
  pub last_one : AreOneList mid.seen other.seen
  pub history_is : history ≡ last.seen
  pub own : AreAllOnce last.opening (length last.seen) (places_of entry_of last.turns)
  pub right : IsRightPass opened last
  pub counted : faults < LAST_COUNT → faults_noted (λ (t : Turn). is_disk_fault t.ended) last.turns ≤ faults

-- An outbox that had followed a front of this whole history was brought up to it; all of it was followed, and each post that
-- was due tried, unless this was missed for lack of memory.
pub record IsTendedAll {L : Type 0} (l : links.Ghosts L) (whole history : List Entry) (link : L) (old new : Mail L) (missed : Bool) : Type 0 where
  pub more : List Entry
  pub begins : IsPrefix (history ++ more) whole
  pub round : AreTriedOnce l (due_behind old.outbox.pending history more) new.outbox.pending old.link new.link
  pub tended : AreTended l (history ++ more) new.outbox.pending link new.link
  pub all : missed ≡ false → history ++ more ≡ whole
  pub each_tried : missed ≡ false → length round.outcomes ≡ length (due_behind old.outbox.pending history more)
