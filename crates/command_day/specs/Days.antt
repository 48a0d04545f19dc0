-- What a day of script lines means, by what came of it beside its input: the history that its journal represented, and its
-- calls, each done or given up. This project's own.
-- Example: a roster's line and a line of one tick, on an empty journal, write the tick's line and then the closing
-- table, and the run ends `Done`; where the disk failed in the tick, its line says `diskfault`, the table is the
-- same, and the run ends `DiskFault`.
use Rattle.std.specs.Prelude.{◌≡◌, ℕ, List, [], ◌++◌, Option, Some, None, Result, Ok, Err}
use Rattle.adx_io.specs.declared.stop.Stop.{Stop}
use Rattle.command_runs.specs.Firsts.{EndsHeadless, headless, led}
use Rattle.command_runs.specs.Meanings.{Meaning, TookPrefix, Wrote}
use Rattle.command_runs.specs.Scripts.{Answering, script}
use Rattle.command_runs.specs.Limits.{input_limit}
use Rattle.command_runs.specs.declared.outcome.Outcome.{Outcome}
use Rattle.day_rules.specs.declared.entry.Entry.{Entry}
use Rattle.deal_floor.specs.declared.roster.Roster.{Roster}
use Rattle.adx_desk.specs.Courses.{AreAlike, Course, GoesOn, HasDiskFault, HasNoDiskFault, IsSound, given_up, served, unopened}
use Rattle.adx_desk.specs.Meanings.{IsLine, Told}
use Rattle.adx_desk.specs.OnDisk.{history_after}
use Rattle.history_runs.specs.Rosters.{roster_heads}
use Rattle.history_runs.specs.Unopened.{GivesUpBy, not_opened}
use Rattle.history_runs.specs.Output.{writing}
use Rattle.script_lines.specs.Refusals.{toolong_line}
use Rattle.history_runs.specs.Script.{Means, closing, terms_by}
use Rattle.script_lines.specs.Meanings.{calls}

-- how a day ends whose script was read to its end, by its calls
abbrev pub EndsBy : List Told → Outcome → Type 0
EndsBy told Outcome.Done = HasNoDiskFault told
EndsBy told Outcome.DiskFault = HasDiskFault told
EndsBy told other = ⊥

-- the calls of a day that were answered, and one more whose answer wasn't written for lack of memory, if there is one
abbrev pub Calls : Type 0
Calls = List Told × Option Told

-- this may be the call of a line
abbrev pub MayBeCall : Roster → List ℕ → Option Told → Type 0
MayBeCall r line None = Unit {0}
MayBeCall r line (Some t) = Means r line (calls t.call)

-- How the lines of a roster's day are answered that began with this history, by the calls so far. A line is answered by its
-- call at the history of those, or refused; where memory was refused, its call may have been taken. The end is the closing
-- table, after the refusal of a last piece without a newline.
abbrev pub answering : Roster → List Entry → Answering Calls
answering r start = record {
  answers = λ before number line out now.
      (more : List Told)
      × IsLine (Means r) (writing r.campaigns) (terms_by r) number (history_after (terms_by r) start before.0) line more out
      × (now ≡ (before.0 ++ more, None));
  gives_up = λ before number line now.
      (unwritten : Option Told) × MayBeCall r line unwritten × (now ≡ (before.0, unwritten));
  closes = λ now number piece outcome out.
      EndsBy now.0 outcome × (out ≡ closing r number piece (history_after (terms_by r) start now.0));
  passes = toolong_line;
}

-- what the lines of a roster's day mean that began with this history, and had these calls; so many bytes may be read
abbrev pub lines : Roster → List Entry → List Told → Option Told → ℕ → Meaning
lines r start told unwritten allowed = script (answering r start) ([], None) 2 allowed (told, unwritten)

-- what the command `day` means, by how the day went
abbrev pub day_command : Course → Meaning
day_command unopened = headless roster_heads input_limit
day_command (given_up r why) = led roster_heads input_limit r (λ allowed. not_opened why)
day_command (served r start told unwritten) = led roster_heads input_limit r (lines r start told unwritten)

-- how the run of a day ends that was served: at the end of its input by the disk's faults, or before that refused or
-- stopped; an answer isn't written for lack of memory alone
abbrev pub EndsServed : List Told → Option Told → Result Outcome Stop → Type 0
EndsServed told unwritten (Ok Outcome.Refused) = unwritten ≡ None
EndsServed told unwritten (Ok outcome) = EndsBy told outcome × (unwritten ≡ None)
EndsServed told unwritten (Err Stop.ReadFault) = unwritten ≡ None
EndsServed told unwritten (Err Stop.WriteFault) = unwritten ≡ None
EndsServed told unwritten (Err Stop.OutOfMemory) = Unit {0}

-- how the run ends, by how the day went
abbrev pub EndsAs : Course → Result Outcome Stop → Type 0
EndsAs unopened result = EndsHeadless result
EndsAs (given_up r why) result = GivesUpBy why result
EndsAs (served r start told unwritten) result = EndsServed told unwritten result

-- what a command of this meaning writes for an input where source, sink and memory don't fail
abbrev pub IsWhole : Meaning → List ℕ → List ℕ → Type 0
IsWhole m input out = (outcome : Outcome) × (taken left : List ℕ) × (input ≡ taken ++ left) × m.ends outcome taken left out

-- what the sink took is a prefix of each whole output of the input
abbrev pub TookOfWhole : Meaning → List ℕ → Option (List ℕ) → Option (List ℕ) → Type 0
TookOfWhole m input held held_now = (whole : List ℕ) → IsWhole m input whole → TookPrefix held held_now whole

-- there is no input without an output in which nothing failed, from any history
abbrev pub HasOutputs : Type 0
HasOutputs =
    (start : List Entry) (input : List ℕ)
    → ((course : Course) (out : List ℕ) → IsSound start course → IsWhole (day_command course) input out → ⊥) → ⊥

-- and none with two for days that are alike
abbrev pub HasOneOutput : Type 0
HasOneOutput =
    (course other : Course) (input out out_other : List ℕ) → AreAlike course other
    → IsWhole (day_command course) input out → IsWhole (day_command other) input out_other → out ≡ out_other

-- whatever a day wrote that ended so is a prefix of each whole output of a day that goes on from there
abbrev pub HasPrefixes : Type 0
HasPrefixes =
    (course more : Course) (input left : List ℕ) (held held_now : Option (List ℕ)) (ended : Result Outcome Stop) → GoesOn course more
    → Wrote (day_command course) input left held held_now ended → TookOfWhole (day_command more) input held held_now
