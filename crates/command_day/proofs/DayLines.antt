-- The lines of a script on a desk: how they go on, and each end of them.
use Rattle.std.proofs.Common.{◌≡◌, ◌≢◌, inl, inr, ℕ, zero, suc, ◌+◌, ◌≤◌, List, [], ◌∷◌, ◌++◌, length, Option, Some, None, Result, Ok, Err, refl, sym, subst}
use Rattle.adx_desk.specs.Desks.{OnDisk}
use Rattle.adx_desk.specs.Rosters.{desk_terms}
use Rattle.adx_io.specs.Lines.{Keeps, tape_behind}
use Rattle.adx_io.specs.Streams.{Tape, WhereTold}
use Rattle.adx_io.specs.Talk.{ReadsNext, TalkState}
use Rattle.day_journal.specs.declared.disk.Disk as disks
use Rattle.adx_io.specs.declared.line_buffer.TheConstants.{CHUNK}
use Rattle.adx_io.specs.declared.stop.Stop.{Stop}
use Rattle.adx_io.specs.declared.talk.Next.{Next}
use Rattle.command_runs.specs.Meanings.{PutsEnd}
use Rattle.command_runs.specs.Scripts.{PutsClosing}
use Rattle.command_runs.specs.Limits.{line_limit}
use Rattle.command_runs.specs.declared.outcome.Outcome.{Outcome}
use Rattle.command_runs.proofs.Answered.{RunsLines, lines_begin, lines_closed, lines_cut, lines_go_on, lines_past, lines_stopped}
use Rattle.day_rules.specs.declared.entry.Entry.{Entry}
use Rattle.deal_floor.specs.declared.roster.Roster.{Roster}
use Rattle.adx_desk.specs.Answering.{DeskRuns, ServesLine}
use Rattle.adx_desk.specs.Courses.{HasDiskFault, HasNoDiskFault, one_more}
use Rattle.adx_desk.specs.Meanings.{IsLine, Told}
use Rattle.adx_desk.specs.OnDisk.{history_after}
use Rattle.adx_desk.proofs.DeskRuns.{desk_goes_on, run_ends, run_ends_at}
use Rattle.script_lines.specs.Refusals.{toolong_line}
use Rattle.history_runs.specs.Clauses.{LineAnswered}
use Rattle.history_runs.specs.Output.{writing}
use Rattle.history_runs.specs.Script.{Means, closing, terms_by}
use Rattle.script_lines.specs.Meanings.{calls}
use Rattle.command_day.specs.Days.{EndsBy, EndsServed, MayBeCall, answering}
use Rattle.command_day.specs.Steps.{IsEndOf, LinesRan, PutsLine, PutsClosing as DayCloses}

-- the ends of a day whose answers are all written
served_by : (told : List Told) (outcome : Outcome) → EndsBy told outcome → EndsServed told None (Ok outcome)
served_by told Outcome.Done ends = (ends, refl)
served_by told Outcome.Refused ends = refl
served_by told Outcome.DiskFault ends = (ends, refl)
served_by told Outcome.NoHistory ends = absurd ends
served_by told Outcome.NotAccepted ends = absurd ends
served_by told Outcome.KeeperFault ends = absurd ends
served_by told Outcome.NotKept ends = absurd ends
served_by told Outcome.Pending ends = absurd ends

served_stopped : (told : List Told) (stop : Stop) → EndsServed told None (Err stop)
served_stopped told Stop.ReadFault = refl
served_stopped told Stop.WriteFault = refl
served_stopped told Stop.OutOfMemory = tt

served_put : (told : List Told) (held held_now : Option (List ℕ)) (out : List ℕ) (outcome : Outcome) (result : Result Outcome Stop)
    → EndsServed told None (Ok outcome) → PutsEnd outcome held held_now out result → EndsServed told None result
served_put told held held_now out outcome (Ok ended) so puts = subst (λ (o : Outcome). EndsServed told None (Ok o)) (sym puts.0) so
served_put told held held_now out outcome (Err stop) so puts = served_stopped told stop

-- how a day ends by the faults that its desk counted
end_by : (told : List Told) (faults : ℕ) (outcome : Outcome) → IsEndOf faults outcome → (faults ≡ 0 → HasNoDiskFault told) → (faults ≢ 0 → HasDiskFault told) → EndsBy told outcome
end_by told zero outcome is none some = subst (EndsBy told) (sym (is.0 refl)) (none refl)
end_by told (suc n) outcome is none some = subst (EndsBy told) (sym (is.1 (λ e. cc e))) (some (λ e. cc e))

-- the call whose answer wasn't written
may_be : (r : Roster) (line : List ℕ) (unwritten : Option Told) (more : List Told) → one_more unwritten ≡ more → ((t : Told) → more ≡ t ∷ [] → Means r line (calls t.call)) → MayBeCall r line unwritten
may_be r line None more is means = tt
may_be r line (Some t) more is means = means t (sym is)

-- a line's calls leave the terms as they are
pub line_terms : {D : Type 0} (d : disks.Ghosts D) (desk next : OnDisk D) (more : List Told)
    → ServesLine d.faults d.may_leave d.moment d.left_since desk next more → next.desk.terms ≡ desk.desk.terms
line_terms d desk next [] same = subst (λ (s : OnDisk _). s.desk.terms ≡ desk.desk.terms) (sym same) refl
line_terms d desk next (t ∷ []) serves = serves.terms
line_terms d desk next (t ∷ u ∷ rest) none = absurd none

module _ {D : Type 0} (d : disks.Ghosts D) (r : Roster) (start : List Entry) (disk : D) where
  -- these calls were answered on a desk
  abbrev On : List Told → OnDisk D → Type 0
  On told desk = DeskRuns d.faults d.reads d.may_leave d.moment d.left_since (desk_terms r) disk start told desk

  -- what a line was answered, at the history of the calls so far
  line_answered : (told : List Told) (desk next : OnDisk D) (number : ℕ) (Known : List ℕ → Type 0) (out line : List ℕ) (a : LineAnswered d r desk next number Known [] out) → On told desk → Known line
      → (answering r start).answers (told, None) number line out (told ++ a.told, None)
  line_answered told desk next number Known out line a on known = (
    a.told,
    subst (λ o. IsLine (Means r) (writing r.campaigns) (terms_by r) number (history_after (terms_by r) start told) line a.told o) (sym a.written)
        (subst (λ h. IsLine (Means r) (writing r.campaigns) (terms_by r) number h line a.told a.out) on.ran (a.answered line known)),
    refl,
  )

  -- lines were read and answered, and their answers put
  pub record Running (before now : TalkState) (number : ℕ) (desk : OnDisk D) : Type 0 where
    pub told : List Told
    pub on_disk : On told desk
    pub on_talk : WhereTold before.tape now.tape (RunsLines (answering r start) ([], None) 2 before now (told, None) number)

  pub begins : (before : TalkState) (desk : OnDisk D) → On [] desk → Running before before 2 desk
  begins before desk on = record { told = []; on_disk = on; on_talk = lines_begin (answering r start) ([], None) 2 before }

  module _ (before mid : TalkState) (number : ℕ) (desk : OnDisk D) (run : Running before mid number desk) where
    -- one more line was answered, and its answer put
    pub goes_on : (read last : TalkState) (next : OnDisk D) → WhereTold mid.tape read.tape (ReadsNext line_limit mid read (Ok Next.Line)) → read.held ≡ mid.held → last.tape ≡ read.tape → last.allowed ≡ read.allowed
        → PutsLine d r desk next number (Keeps line_limit read.overlong read.line) read.held last.held (Ok tt) → Running before last (number + 1) next
    goes_on read last next reads same tape allowed (out, a, took) = record {
      told = run.told ++ a.told;
      on_disk = desk_goes_on d.faults d.reads d.may_leave d.moment d.left_since (desk_terms r) disk start run.told a.told desk next run.on_disk a.serves;
      on_talk = lines_go_on (answering r start) ([], None) 2 before mid (run.told, None) number run.on_talk read last (run.told ++ a.told, None) reads same tape allowed
          (out, (λ line known. line_answered run.told desk next number (Keeps line_limit read.overlong read.line) out line a run.on_disk known), took);
    }

    module _ (read : TalkState) (pending : List ℕ) (tape : Option Tape) (held_now : Option (List ℕ)) (few : length pending ≤ CHUNK) (same : read.held ≡ mid.held) where
      abbrev Known : List ℕ → Type 0
      Known = Keeps line_limit read.overlong read.line

      -- the run was cut short while a line's answer was put, or written
      pub cut_at : (next : OnDisk D) (stop : Stop) → WhereTold mid.tape (tape_behind pending tape) (ReadsNext line_limit mid read (Ok Next.Line)) → PutsLine d r desk next number Known read.held held_now (Err stop)
          → LinesRan d r start before tape held_now disk next.disk (Err stop)
      cut_at next Stop.ReadFault reads puts = absurd puts
      cut_at next Stop.WriteFault reads (out, a, front) = record {
        told = run.told ++ a.told;
        unwritten = None;
        ends = refl;
        on_disk = run_ends d.faults d.reads d.may_leave d.moment d.left_since (desk_terms r) disk start (run.told ++ a.told) next
            (desk_goes_on d.faults d.reads d.may_leave d.moment d.left_since (desk_terms r) disk start run.told a.told desk next run.on_disk a.serves);
        wrote = lines_cut (answering r start) ([], None) 2 before mid (run.told, None) number run.on_talk read pending tape held_now few same (run.told ++ a.told, None) Stop.WriteFault reads
            (out, (λ line known. line_answered run.told desk next number Known out line a run.on_disk known), front);
      }
      cut_at next Stop.OutOfMemory reads (left, unput) =
          let at = run_ends_at d.faults d.reads d.may_leave d.moment d.left_since (desk_terms r) disk start run.told left.told desk next run.on_disk left.serves in record {
            told = run.told;
            unwritten = at.0;
            ends = tt;
            on_disk = at.2;
            wrote = lines_cut (answering r start) ([], None) 2 before mid (run.told, None) number run.on_talk read pending tape held_now few same (run.told, at.0) Stop.OutOfMemory reads
                ((λ line known. (at.0, may_be r line at.0 left.told at.1 (λ t is. left.means t is line known), refl)), unput);
          }

      -- what closes the script was put
      closed_so : (result : Result Outcome Stop) → DayCloses r desk.desk number Known read.held held_now result → PutsClosing (answering r start) (run.told, None) number Known read.held held_now result
      closed_so result (inl (outcome, out, is, closes, puts)) = inl (
        outcome,
        out,
        (λ piece known. (end_by run.told desk.desk.faults outcome is run.on_disk.none run.on_disk.some, subst (λ h. out ≡ closing r number piece h) run.on_disk.ran (closes piece known))),
        puts,
      )
      closed_so result (inr refused) = inr refused

      served_closed : (result : Result Outcome Stop) → DayCloses r desk.desk number Known read.held held_now result → EndsServed run.told None result
      served_closed result (inl (outcome, out, is, closes, puts)) =
          served_put run.told read.held held_now out outcome result (served_by run.told outcome (end_by run.told desk.desk.faults outcome is run.on_disk.none run.on_disk.some)) puts
      served_closed result (inr (is, unput)) = subst (EndsServed run.told None) (sym is) tt

      pub closed_at : (result : Result Outcome Stop) → pending ≡ [] → WhereTold mid.tape (tape_behind pending tape) (ReadsNext line_limit mid read (Ok Next.End)) → DayCloses r desk.desk number Known read.held held_now result
          → LinesRan d r start before tape held_now disk desk.disk result
      closed_at result looked reads puts = record {
        told = run.told;
        unwritten = None;
        ends = served_closed result puts;
        on_disk = run_ends d.faults d.reads d.may_leave d.moment d.left_since (desk_terms r) disk start run.told desk run.on_disk;
        wrote = lines_closed (answering r start) ([], None) 2 before mid (run.told, None) number run.on_talk read pending tape held_now few same result looked reads (closed_so result puts);
      }

      pub past_at : (result : Result Outcome Stop) → pending ≡ [] → WhereTold mid.tape (tape_behind pending tape) (ReadsNext line_limit mid read (Ok Next.PastLimit)) → PutsEnd Outcome.Refused read.held held_now (toolong_line number) result
          → LinesRan d r start before tape held_now disk desk.disk result
      past_at result looked reads puts = record {
        told = run.told;
        unwritten = None;
        ends = served_put run.told read.held held_now (toolong_line number) Outcome.Refused result refl puts;
        on_disk = run_ends d.faults d.reads d.may_leave d.moment d.left_since (desk_terms r) disk start run.told desk run.on_disk;
        wrote = lines_past (answering r start) ([], None) 2 before mid (run.told, None) number run.on_talk read pending tape held_now few same result looked reads puts;
      }

      pub stopped_at : (stop : Stop) → (stop ≢ Stop.OutOfMemory → pending ≡ []) → WhereTold mid.tape (tape_behind pending tape) (ReadsNext line_limit mid read (Err stop)) → held_now ≡ read.held
          → LinesRan d r start before tape held_now disk desk.disk (Err stop)
      stopped_at stop looked reads unput = record {
        told = run.told;
        unwritten = None;
        ends = served_stopped run.told stop;
        on_disk = run_ends d.faults d.reads d.may_leave d.moment d.left_since (desk_terms r) disk start run.told desk run.on_disk;
        wrote = lines_stopped (answering r start) ([], None) 2 before mid (run.told, None) number run.on_talk read pending tape held_now few same stop looked reads unput;
      }
