-- What a run that prints of a history wrote, by what was read and what was put.
use Rattle.std.proofs.Common.{◌≡◌, ◌≢◌, ◌⊎◌, inl, inr, ℕ, List, [], ◌∷◌, ◌++◌, Option, Result, Ok, Err, refl, sym, ap, ◌∙◌, subst, arith, append_assoc, append-nil}
use Rattle.adx_io.specs.Streams.{Tape, WhereTold}
use Rattle.adx_io.specs.declared.rest.Rest.{Rest}
use Rattle.adx_io.specs.declared.stop.Stop.{Stop}
use Rattle.adx_io.proofs.Moved.{took_none}
use Rattle.adx_desk.specs.declared.fault.DeskFault.{DeskFault}
use Rattle.command_runs.specs.Documents.{document}
use Rattle.command_runs.specs.Meanings.{PutsEnd, Wrote}
use Rattle.command_runs.specs.Skipped.{SkipsRest}
use Rattle.command_runs.specs.declared.outcome.Outcome.{Outcome}
use Rattle.command_runs.proofs.Documents.{put_wrote, stopped}
use Rattle.command_runs.proofs.Told.{told_map}
use Rattle.day_rules.specs.declared.entry.Entry.{Entry}
use Rattle.deal_floor.specs.declared.roster.Roster.{Roster}
use Rattle.history_runs.specs.Output.{unopened_line}
use Rattle.script_lines.specs.Refusals.{roster_refused_line}
use Rattle.script_lines.specs.declared.refusal.RosterRefusal.{RosterRefusal}
use Rattle.history_runs.specs.Histories.{Opening, Printed, Prints, PutsTold, tells}
use Rattle.history_runs.specs.Unopened.{MayEndAs, PutsUnopened, unopened_end}
use Rattle.history_runs.proofs.Unopened.{may_end, unopened_by}

-- all that is printed of a history was put
pub printed_whole : (prints : Prints) (r : Roster) (history : List Entry) (held held_now : Option (List ℕ)) → Printed prints r history held held_now (Ok tt) → PutsTold prints r (Opening.opened history) held held_now (Ok Outcome.Done)
printed_whole prints r history held held_now p = inl (Outcome.Done, p.0, (λ bytes. (refl, refl, p.1)), (refl, p.2))

-- the run was cut short while it was put
pub printed_part : (prints : Prints) (r : Roster) (history : List Entry) (held held_now : Option (List ℕ)) (stop : Stop) → Printed prints r history held held_now (Err stop) → PutsTold prints r (Opening.opened history) held held_now (Err stop)
printed_part prints r history held held_now Stop.ReadFault p = absurd p
printed_part prints r history held held_now Stop.WriteFault p = inl (Outcome.Done, p.0, (λ bytes. (refl, refl, p.1)), p.2)
printed_part prints r history held held_now Stop.OutOfMemory (inl same) = inr (same, refl)
printed_part prints r history held held_now Stop.OutOfMemory (inr p) = inl (Outcome.Done, p.0, (λ bytes. (refl, refl, p.1)), p.2)

-- how a run may end whose day was opened
pub opened_ends : (prints : Prints) (r : Roster) (history : List Entry) (held held_now : Option (List ℕ)) (result : Result Outcome Stop) → PutsTold prints r (Opening.opened history) held held_now result → MayEndAs (Ok Outcome.Done) result
opened_ends prints r history held held_now result (inl p) = subst (λ o. MayEndAs (Ok o) result) (p.2 []).1 (may_end p.0 held held_now p.1 result p.3)
opened_ends prints r history held held_now result (inr nothing) = inr (inr nothing.1)

-- why the day wasn't opened, as what is written once the input was read
why_said : (prints : Prints) (r : Roster) (why : DeskFault) (held held_now : Option (List ℕ)) (result : Result Outcome Stop) → (((outcome : Outcome) × (unopened_end why ≡ Ok outcome) × PutsEnd outcome held held_now (unopened_line why) result) ⊎ ((held_now ≡ held) × (result ≡ Err Stop.OutOfMemory)))
    → PutsTold prints r (Opening.given_up why) held held_now result
why_said prints r why held held_now result (inl p) = inl (p.0, unopened_line why, (λ bytes. (refl, p.1, refl)), p.2)
why_said prints r why held held_now result (inr nothing) = inr nothing

pub unopened_said : (prints : Prints) (r : Roster) (why : DeskFault) (held held_now : Option (List ℕ)) (result : Result Outcome Stop) → PutsUnopened why held held_now result → PutsTold prints r (Opening.given_up why) held held_now result
unopened_said prints r why held held_now result puts = why_said prints r why held held_now result (unopened_by held held_now why result puts)

-- a run whose line that refuses its input is put ends in no other way
pub not_refused : (held held_now : Option (List ℕ)) (bytes : List ℕ) (result : Result Outcome Stop) (other : Outcome) → PutsEnd Outcome.Refused held held_now bytes result → other ≢ Outcome.Refused → result ≢ Ok other
not_refused held held_now bytes (Ok ended) other puts apart = λ is. apart (cc (is, puts.0))
not_refused held held_now bytes (Err stop) other puts apart = λ is. cc is

module _ (prints : Prints) (r : Roster) (allowed : ℕ) (tape now : Option Tape) (held held_now : Option (List ℕ)) where
  pub told_said : (o : Opening) (result : Result Outcome Stop) → WhereTold tape now (SkipsRest allowed (Ok Rest.Whole)) → PutsTold prints r o held held_now result → WhereTold tape now (λ x y. Wrote (document allowed (tells prints r o)) x.left y.left held held_now result)
  told_said o result reads (inl said) = told_map tape now (SkipsRest allowed (Ok Rest.Whole)) _ reads (λ x y s.
      put_wrote allowed (tells prints r o) held held_now x.left x.left y.left said.1 said.0 result (sym (append-nil x.left) ∙ ap (λ l. x.left ++ l) (sym s.0)) (inl (s.0, s.1, said.2 x.left)) said.3)
  told_said o result reads (inr nothing) = subst (λ e. WhereTold tape now (λ x y. Wrote (document allowed (tells prints r o)) x.left y.left held held_now e)) (sym nothing.1)
      (told_map tape now (SkipsRest allowed (Ok Rest.Whole)) _ reads (λ x y s.
      stopped allowed (tells prints r o) held held_now Stop.OutOfMemory x.left x.left y.left (sym (append-nil x.left) ∙ ap (λ l. x.left ++ l) (sym s.0)) s.1 nothing.0))

  pub told_long : (result : Result Outcome Stop) → WhereTold tape now (SkipsRest allowed (Ok Rest.PastLimit)) → PutsEnd Outcome.Refused held held_now (roster_refused_line RosterRefusal.Long) result
      → WhereTold tape now (λ x y. Wrote (document allowed (tells prints r Opening.unopened)) x.left y.left held held_now result)
  told_long result reads puts = told_map tape now (SkipsRest allowed (Ok Rest.PastLimit)) _ reads (λ x y s.
      put_wrote allowed (tells prints r Opening.unopened) held held_now x.left (s.0 ++ s.1 ∷ []) y.left (roster_refused_line RosterRefusal.Long) Outcome.Refused result
      (s.2 ∙ sym (append_assoc s.0 (s.1 ∷ []) y.left)) (inr (s.0, s.1, refl, s.3, (refl, refl, refl))) puts)

  pub told_stopped : (stop : Stop) → WhereTold tape now (SkipsRest allowed (Err stop)) → held_now ≡ held → WhereTold tape now (λ x y. Wrote (document allowed (tells prints r Opening.unopened)) x.left y.left held held_now (Err stop))
  told_stopped Stop.ReadFault reads same = told_map tape now (SkipsRest allowed (Err Stop.ReadFault)) _ reads (λ x y s. (s.0, [], s.1, (s.2, refl), same ∙ took_none held))
  told_stopped Stop.WriteFault reads same = told_map tape now (SkipsRest allowed (Err Stop.WriteFault)) _ reads (λ x y s. (s.0, [], [], [], [], s.1, (refl, inr (refl, omega (arith, s.2))), refl, same ∙ took_none held))
  told_stopped Stop.OutOfMemory reads same = told_map tape now (SkipsRest allowed (Err Stop.OutOfMemory)) _ reads (λ x y s. (s.0, [], [], [], [], s.1, (refl, inr (refl, omega (arith, s.2))), refl, same ∙ took_none held))
