-- What came of a day that couldn't be opened.
use Rattle.std.proofs.Common.{◌≡◌, ◌⊎◌, inl, inr, ◌∙◌, ℕ, ◌≤◌, List, [], ◌++◌, length, Option, Result, Ok, Err, refl, sym, ap, subst}
use Rattle.adx_desk.specs.declared.fault.DeskFault.{DeskFault}
use Rattle.adx_io.specs.Lines.{tape_behind}
use Rattle.adx_io.specs.Streams.{Tape, WhereTold}
use Rattle.adx_io.specs.declared.line_buffer.TheConstants.{CHUNK}
use Rattle.adx_io.specs.declared.stop.Stop.{Stop}
use Rattle.adx_io.proofs.Moved.{took_none}
use Rattle.command_runs.specs.Meanings.{PutsEnd, Wrote}
use Rattle.command_runs.specs.declared.outcome.Outcome.{Outcome}
use Rattle.command_runs.proofs.Told.{told_ahead}
use Rattle.history_runs.specs.Output.{unopened_line}
use Rattle.history_runs.specs.Unopened.{GivesUpBy, MayEndAs, PutsUnopened, PutsWhy, not_opened, unopened_end}

-- how a run may end whose last bytes were put so
pub may_end : (outcome : Outcome) (held held_now : Option (List ℕ)) (bytes : List ℕ) (result : Result Outcome Stop) → PutsEnd outcome held held_now bytes result → MayEndAs (Ok outcome) result
may_end outcome held held_now bytes (Ok ended) puts = inl (ap Ok puts.0)
may_end outcome held held_now bytes (Err Stop.ReadFault) puts = absurd puts
may_end outcome held held_now bytes (Err Stop.WriteFault) puts = inr (inl refl)
may_end outcome held held_now bytes (Err Stop.OutOfMemory) puts = inr (inr refl)

-- the line of a day that wasn't opened was put, or a prefix of it
pub unopened_put : (why : DeskFault) (held held_now : Option (List ℕ)) (result : Result Outcome Stop) → unopened_end why ≡ Ok Outcome.NoHistory → PutsWhy why held held_now result → PutsUnopened why held held_now result
unopened_put DeskFault.DiskFault held held_now result is puts = absurd (cc is)
unopened_put (DeskFault.JournalFull size) held held_now result is puts = puts
unopened_put (DeskFault.BadEntry at) held held_now result is puts = puts
unopened_put (DeskFault.OtherRoster kept) held held_now result is puts = puts
unopened_put (DeskFault.NotAJournal at) held held_now result is puts = puts
unopened_put (DeskFault.BadLength at) held held_now result is puts = puts
unopened_put DeskFault.OutOfMemory held held_now result is puts = absurd (cc is)

-- how a run ends whose day wasn't opened
why_ends : (why : DeskFault) (held held_now : Option (List ℕ)) (result : Result Outcome Stop) → PutsWhy why held held_now result → MayEndAs (Ok Outcome.NoHistory) result
why_ends why held held_now result (inl puts) = may_end Outcome.NoHistory held held_now (unopened_line why) result puts
why_ends why held held_now result (inr (unput, is)) = inr (inr is)

pub gives_up : (why : DeskFault) (held held_now : Option (List ℕ)) (result : Result Outcome Stop) → PutsUnopened why held held_now result → GivesUpBy why result
gives_up DeskFault.DiskFault held held_now result puts = puts.1
gives_up (DeskFault.JournalFull size) held held_now result puts = why_ends (DeskFault.JournalFull size) held held_now result puts
gives_up (DeskFault.BadEntry at) held held_now result puts = why_ends (DeskFault.BadEntry at) held held_now result puts
gives_up (DeskFault.OtherRoster kept) held held_now result puts = why_ends (DeskFault.OtherRoster kept) held held_now result puts
gives_up (DeskFault.NotAJournal at) held held_now result puts = why_ends (DeskFault.NotAJournal at) held held_now result puts
gives_up (DeskFault.BadLength at) held held_now result puts = why_ends (DeskFault.BadLength at) held held_now result puts
gives_up DeskFault.OutOfMemory held held_now result puts = puts.1

-- such a run ends as its cause says, or is cut short
pub gives_up_may : (why : DeskFault) (result : Result Outcome Stop) → GivesUpBy why result → MayEndAs (unopened_end why) result
gives_up_may DeskFault.DiskFault result is = inl is
gives_up_may (DeskFault.JournalFull size) result may = may
gives_up_may (DeskFault.BadEntry at) result may = may
gives_up_may (DeskFault.OtherRoster kept) result may = may
gives_up_may (DeskFault.NotAJournal at) result may = may
gives_up_may (DeskFault.BadLength at) result may = may
gives_up_may DeskFault.OutOfMemory result is = inl is

-- what was put, for any cause: its line, which may be empty, or a prefix of it; or nothing for want of memory
module _ (held held_now : Option (List ℕ)) where
  abbrev PutsLine : DeskFault → Result Outcome Stop → Type 0
  PutsLine why result =
      ((outcome : Outcome) × (unopened_end why ≡ Ok outcome) × PutsEnd outcome held held_now (unopened_line why) result)
      ⊎ ((held_now ≡ held) × (result ≡ Err Stop.OutOfMemory))

  why_put : (why : DeskFault) (result : Result Outcome Stop) → unopened_end why ≡ Ok Outcome.NoHistory → PutsWhy why held held_now result → PutsLine why result
  why_put why result is (inl puts) = inl (Outcome.NoHistory, is, puts)
  why_put why result is (inr nothing) = inr nothing

  pub unopened_by : (why : DeskFault) (result : Result Outcome Stop) → PutsUnopened why held held_now result → PutsLine why result
  unopened_by DeskFault.DiskFault result (same, is) = inl (Outcome.DiskFault, refl, subst (PutsEnd Outcome.DiskFault held held_now []) (sym is) (refl, same ∙ took_none held))
  unopened_by (DeskFault.JournalFull size) result puts = why_put (DeskFault.JournalFull size) result refl puts
  unopened_by (DeskFault.BadEntry at) result puts = why_put (DeskFault.BadEntry at) result refl puts
  unopened_by (DeskFault.OtherRoster kept) result puts = why_put (DeskFault.OtherRoster kept) result refl puts
  unopened_by (DeskFault.NotAJournal at) result puts = why_put (DeskFault.NotAJournal at) result refl puts
  unopened_by (DeskFault.BadLength at) result puts = why_put (DeskFault.BadLength at) result refl puts
  unopened_by DeskFault.OutOfMemory result nothing = inr nothing

-- and what it wrote: nothing more was asked of the source
module _ (pending left : List ℕ) (held held_now : Option (List ℕ)) (few : length pending ≤ CHUNK) where
  wrote_none : (why : DeskFault) → held_now ≡ held → Wrote (not_opened why) (pending ++ left) left held held_now (Err Stop.OutOfMemory)
  wrote_none why unput = (pending, [], [], [], [], refl, (few, refl, inr refl), refl, unput ∙ took_none held)

  wrote_line : (why : DeskFault) (result : Result Outcome Stop) → unopened_end why ≡ Ok Outcome.NoHistory → PutsEnd Outcome.NoHistory held held_now (unopened_line why) result → Wrote (not_opened why) (pending ++ left) left held held_now result
  wrote_line why (Ok outcome) is puts = (pending, unopened_line why, refl, (is ∙ ap Ok (sym puts.0), few, refl), puts.1)
  wrote_line why (Err Stop.ReadFault) is puts = absurd puts
  wrote_line why (Err Stop.WriteFault) is puts = (pending, [], unopened_line why, puts.0, puts.1, refl, (few, refl, inl refl), puts.2, puts.3)
  wrote_line why (Err Stop.OutOfMemory) is puts = (pending, [], unopened_line why, puts.0, puts.1, refl, (few, refl, inl refl), puts.2, puts.3)

  wrote_why : (why : DeskFault) (result : Result Outcome Stop) → unopened_end why ≡ Ok Outcome.NoHistory → PutsWhy why held held_now result → Wrote (not_opened why) (pending ++ left) left held held_now result
  wrote_why why result is (inl puts) = wrote_line why result is puts
  wrote_why why result is (inr (unput, at)) = subst (Wrote (not_opened why) (pending ++ left) left held held_now) (sym at) (wrote_none why unput)

  wrote_unopened : (why : DeskFault) (result : Result Outcome Stop) → PutsUnopened why held held_now result → Wrote (not_opened why) (pending ++ left) left held held_now result
  wrote_unopened DeskFault.DiskFault result puts = subst (Wrote (not_opened DeskFault.DiskFault) (pending ++ left) left held held_now) (sym puts.1) (pending, [], refl, (refl, few, refl), puts.0 ∙ took_none held)
  wrote_unopened (DeskFault.JournalFull size) result puts = wrote_why (DeskFault.JournalFull size) result refl puts
  wrote_unopened (DeskFault.BadEntry at) result puts = wrote_why (DeskFault.BadEntry at) result refl puts
  wrote_unopened (DeskFault.OtherRoster kept) result puts = wrote_why (DeskFault.OtherRoster kept) result refl puts
  wrote_unopened (DeskFault.NotAJournal at) result puts = wrote_why (DeskFault.NotAJournal at) result refl puts
  wrote_unopened (DeskFault.BadLength at) result puts = wrote_why (DeskFault.BadLength at) result refl puts
  wrote_unopened DeskFault.OutOfMemory result puts = subst (Wrote (not_opened DeskFault.OutOfMemory) (pending ++ left) left held held_now) (sym puts.1) (wrote_none DeskFault.OutOfMemory puts.0)

pub told_unopened : (pending : List ℕ) (tape : Option Tape) (held held_now : Option (List ℕ)) (why : DeskFault) (result : Result Outcome Stop) → length pending ≤ CHUNK → PutsUnopened why held held_now result
    → WhereTold (tape_behind pending tape) tape (λ x y. Wrote (not_opened why) x.left y.left held held_now result)
told_unopened pending tape held held_now why result few puts = told_ahead pending tape (λ x y. Wrote (not_opened why) x.left y.left held held_now result) (λ z. wrote_unopened pending z.left held held_now few why result puts)
