-- One call of the desk, as the calls of a generated day take it.
use Rattle.std.proofs.Common.{◌≡◌, ℕ, ◌≤◌, List, [], ◌∷◌, length, Option, Some, None, Result, Ok, Err, refl, sym, subst}
use Rattle.adx_desk.specs.Desks.{OnDisk}
use Rattle.adx_desk.specs.Endings.{EndsAsk, EndsNotice}
use Rattle.adx_desk.specs.Histories.{longest_size}
use Rattle.adx_desk.specs.Serving.{Serves}
use Rattle.adx_desk.specs.declared.fault.DeskFault.{DeskFault}
use Rattle.answer_lines.specs.declared.faults.Fault.{Fault}
use Rattle.day_journal.specs.Tails.{size_of}
use Rattle.day_rules.specs.declared.ask.Ask.{Ask}
use Rattle.day_rules.specs.Replies.{Call, ask, reply}
use Rattle.day_rules.specs.Runs.{IsCall}
use Rattle.command_gen.specs.declared.early.EarlyEnd.{EarlyEnd}
use Rattle.adx_desk.specs.Meanings.{Told}
use Rattle.adx_desk.proofs.DeskCalls.{ask_given_up, call_done, notice_given_up}
use Rattle.command_gen.specs.Taking.{PassedBy, TakesAsk, TakesCalls}
use Rattle.command_gen.proofs.Taking.{fault_alone, none_of, serves_one}

module _ {D T : Type 0} (faults : D → ℕ) (may_leave : D → List ℕ → Type 0) (moment : D → ℕ) (left_since : D → ℕ → List ℕ → Type 0) (old new : OnDisk D) (call : Call) where
  -- a notice or a tick that was done
  pub takes_done : (answer : T) → IsCall (length old.desk.terms.day.budgets) call → Serves {T = T} may_leave moment left_since old new (reply old.desk.terms.day old.desk.history call).entry (Ok answer)
      → EndsNotice {T = T} (faults old.disk) (faults new.disk) old.desk new.desk (Ok answer) → TakesCalls faults may_leave moment left_since old new (call ∷ []) (Ok tt)
  takes_done answer taken s none = record {
    told = record { call = call; fault = None } ∷ [];
    serves = serves_one faults may_leave moment left_since old new (record { call = call; fault = None }) (call_done faults may_leave moment left_since old new call answer taken s none);
    took = (refl, none_of (record { call = call; fault = None }) (λ is. cc is));
  }

  -- and one that was given up, which only the disk's fault does
  pub takes_failed : (fault : DeskFault) (result : Result (Unit {0}) EarlyEnd) → IsCall (length old.desk.terms.day.budgets) call → Serves {T = T} may_leave moment left_since old new (reply old.desk.terms.day old.desk.history call).entry (Err fault)
      → EndsNotice {T = T} (faults old.disk) (faults new.disk) old.desk new.desk (Err fault) → PassedBy fault result → TakesCalls faults may_leave moment left_since old new (call ∷ []) result
  takes_failed DeskFault.DiskFault result taken s ends passed =
      let t : Told = record { call = call; fault = Some Fault.Disk } in
      subst (TakesCalls faults may_leave moment left_since old new (call ∷ [])) (sym passed) (record {
        told = t ∷ [];
        serves = serves_one faults may_leave moment left_since old new t (notice_given_up {D = D} {T = T} faults may_leave moment left_since old new call DeskFault.DiskFault Fault.Disk refl taken s ends);
        took = (([], refl), fault_alone t refl);
      })
  takes_failed (DeskFault.JournalFull size) result taken s ends passed = absurd ends
  takes_failed (DeskFault.BadEntry at) result taken s ends passed = absurd ends
  takes_failed (DeskFault.OtherRoster kept) result taken s ends passed = absurd ends
  takes_failed (DeskFault.NotAJournal at) result taken s ends passed = absurd ends
  takes_failed (DeskFault.BadLength at) result taken s ends passed = absurd ends
  takes_failed DeskFault.OutOfMemory result taken s ends passed = absurd ends

-- an ask that was given up: passed over for lack of room in the journal, and else the end
pub ask_passed : {D T : Type 0} (faults : D → ℕ) (may_leave : D → List ℕ → Type 0) (moment : D → ℕ) (left_since : D → ℕ → List ℕ → Type 0) (old new : OnDisk D) (a : Ask) (fault : DeskFault) (passed : Result (Unit {0}) EarlyEnd) (result : Result (Option ℕ) EarlyEnd)
    → IsCall (length old.desk.terms.day.budgets) (ask a) → Serves {T = T} may_leave moment left_since old new (reply old.desk.terms.day old.desk.history (ask a)).entry (Err fault)
    → EndsAsk {T = T} (faults old.disk) (faults new.disk) old.desk new.desk (reply old.desk.terms.day old.desk.history (ask a)).entry (Err fault)
    → ((fault ≡ DeskFault.DiskFault → ⊥) → new ≡ old) → size_of old.desk.journal ≤ longest_size old.desk.terms old.desk.history
    → PassedBy fault passed → (passed ≡ Ok tt → result ≡ Ok None) → ((e : EarlyEnd) → passed ≡ Err e → result ≡ Err e) → TakesAsk faults may_leave moment left_since old new a result
ask_passed {D} {T} faults may_leave moment left_since old new a DeskFault.DiskFault passed result taken s ends same short is on stop =
    subst (TakesAsk faults may_leave moment left_since old new a) (sym (stop EarlyEnd.DiskFault is))
    (record { call = ask a; fault = Some Fault.Disk }, refl, ask_given_up {D = D} {T = T} faults may_leave moment left_since old new (ask a) DeskFault.DiskFault Fault.Disk refl taken tt s ends same short, refl)
ask_passed {D} {T} faults may_leave moment left_since old new a (DeskFault.JournalFull size) passed result taken s ends same short is on stop =
    subst (TakesAsk faults may_leave moment left_since old new a) (sym (on is)) (
      record { call = ask a; fault = Some (Fault.JournalFull size) },
      refl,
      ask_given_up {D = D} {T = T} faults may_leave moment left_since old new (ask a) (DeskFault.JournalFull size) (Fault.JournalFull size) refl taken tt s ends same short,
      (λ e. cc e),
      refl,
    )
ask_passed {D} {T} faults may_leave moment left_since old new a (DeskFault.BadEntry at) passed result taken s ends same short is on stop = absurd ends
ask_passed {D} {T} faults may_leave moment left_since old new a (DeskFault.OtherRoster kept) passed result taken s ends same short is on stop = absurd ends
ask_passed {D} {T} faults may_leave moment left_since old new a (DeskFault.NotAJournal at) passed result taken s ends same short is on stop = absurd ends
ask_passed {D} {T} faults may_leave moment left_since old new a (DeskFault.BadLength at) passed result taken s ends same short is on stop = absurd ends
ask_passed {D} {T} faults may_leave moment left_since old new a DeskFault.OutOfMemory passed result taken s ends same short is on stop =
    subst (TakesAsk faults may_leave moment left_since old new a) (sym (stop EarlyEnd.OutOfMemory is)) (same (λ e. cc e))
