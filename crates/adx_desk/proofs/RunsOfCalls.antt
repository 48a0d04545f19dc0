-- The runs of the desk's own calls: a notice, a tick, an ask and a change of a budget.
use Rattle.std.proofs.Common.{◌≡◌, ℕ, ◌<◌, ◌≤◌, ◌^◌, List, [], ◌∷◌, length, Some, None, Result, Ok, Err, sym, ap, ◌∙◌, subst}
use Rattle.std.specs.Result.{result_ok}
use Rattle.adx_desk.specs.Desks.{OnDisk}
use Rattle.adx_desk.specs.Endings.{EndsAsk, EndsNotice}
use Rattle.adx_desk.specs.Histories.{longest_size}
use Rattle.adx_desk.specs.Lines.{told_as}
use Rattle.adx_desk.specs.Serving.{Serves}
use Rattle.adx_desk.specs.declared.fault.DeskFault.{DeskFault}
use Rattle.answer_lines.specs.declared.faults.Fault.{Fault}
use Rattle.day_journal.specs.Tails.{size_of}
use Rattle.day_rules.specs.declared.answer.Answer.{Answer}
use Rattle.day_rules.specs.declared.ask.Ask.{Ask}
use Rattle.day_rules.specs.Asks.{IsUndecided, IsWellFormed}
use Rattle.day_rules.specs.Laws.{Arrival, arrival_reply}
use Rattle.day_rules.specs.Legal.{IsLegal}
use Rattle.day_rules.specs.Replies.{Call, ask, ask_reply, reply, tick, tick_reply}
use Rattle.day_rules.specs.Runs.{IsCall}
use Rattle.adx_desk.proofs.DeskCalls.{ask_given_up, call_done, call_failed}
use Rattle.adx_desk.specs.Records.{RunsOn}
use Rattle.adx_desk.specs.Called.{IsRoomy}
use Rattle.adx_desk.specs.Together.{call_by}
use Rattle.adx_desk.specs.Told.{told_by}
use Rattle.adx_desk.proofs.RunsCalls.{runs_call, runs_none}

module _ {D : Type 0} (faults : D → ℕ) (may_leave : D → List ℕ → Type 0) (moment : D → ℕ) (left_since : D → ℕ → List ℕ → Type 0) where
  -- a call that was done
  pub runs_done : {T : Type 0} (old new : OnDisk D) (call : Call) (answer : T) → IsLegal old.desk.terms.day old.desk.history → IsCall (length old.desk.terms.day.budgets) call
      → Serves {T = T} may_leave moment left_since old new (reply old.desk.terms.day old.desk.history call).entry (Ok answer)
      → EndsNotice {T = T} (faults old.disk) (faults new.disk) old.desk new.desk (Ok answer)
      → RunsOn faults may_leave moment left_since old new (record { call = call; fault = None } ∷ [])
  runs_done old new call answer legal taken s ends =
      runs_call faults may_leave moment left_since old new (record { call = call; fault = None }) legal s.since
      (call_done faults may_leave moment left_since old new call answer taken s ends)

  -- one whose only fault is the disk's, and that it gave up
  pub runs_failed : {T : Type 0} (old new : OnDisk D) (call : Call) (fault : DeskFault) → IsLegal old.desk.terms.day old.desk.history → IsCall (length old.desk.terms.day.budgets) call
      → Serves {T = T} may_leave moment left_since old new (reply old.desk.terms.day old.desk.history call).entry (Err fault)
      → EndsNotice {T = T} (faults old.disk) (faults new.disk) old.desk new.desk (Err fault)
      → RunsOn faults may_leave moment left_since old new (record { call = call; fault = Some Fault.Disk } ∷ [])
  runs_failed old new call DeskFault.DiskFault legal taken s ends =
      runs_call faults may_leave moment left_since old new (record { call = call; fault = Some Fault.Disk }) legal s.since
      (call_failed faults may_leave moment left_since old new call taken s ends)
  runs_failed old new call (DeskFault.JournalFull size) legal taken s ends = absurd ends
  runs_failed old new call (DeskFault.BadEntry at) legal taken s ends = absurd ends
  runs_failed old new call (DeskFault.OtherRoster kept) legal taken s ends = absurd ends
  runs_failed old new call (DeskFault.NotAJournal at) legal taken s ends = absurd ends
  runs_failed old new call (DeskFault.BadLength at) legal taken s ends = absurd ends
  runs_failed old new call DeskFault.OutOfMemory legal taken s ends = absurd ends

  -- a notice, by the clauses of `Desk::notice`
  pub runs_notice : (old new : OnDisk D) (x : Arrival) (result : Result Answer DeskFault) → IsLegal old.desk.terms.day old.desk.history
      → Serves may_leave moment left_since old new (arrival_reply old.desk.history x).entry result
      → EndsNotice (faults old.disk) (faults new.disk) old.desk new.desk result
      → RunsOn faults may_leave moment left_since old new (told_by x (result_ok result) ∷ [])
  runs_notice old new x (Ok answer) legal s ends = runs_done old new (call_by x) answer legal tt s ends
  runs_notice old new x (Err fault) legal s ends = runs_failed old new (call_by x) fault legal tt s ends

  -- a tick that was done, by the clauses of `Desk::tick`
  pub runs_ticked : (old new : OnDisk D) (now : ℕ) (answer : Answer) → IsLegal old.desk.terms.day old.desk.history → now < 2 ^ 63
      → Serves {T = Answer} may_leave moment left_since old new (tick_reply old.desk.history now).entry (Ok answer)
      → EndsNotice {T = Answer} (faults old.disk) (faults new.disk) old.desk new.desk (Ok answer)
      → RunsOn faults may_leave moment left_since old new (record { call = tick now; fault = None } ∷ [])
  runs_ticked old new now answer legal small s ends = runs_done old new (tick now) answer legal small s ends

  -- one that the disk's fault gave up
  pub runs_unticked : (old new : OnDisk D) (now : ℕ) (fault : DeskFault) → IsLegal old.desk.terms.day old.desk.history → now < 2 ^ 63
      → Serves {T = Answer} may_leave moment left_since old new (tick_reply old.desk.history now).entry (Err fault)
      → EndsNotice {T = Answer} (faults old.disk) (faults new.disk) old.desk new.desk (Err fault)
      → RunsOn faults may_leave moment left_since old new (record { call = tick now; fault = Some Fault.Disk } ∷ [])
  runs_unticked old new now fault legal small s ends = runs_failed old new (tick now) fault legal small s ends

  -- an ask that was done, by the clauses of `Desk::ask`
  pub runs_asked : {T : Type 0} (old new : OnDisk D) (a : Ask) (done : T) → IsLegal old.desk.terms.day old.desk.history
      → IsWellFormed (length old.desk.terms.day.budgets) a → IsUndecided a
      → Serves {T = T} may_leave moment left_since old new (ask_reply old.desk.terms.day old.desk.history a).entry (Ok done)
      → EndsAsk {T = T} (faults old.disk) (faults new.disk) old.desk new.desk (ask_reply old.desk.terms.day old.desk.history a).entry (Ok done)
      → RunsOn faults may_leave moment left_since old new (record { call = ask a; fault = None } ∷ [])
  runs_asked old new a done legal formed undecided s ends = runs_done old new (ask a) done legal (formed, undecided) s ends.1

  -- an ask or a change of a budget that was given up by a fault that its reply says
  pub runs_given_up : {T : Type 0} (old new : OnDisk D) (call : Call) (fault : DeskFault) (told : Fault) → told_as fault ≡ Some told → IsLegal old.desk.terms.day old.desk.history
      → IsCall (length old.desk.terms.day.budgets) call → IsRoomy call
      → Serves {T = T} may_leave moment left_since old new (reply old.desk.terms.day old.desk.history call).entry (Err fault)
      → EndsAsk {T = T} (faults old.disk) (faults new.disk) old.desk new.desk (reply old.desk.terms.day old.desk.history call).entry (Err fault)
      → ((fault ≡ DeskFault.DiskFault → ⊥) → new ≡ old) → size_of old.desk.journal ≤ longest_size old.desk.terms old.desk.history
      → RunsOn faults may_leave moment left_since old new (record { call = call; fault = Some told } ∷ [])
  runs_given_up old new call fault told is legal taken roomy s ends same short =
      runs_call faults may_leave moment left_since old new (record { call = call; fault = Some told }) legal s.since
      (ask_given_up faults may_leave moment left_since old new call fault told is taken roomy s ends same short)

  -- one for which memory was refused: no call
  pub runs_refused : (old new : OnDisk D) (fault : DeskFault) → told_as fault ≡ None → IsLegal old.desk.terms.day old.desk.history → ((c : List ℕ) → left_since old.disk (moment old.disk) c → may_leave old.disk c)
      → ((fault ≡ DeskFault.DiskFault → ⊥) → new ≡ old) → RunsOn faults may_leave moment left_since old new []
  runs_refused old new fault none legal only_now same =
      subst (λ (d : OnDisk D). RunsOn faults may_leave moment left_since old d []) (sym (same (no_line fault none)))
      (runs_none faults may_leave moment left_since old legal only_now)
    where
      no_line : (f : DeskFault) → told_as f ≡ None → f ≡ DeskFault.DiskFault → ⊥
      no_line f is disk = cc (sym is ∙ ap told_as disk)
