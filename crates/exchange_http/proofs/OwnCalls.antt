-- The calls of a desk that nobody else calls, as steps.
use Rattle.std.proofs.Common.{◌≡◌, ℕ, ◌<◌, ◌≤◌, ◌^◌, List, [], ◌∷◌, ◌++◌, map, length, Option, Some, None, Result, Ok, Err, IfOk, IfErr, OnOk, OnErr, refl, sym, ap, ◌∙◌, subst}
use Rattle.std.proofs.lemmas.List.Elements.{All-nil, All-cons}
use Rattle.adx_desk.specs.Asked.{ask_for}
use Rattle.adx_desk.specs.Desks.{DeskState, OnDisk}
use Rattle.adx_desk.specs.Endings.{EndsAsk, EndsNotice}
use Rattle.adx_desk.specs.Histories.{DeskTerms, longest_size}
use Rattle.adx_desk.specs.Shared.{MayBeFull}
use Rattle.adx_desk.specs.Serving.{Serves, ServesAll}
use Rattle.adx_desk.specs.declared.done.Done.{Done}
use Rattle.adx_desk.specs.declared.fault.DeskFault.{DeskFault}
use Rattle.day_journal.specs.declared.disk.Disk.{Ghosts}
use Rattle.answer_lines.specs.declared.faults.Fault.{Fault}
use Rattle.day_journal.specs.Tails.{size_of}
use Rattle.day_rules.specs.declared.answer.Answer.{Answer}
use Rattle.day_rules.specs.declared.ask.Ask.{Ask}
use Rattle.day_rules.specs.declared.entry.Entry.{Entry}
use Rattle.day_rules.specs.Asks.{IsUndecided, IsWellFormed}
use Rattle.day_rules.specs.Laws.{Arrival, after_arrival, after_arrivals, arrival_reply}
use Rattle.day_rules.specs.Legal.{IsLegal}
use Rattle.campaign_book.specs.Accounts.{IsBudget}
use Rattle.day_rules.specs.DayMeters.{meters_after}
use Rattle.day_rules.specs.Entries.{BudgetChange}
use Rattle.day_rules.specs.Replies.{Call, ask, set_budget, tick, ask_reply, budget_reply, reply, tick_reply}
use Rattle.day_rules.specs.declared.meters.Meters.{Meters}
use Rattle.day_rules.specs.Runs.{IsCall, Turn}
use Rattle.day_rules.proofs.Running.{run_legal}
use Rattle.adx_desk.specs.Called.{Called, IsRoomy, MayEnd, turn_of, was_done, was_given_up}
use Rattle.adx_desk.specs.DayDesks.{IsAsked, IsChanged, IsNoticed, IsTicked, Looks, Reads, RanTogether, Takes, ended_by, fault_of_disk}
use Rattle.adx_desk.specs.Steps.{AreSteps, alone, took}
use Rattle.adx_desk.specs.Together.{call_by, took_in_turn}
use Rattle.adx_desk.proofs.Notices.{in_turn}
use Rattle.adx_desk.specs.Records.{RunsOn}
use Rattle.adx_desk.proofs.RunsCalls.{runs_none}
use Rattle.adx_desk.proofs.RunsOfCalls.{runs_done, runs_given_up, runs_notice, runs_refused, runs_ticked, runs_unticked}
use Rattle.adx_desk.proofs.RunsTogether.{batch_done}
use Rattle.day_machine.specs.Batches.{AreApart, BatchState, answers_in_turn, entries_in_turn}
use Rattle.day_machine.specs.declared.batch.TheConstants.{BATCH_LIMIT}
use Rattle.day_machine.proofs.InTurn.{arrivals_are}
use Rattle.exchange_http.specs.OwnLaws.{told_notices}
use Rattle.exchange_http.specs.Owned.{OwnLost, OwnRuns}
use Rattle.adx_desk.specs.Meanings.{Told}
use Rattle.adx_desk.specs.OnDisk.{FullOnly}

-- a call is answered that the journal is full only where it may be
full_may : (terms : DeskTerms) (history : List Entry) (entry : Option Entry) (size : ℕ) → FullOnly terms history entry (Some (Fault.JournalFull size)) → MayBeFull terms history entry size
full_may terms history None size full = full
full_may terms history (Some e) size full = (full.0, full.1)

-- the only fault of a tick, a notice or a batch is the disk's
pub own_cause : {T : Type 0} (before now : ℕ) (old new : DeskState) (result : Result T DeskFault) → EndsNotice before now old new result → IfErr result (λ (fault : DeskFault). fault ≡ DeskFault.DiskFault)
own_cause before now old new (Ok done) ends = tt
own_cause before now old new (Err DeskFault.DiskFault) ends = refl
own_cause before now old new (Err (DeskFault.JournalFull size)) ends = absurd ends
own_cause before now old new (Err (DeskFault.BadEntry at)) ends = absurd ends
own_cause before now old new (Err (DeskFault.OtherRoster kept)) ends = absurd ends
own_cause before now old new (Err (DeskFault.NotAJournal at)) ends = absurd ends
own_cause before now old new (Err (DeskFault.BadLength at)) ends = absurd ends
own_cause before now old new (Err DeskFault.OutOfMemory) ends = absurd ends

-- notices that are done in turn come one after another
along_in_turn : (terms : DeskTerms) (history : List Entry) (calls : List Arrival) → IsLegal terms.day history → AreSteps alone terms history (took_in_turn history calls) (after_arrivals history calls)
along_in_turn terms history [] legal = refl
along_in_turn terms history (x ∷ calls) legal =
    let c : Called = record { at = history; call = call_by x; ended = was_done } in
    let taken = All-cons (λ (t : Turn). IsCall (length terms.day.budgets) t.call) (turn_of c) [] tt (All-nil (λ (t : Turn). IsCall (length terms.day.budgets) t.call)) in
    (refl, record { legal = legal; taken = tt; may_end = tt }, along_in_turn terms (after_arrival history x) calls (run_legal terms.day history (turn_of c ∷ []) legal taken))

module _ {D : Type 0} (d : Ghosts D) where
  abbrev On : OnDisk D → OnDisk D → List Told → Type 0
  On = RunsOn d.faults d.may_leave d.moment d.left_since

  -- a look
  pub own_looked : (old : OnDisk D) (IsAt : List Entry → Type 0) → ((c : List ℕ) → d.left_since old.disk (d.moment old.disk) c → d.may_leave old.disk c) → d.lasts old.disk old.disk → IsLegal old.desk.terms.day old.desk.history
      → IsAt old.desk.history → Looks (OwnRuns d) old old IsAt
  own_looked old IsAt only_now lasts legal is = (
    old.desk.history,
    record { along = (refl, legal, refl); terms = refl; on_disk = λ l. runs_none d.faults d.may_leave d.moment d.left_since old l only_now; lasts = lasts },
    is,
  )

  -- a reading of the meters
  pub own_read : (old : OnDisk D) (meters : Meters) → ((c : List ℕ) → d.left_since old.disk (d.moment old.disk) c → d.may_leave old.disk c) → d.lasts old.disk old.disk → IsLegal old.desk.terms.day old.desk.history
      → meters ≡ meters_after old.desk.history → Reads (OwnRuns d) old old meters
  own_read old meters only_now lasts legal is = (
    old.desk.history,
    record { along = (refl, (legal, is), refl); terms = refl; on_disk = λ l. runs_none d.faults d.may_leave d.moment d.left_since old l only_now; lasts = lasts },
  )

  -- a call that was done
  own_done : (old new : OnDisk D) (call : Call) → IsLegal old.desk.terms.day old.desk.history → IsCall (length old.desk.terms.day.budgets) call → On old new (record { call = call; fault = None } ∷ []) → d.lasts old.disk new.disk
      → OwnRuns d old new (took (record { at = old.desk.history; call = call; ended = was_done }) ∷ [])
  own_done old new call legal taken runs lasts =
      record { along = (refl, record { legal = legal; taken = taken; may_end = tt }, runs.history); terms = runs.terms; on_disk = λ l. runs; lasts = lasts }

  -- one that was given up
  own_given_up : (old new : OnDisk D) (call : Call) (fault : Fault) → IsLegal old.desk.terms.day old.desk.history → IsCall (length old.desk.terms.day.budgets) call → MayEnd old.desk.terms old.desk.history call (was_given_up fault)
      → On old new (record { call = call; fault = Some fault } ∷ []) → d.lasts old.disk new.disk → OwnRuns d old new (took (record { at = old.desk.history; call = call; ended = was_given_up fault }) ∷ [])
  own_given_up old new call fault legal taken may runs lasts =
      record { along = (refl, record { legal = legal; taken = taken; may_end = may }, runs.history); terms = runs.terms; on_disk = λ l. runs; lasts = lasts }

  -- a tick, by the clauses of `Desk::tick`
  pub own_ticked : (old new : OnDisk D) (now : ℕ) (result : Result Answer DeskFault) → IsLegal old.desk.terms.day old.desk.history → now < 2 ^ 63 → IfOk result (λ (a : Answer). a ≡ (tick_reply old.desk.history now).answer)
      → Serves d.may_leave d.moment d.left_since old new (tick_reply old.desk.history now).entry result → EndsNotice (d.faults old.disk) (d.faults new.disk) old.desk new.desk result → d.lasts old.disk new.disk
      → IfOk result (IsTicked (OwnRuns d) old new now)
  own_ticked old new now (Ok answer) legal small is s ends lasts =
      (old.desk.history, own_done old new (tick now) legal small (runs_ticked d.faults d.may_leave d.moment d.left_since old new now answer legal small s ends) lasts, is)
  own_ticked old new now (Err fault) legal small is s ends lasts = tt

  pub own_unticked : (old new : OnDisk D) (now : ℕ) (result : Result Answer DeskFault) → IsLegal old.desk.terms.day old.desk.history → now < 2 ^ 63
      → Serves d.may_leave d.moment d.left_since old new (tick_reply old.desk.history now).entry result → EndsNotice (d.faults old.disk) (d.faults new.disk) old.desk new.desk result → d.lasts old.disk new.disk
      → OnErr result (Takes (OwnRuns d) old new (tick now) fault_of_disk (λ at. Unit {0}))
  own_unticked old new now (Ok answer) legal small s ends lasts = tt
  own_unticked old new now (Err fault) legal small s ends lasts =
      (old.desk.history, own_given_up old new (tick now) Fault.Disk legal small tt (runs_unticked d.faults d.may_leave d.moment d.left_since old new now fault legal small s ends) lasts, tt)

  -- a notice, by the clauses of `Desk::notice`
  pub own_noticed : (old new : OnDisk D) (x : Arrival) (result : Result Answer DeskFault) → IsLegal old.desk.terms.day old.desk.history → IfOk result (λ (a : Answer). a ≡ (arrival_reply old.desk.history x).answer)
      → Serves d.may_leave d.moment d.left_since old new (arrival_reply old.desk.history x).entry result → EndsNotice (d.faults old.disk) (d.faults new.disk) old.desk new.desk result → d.lasts old.disk new.disk
      → IfOk result (IsNoticed (OwnRuns d) old new x)
  own_noticed old new x (Ok answer) legal is s ends lasts =
      (old.desk.history, own_done old new (call_by x) legal tt (runs_notice d.faults d.may_leave d.moment d.left_since old new x (Ok answer) legal s ends) lasts, is)
  own_noticed old new x (Err fault) legal is s ends lasts = tt

  pub own_unnoticed : (old new : OnDisk D) (x : Arrival) (result : Result Answer DeskFault) → IsLegal old.desk.terms.day old.desk.history
      → Serves d.may_leave d.moment d.left_since old new (arrival_reply old.desk.history x).entry result → EndsNotice (d.faults old.disk) (d.faults new.disk) old.desk new.desk result → d.lasts old.disk new.disk
      → OnErr result (Takes (OwnRuns d) old new (call_by x) fault_of_disk (λ at. Unit {0}))
  own_unnoticed old new x (Ok answer) legal s ends lasts = tt
  own_unnoticed old new x (Err fault) legal s ends lasts =
      (old.desk.history, own_given_up old new (call_by x) Fault.Disk legal tt tt (runs_notice d.faults d.may_leave d.moment d.left_since old new x (Err fault) legal s ends) lasts, tt)

  -- an ask or a change of a budget, by the clauses of `Desk::ask` and `Desk::set_budget`
  module _ (old new : OnDisk D) (call : Call) (legal : IsLegal old.desk.terms.day old.desk.history) (taken : IsCall (length old.desk.terms.day.budgets) call) (roomy : IsRoomy call) (lasts : d.lasts old.disk new.disk) where
    pub own_told : (told : Fault) → MayEnd old.desk.terms old.desk.history call (was_given_up told) → On old new (record { call = call; fault = Some told } ∷ [])
        → Takes (OwnRuns d) old new call (was_given_up told) (λ at. Unit {0})
    own_told told may runs = (old.desk.history, own_given_up old new call told legal taken may runs lasts, tt)

    pub own_refused : {T : Type 0} → ((c : List ℕ) → d.left_since old.disk (d.moment old.disk) c → d.may_leave old.disk c) → (result : Result T DeskFault)
        → Serves d.may_leave d.moment d.left_since old new (reply old.desk.terms.day old.desk.history call).entry result
        → EndsAsk (d.faults old.disk) (d.faults new.disk) old.desk new.desk (reply old.desk.terms.day old.desk.history call).entry result
        → IfErr result (λ (e : DeskFault). (e ≡ DeskFault.DiskFault → ⊥) → new ≡ old) → size_of old.desk.journal ≤ longest_size old.desk.terms old.desk.history
        → IfErr result (λ (e : DeskFault). Takes (OwnRuns d) old new call (ended_by e) (λ at. Unit {0}))
    own_refused only_now (Ok done) s ends same short = tt
    own_refused {T = T} only_now (Err DeskFault.DiskFault) s ends same short =
        own_told Fault.Disk tt (runs_given_up d.faults d.may_leave d.moment d.left_since {T = T} old new call DeskFault.DiskFault Fault.Disk refl legal taken roomy s ends same short)
    own_refused {T = T} only_now (Err (DeskFault.JournalFull size)) s ends same short =
        let fault = Fault.JournalFull size in
        let runs = runs_given_up d.faults d.may_leave d.moment d.left_since {T = T} old new call (DeskFault.JournalFull size) fault refl legal taken roomy s ends same short in
        own_told fault
        (roomy, full_may old.desk.terms old.desk.history (reply old.desk.terms.day old.desk.history call).entry size (runs.full [] (record { call = call; fault = Some fault }) [] refl)) runs
    own_refused only_now (Err DeskFault.OutOfMemory) s ends same short =
        let runs = runs_refused d.faults d.may_leave d.moment d.left_since old new DeskFault.OutOfMemory refl legal only_now same in (
          old.desk.history,
          record {
            along = (refl, record { legal = legal; taken = taken; may_end = roomy }, runs.history);
            terms = runs.terms;
            on_disk = λ l. runs;
            lasts = lasts;
          },
          tt,
        )
    own_refused only_now (Err fault) s ends same short = absurd ends

    pub own_taken : {T : Type 0} (done : T) → Serves {T = T} d.may_leave d.moment d.left_since old new (reply old.desk.terms.day old.desk.history call).entry (Ok done)
        → EndsAsk {T = T} (d.faults old.disk) (d.faults new.disk) old.desk new.desk (reply old.desk.terms.day old.desk.history call).entry (Ok done)
        → OwnRuns d old new (took (record { at = old.desk.history; call = call; ended = was_done }) ∷ [])
    own_taken done s ends = own_done old new call legal taken (runs_done d.faults d.may_leave d.moment d.left_since old new call done legal taken s ends.1) lasts

  pub own_asked : (old new : OnDisk D) (a : Ask) → IsLegal old.desk.terms.day old.desk.history → IsWellFormed (length old.desk.terms.day.budgets) a → IsUndecided a → d.lasts old.disk new.disk
      → (result : Result Done DeskFault) → IfOk result (λ (done : Done). done.answer ≡ (ask_reply old.desk.terms.day old.desk.history a).answer) → IfOk result (λ (done : Done). done.ask ≡ ask_for new.desk.history done.answer)
      → Serves d.may_leave d.moment d.left_since old new (ask_reply old.desk.terms.day old.desk.history a).entry result
      → EndsAsk (d.faults old.disk) (d.faults new.disk) old.desk new.desk (ask_reply old.desk.terms.day old.desk.history a).entry result
      → IfOk result (IsAsked old.desk.terms.day (OwnRuns d) old new a)
  own_asked old new a legal formed undecided lasts (Ok done) is copy s ends = (
    old.desk.history,
    own_taken old new (ask a) legal (formed, undecided) tt lasts done s ends,
    record { answer = is; copy = copy ∙ ap (λ (h : List Entry). ask_for h done.answer) s.history },
  )
  own_asked old new a legal formed undecided lasts (Err fault) is copy s ends = tt

  pub own_changed : (old new : OnDisk D) (x : BudgetChange) → IsLegal old.desk.terms.day old.desk.history → 1 ≤ x.change → IsBudget x.budget → d.lasts old.disk new.disk
      → (result : Result Answer DeskFault) → IfOk result (λ (a : Answer). a ≡ (budget_reply old.desk.terms.day old.desk.history x).answer)
      → Serves d.may_leave d.moment d.left_since old new (budget_reply old.desk.terms.day old.desk.history x).entry result
      → EndsAsk (d.faults old.disk) (d.faults new.disk) old.desk new.desk (budget_reply old.desk.terms.day old.desk.history x).entry result
      → IfOk result (IsChanged (OwnRuns d) old new old.desk.terms.day x)
  own_changed old new x legal first within lasts (Ok answer) is s ends = (old.desk.history, own_taken old new (set_budget x) legal (first, within) tt lasts answer s ends, is)
  own_changed old new x legal first within lasts (Err fault) is s ends = tt

  -- a batch, by the clauses of `Desk::batch`
  module _ (old new : OnDisk D) (batch batch_now : BatchState) (legal : IsLegal old.desk.terms.day old.desk.history) (few : length batch.calls ≤ BATCH_LIMIT) (apart : AreApart batch.calls) (lasts : d.lasts old.disk new.disk) where
    pub own_together : {T : Type 0} (result : Result T DeskFault) → OnOk result (batch_now ≡ record batch { answers = Some (answers_in_turn old.desk.history batch.calls) })
        → ServesAll d.may_leave d.moment d.left_since old new (entries_in_turn old.desk.history batch.calls) result → EndsNotice (d.faults old.disk) (d.faults new.disk) old.desk new.desk result
        → OnOk result (RanTogether (OwnRuns d) old new batch batch_now)
    own_together (Ok done) answers s ends =
        let h = old.desk.history in
        let steps = took_in_turn h batch.calls in
        let runs = batch_done d.faults d.may_leave d.moment d.left_since old new batch.calls done legal few apart s ends in
        let grown : new.desk.history ≡ h ++ entries_in_turn h batch.calls = s.history in (
          h,
          record {
            along = subst (AreSteps alone old.desk.terms h steps) (arrivals_are h batch.calls ∙ sym grown) (along_in_turn old.desk.terms h batch.calls legal);
            terms = s.terms;
            on_disk = λ l. subst (On old new) (sym (told_notices batch.calls (map Some (answers_in_turn h batch.calls)) steps (in_turn h batch.calls))) runs;
            lasts = lasts;
          },
          answers,
        )
    own_together (Err fault) answers s ends = tt

    pub own_lost : {T : Type 0} (result : Result T DeskFault) → OnErr result (batch_now ≡ batch)
        → ServesAll d.may_leave d.moment d.left_since old new (entries_in_turn old.desk.history batch.calls) result → EndsNotice (d.faults old.disk) (d.faults new.disk) old.desk new.desk result
        → (entries_in_turn old.desk.history batch.calls ≡ [] → new ≡ old)
        → OnErr result (OwnLost d old new batch.calls × (batch_now ≡ batch))
    own_lost (Ok done) same s ends unmoved = tt
    own_lost (Err DeskFault.DiskFault) same s ends unmoved = (
      record {
        serves = record { terms = s.terms; since = s.since; history = tt; same = s.same; any_moment = s.any_moment; done = tt; acknowledged = tt; doubted = s.doubted };
        fails = ends;
        unmoved = unmoved;
        lasts = lasts;
      },
      same,
    )
    own_lost (Err fault) same s ends unmoved = absurd ends

-- what was written after nothing
pub behind_none : {T E : Type 0} (result : Result T E) (before now table : List ℕ) → before ≡ [] → OnOk result (now ≡ before ++ table) → OnOk result (now ≡ table)
behind_none (Ok x) before now table none is = is ∙ ap (λ (l : List ℕ). l ++ table) none
behind_none (Err e) before now table none is = tt
