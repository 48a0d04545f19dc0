-- Private, cited by the jobs alone: what a job on a shared desk makes of the desk, and what it found out.
use Rattle.std.specs.Prelude.{◌≡◌, ℕ, ◌+◌, ◌≤◌, List, [], ◌∷◌, ◌++◌, length, Option, Some, None, Result, Ok, Err, IfErr, IfOk, OnOk, OnErr, ⊤}
use Rattle.day_rules.specs.declared.ask.Ask.{Ask}
use Rattle.day_rules.specs.declared.entry.Entry.{Entry}
use Rattle.day_rules.specs.Laws.{Arrival}
use Rattle.day_rules.specs.Replies.{with_entry}
use Rattle.day_machine.specs.Batches.{BatchState, answers_in_turn}
use Rattle.turnstile.specs.Turns.{AreRight, HasRisen, added_by, faults_in}
use Rattle.turnstile.specs.declared.limits.TheConstants.{MOST_ADDED}
use Rattle.adx_desk.specs.Asked.{ask_for}
use Rattle.adx_desk.specs.Desks.{OnDisk}
use Rattle.adx_desk.specs.declared.fault.DeskFault.{DeskFault}
use Rattle.adx_desk.specs.Histories.{DeskTerms}
use Rattle.adx_desk.specs.declared.shared.OpenedWith.{OpenedWith}
use Rattle.adx_desk.specs.declared.turn.Call.{Call}
use Rattle.adx_desk.specs.declared.turn.Turn.{Turn}
use Rattle.adx_desk.specs.Shared.{IsTurnAt, is_disk_fault, opened_with, terms_in}
use Rattle.shared_desk.specs.declared.ran.Ran.{Ran}
use Rattle.shared_desk.specs.declared.batching.RanTogether.{RanTogether}
use Rattle.shared_desk.specs.Callers.{entry_of, raised_by, turn_at, turns_in_turn}

-- the turns of a batch that ended so
abbrev pub turns_by : List Entry → DeskTerms → List Arrival → Result ⊤ DeskFault → List Turn
turns_by history terms calls (Ok done) = turns_in_turn terms history calls
turns_by history terms calls (Err fault) = []

-- by how much it raised the faults
abbrev pub fault_in : Result ⊤ DeskFault → ℕ
fault_in (Ok done) = 0
fault_in (Err fault) = 1

-- how a batch ended that was answered at this history: all of it was answered, or the disk failed and it waits still
pub record EndsBatch (before : List Entry) (old new : BatchState) (ended : Result ⊤ DeskFault) : Type 0 where
  pub answers : OnOk ended (new ≡ record old { answers = Some (answers_in_turn before old.calls) })
  pub waits : OnErr ended (new ≡ old)
  pub cause : IfErr ended (λ fault. fault ≡ DeskFault.DiskFault)

module _ {D : Type 0} where
  -- what a job that noted these turns and raised the faults by so much tells of the desk before it and behind it
  pub record IsRun (old new : OnDisk D) (turns : List Turn) (raised : ℕ) : Type 0 where
    pub items : new.desk.history ≡ old.desk.history ++ added_by entry_of turns
    pub few : length (added_by entry_of turns) ≤ MOST_ADDED
    pub fixed : opened_with new.desk.terms new.since ≡ opened_with old.desk.terms old.since
    pub no_fewer : old.desk.faults ≤ new.desk.faults
    pub one_at_most : new.desk.faults ≤ old.desk.faults + 1
    pub right : AreRight entry_of (IsTurnAt (terms_in (opened_with old.desk.terms old.since))) old.desk.history turns
    pub noted : faults_in (λ (t : Turn). is_disk_fault t.ended) turns ≤ raised
    pub counted : HasRisen raised old.desk.faults new.desk.faults

  -- the turn of a call that ran
  abbrev pub turn_of : Call → Ran D → Turn
  turn_of call ran = turn_at ran.at.value.desk.terms ran.at.value.desk.history call ran.ended

  -- a call was made of a desk, and is kept with the desk before it
  pub record Makes (old new : OnDisk D) (call : Call) (ran : Ran D) : Type 0 where
    pub terms : ran.at.value.desk.terms ≡ old.desk.terms
    pub history : ran.at.value.desk.history ≡ old.desk.history
    pub run : IsRun old new (turn_of call ran ∷ []) (raised_by ran.ended)

  -- the turn of a call, once it ran
  abbrev pub turn_where_ran : Call → Option (Ran D) → List Turn
  turn_where_ran call None = []
  turn_where_ran call (Some ran) = turn_of call ran ∷ []

  abbrev pub raised_where_ran : Option (Ran D) → ℕ
  raised_where_ran None = 0
  raised_where_ran (Some ran) = raised_by ran.ended

  -- the call ran at this history of a desk that was opened with this
  pub record RanAt (opened : OpenedWith) (before : List Entry) (call : Call) (found : Option (Ran D)) : Type 0 where
    pub ran : Ran D
    pub is : found ≡ Some ran
    pub terms : ran.at.value.desk.terms ≡ terms_in opened
    pub history : ran.at.value.desk.history ≡ before
    pub right : IsTurnAt (terms_in opened) before (turn_of call ran)

  -- the copy of a done ask is that of the ask that stands in the history then
  abbrev pub HasCopy : List Entry → Ask → Option Ask → Ran D → Type 0
  HasCopy before wanted copy ran =
      IfOk ran.ended (λ answer. copy ≡ ask_for (with_entry before (turn_of (Call.Ask wanted) ran).entry) answer)

  -- the same of an ask, with the copy that its answer speaks of
  pub record AskedAt (opened : OpenedWith) (before : List Entry) (wanted : Ask) (copy : Option Ask) (found : Option (Ran D)) : Type 0 where
    pub at : RanAt opened before (Call.Ask wanted) found
    pub copy_is : HasCopy before wanted copy at.ran

  -- the turns of a batch that ran
  abbrev pub turns_of : List Arrival → RanTogether D → List Turn
  turns_of calls ran = turns_by ran.at.value.desk.history ran.at.value.desk.terms calls ran.ended

  -- a batch with these calls was made of a desk, and is kept with the desk before it
  pub record MakesAll (old new : OnDisk D) (calls : List Arrival) (ran : RanTogether D) : Type 0 where
    pub terms : ran.at.value.desk.terms ≡ old.desk.terms
    pub history : ran.at.value.desk.history ≡ old.desk.history
    pub run : IsRun old new (turns_of calls ran) (fault_in ran.ended)

  -- the turns of a batch, once it ran
  abbrev pub turns_together : List Arrival → Option (RanTogether D) → List Turn
  turns_together calls None = []
  turns_together calls (Some ran) = turns_of calls ran

  abbrev pub raised_together : Option (RanTogether D) → ℕ
  raised_together None = 0
  raised_together (Some ran) = fault_in ran.ended

  -- the batch ran at this history of a desk that was opened with this
  pub record RanTogetherAt (opened : OpenedWith) (before : List Entry) (old new : BatchState) (found : Option (RanTogether D)) : Type 0 where
    pub ran : RanTogether D
    pub is : found ≡ Some ran
    pub terms : ran.at.value.desk.terms ≡ terms_in opened
    pub history : ran.at.value.desk.history ≡ before
    pub right : AreRight entry_of (IsTurnAt (terms_in opened)) before (turns_by before (terms_in opened) old.calls ran.ended)
    pub ends : EndsBatch before old new ran.ended
