-- How calls are taken on a desk, one after another. Only private clauses cite this file.
use Rattle.std.specs.Prelude.{◌≡◌, ◌≢◌, ℕ, List, [], ◌∷◌, ◌++◌, map, Option, Some, None, Result, Ok, Err}
use Rattle.adx_io.specs.declared.stop.Stop.{Stop}
use Rattle.adx_desk.specs.Desks.{OnDisk}
use Rattle.adx_desk.specs.declared.fault.DeskFault.{DeskFault}
use Rattle.answer_lines.specs.Table.{closing_table}
use Rattle.answer_lines.specs.declared.faults.Fault.{Fault}
use Rattle.adx_io.specs.Streams.{Took}
use Rattle.day_rules.specs.declared.answer.Answer.{Answer}
use Rattle.day_rules.specs.declared.ask.Ask.{Ask}
use Rattle.day_rules.specs.declared.entry.Entry.{Entry}
use Rattle.day_rules.specs.Replies.{Call, ask}
use Rattle.day_rules.specs.Terms.{Terms}
use Rattle.command_gen.specs.declared.early.EarlyEnd.{EarlyEnd}
use Rattle.adx_desk.specs.Answering.{ServesCall}
use Rattle.adx_desk.specs.Courses.{HasNoDiskFault}
use Rattle.deal_floor.specs.declared.roster.Roster.{Roster}
use Rattle.command_runs.specs.Meanings.{TookPrefix}
use Rattle.command_runs.specs.declared.outcome.Outcome.{Outcome}
use Rattle.adx_desk.specs.Meanings.{Told}
use Rattle.history_runs.specs.Script.{terms_by}
use Rattle.command_gen.specs.Generated.{AreFrom, AreOfAsk, AreOfDay, BeginDay, award_told}
use Rattle.command_gen.specs.GeneratedEnds.{EndsAtFault, EndsTaken}

-- the calls that were answered so
abbrev pub calls_of : List Told → List Call
calls_of told = map (λ (t : Told). t.call) told

-- a call that was given up by this fault: lack of the journal's room is passed over, and the others end the run
abbrev pub PassedBy : DeskFault → Result (Unit {0}) EarlyEnd → Type 0
PassedBy DeskFault.DiskFault result = result ≡ Err EarlyEnd.DiskFault
PassedBy (DeskFault.JournalFull size) result = result ≡ Ok tt
PassedBy (DeskFault.BadEntry at) result = ⊥
PassedBy (DeskFault.OtherRoster kept) result = ⊥
PassedBy (DeskFault.NotAJournal at) result = ⊥
PassedBy (DeskFault.BadLength at) result = ⊥
PassedBy DeskFault.OutOfMemory result = result ≡ Err EarlyEnd.OutOfMemory

-- the number of an answered ask's award, by the ask that the answer reports
abbrev pub award_in : Answer → Option Ask → Option ℕ
award_in (Answer.Awarded entry) None = None
award_in (Answer.Awarded entry) (Some a) = Some a.first
award_in answer told = None

-- the output was put, or a prefix of it
abbrev pub PutsOutput : (held held_now : Option (List ℕ)) → List ℕ → Result (Unit {0}) Stop → Type 0
PutsOutput held held_now out (Ok done) = Took held held_now out
PutsOutput held held_now out (Err Stop.ReadFault) = ⊥
PutsOutput held held_now out (Err Stop.WriteFault) = TookPrefix held held_now out
PutsOutput held held_now out (Err Stop.OutOfMemory) = ⊥

-- the closing table of a roster's day with this history was put, or a prefix of it; or memory was refused, and nothing was
abbrev pub PutsTable : Roster → List Entry → (held held_now : Option (List ℕ)) → Result Outcome Stop → Type 0
PutsTable r history held held_now (Ok Outcome.Done) = Took held held_now (closing_table r.campaigns (terms_by r) history)
PutsTable r history held held_now (Ok other) = ⊥
PutsTable r history held held_now (Err Stop.ReadFault) = ⊥
PutsTable r history held held_now (Err Stop.WriteFault) = TookPrefix held held_now (closing_table r.campaigns (terms_by r) history)
PutsTable r history held held_now (Err Stop.OutOfMemory) = held_now ≡ held

-- the calls were answered so on the desk, one after another
abbrev pub ServesCalls : {D : Type 0}
    → (faults : D → ℕ) (may_leave : D → List ℕ → Type 0) (moment : D → ℕ) (left_since : D → ℕ → List ℕ → Type 0) → OnDisk D
    → OnDisk D → List Told → Type 0
ServesCalls faults may_leave moment left_since old new [] = new ≡ old
ServesCalls faults may_leave moment left_since old new (t ∷ told) =
    (mid : OnDisk _) × ServesCall faults may_leave moment left_since old mid t × ServesCalls faults may_leave moment left_since mid new told

-- Which calls were taken, by how it ended: all; or some first ones, the last of which the disk's fault gave up; or some
-- first ones, and then memory was refused.
abbrev pub TookBy : (Whole Begin : List Told → Type 0) → Result (Unit {0}) EarlyEnd → List Told → Type 0
TookBy Whole Begin (Ok over) told = Whole told × HasNoDiskFault told
TookBy Whole Begin (Err EarlyEnd.DiskFault) told = Begin told × EndsAtFault told
TookBy Whole Begin (Err EarlyEnd.OutOfMemory) told = Begin told × HasNoDiskFault told

-- all these calls, and some first ones of them
abbrev pub AreCalls : List Call → List Told → Type 0
AreCalls calls told = calls_of told ≡ calls

abbrev pub BeginCalls : List Call → List Told → Type 0
BeginCalls calls told = (rest : List Call) × (calls ≡ calls_of told ++ rest)

-- some first ones of the calls of an ask
abbrev pub BeginAsk : Terms → ℕ → ℕ → List Entry → List Told → Type 0
BeginAsk terms seed number history told = (rest : List Told) × AreOfAsk terms seed number history (told ++ rest)

module _ {D : Type 0} (faults : D → ℕ) (may_leave : D → List ℕ → Type 0) (moment : D → ℕ)
    (left_since : D → ℕ → List ℕ → Type 0) (old new : OnDisk D) where
  -- calls were taken on the desk, and it ended so
  pub record Takes (Whole Begin : List Told → Type 0) (result : Result (Unit {0}) EarlyEnd) : Type 0 where
    pub told : List Told
    pub serves : ServesCalls faults may_leave moment left_since old new told
    pub took : TookBy Whole Begin result told

  -- these calls
  abbrev pub TakesCalls : List Call → Result (Unit {0}) EarlyEnd → Type 0
  TakesCalls calls result = Takes (AreCalls calls) (BeginCalls calls) result

  -- the calls of the ask with a number
  abbrev pub TakesNumber : ℕ → ℕ → Result (Unit {0}) EarlyEnd → Type 0
  TakesNumber seed number result =
      Takes (AreOfAsk old.desk.terms.day seed number old.desk.history) (BeginAsk old.desk.terms.day seed number old.desk.history) result

  -- the calls of a day of so many asks
  abbrev pub TakesDay : ℕ → ℕ → Result (Unit {0}) EarlyEnd → Type 0
  TakesDay seed asks result =
      Takes (AreOfDay old.desk.terms.day seed asks old.desk.history) (BeginDay old.desk.terms.day seed asks old.desk.history) result

  -- the calls of the first so many asks were taken, none of which the disk's fault gave up
  pub record TookFirst (seed number : ℕ) : Type 0 where
    pub told : List Told
    pub serves : ServesCalls faults may_leave moment left_since old new told
    pub first : AreFrom old.desk.terms.day seed number 0 old.desk.history told
    pub none : HasNoDiskFault told

  -- an ask was taken, and this is the number of its award, if it was awarded; or it was given up, or memory was refused
  abbrev pub TakesAsk : Ask → Result (Option ℕ) EarlyEnd → Type 0
  TakesAsk a (Ok award) =
      (t : Told) × (t.call ≡ ask a) × ServesCall faults may_leave moment left_since old new t × (t.fault ≢ Some Fault.Disk)
      × (award ≡ award_told old.desk.terms.day old.desk.history t.call t.fault)
  TakesAsk a (Err EarlyEnd.DiskFault) =
      (t : Told) × (t.call ≡ ask a) × ServesCall faults may_leave moment left_since old new t × (t.fault ≡ Some Fault.Disk)
  TakesAsk a (Err EarlyEnd.OutOfMemory) = new ≡ old

  -- a day's calls were taken, and its closing table was put
  pub record RunsCalls (r : Roster) (seed asks : ℕ) (held held_now : Option (List ℕ)) (result : Result Outcome Stop) : Type 0 where
    pub told : List Told
    pub serves : ServesCalls faults may_leave moment left_since old new told
    pub ends : EndsTaken r seed asks old.desk.history told held held_now result
