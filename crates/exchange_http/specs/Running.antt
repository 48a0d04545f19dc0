-- What was done of a connection between two messages. Private: only private clauses cite this file.
use Rattle.std.specs.Prelude.{◌≡◌, ◌⊎◌, ◌≤◌, ℕ, List, [], ◌∷◌, ◌++◌, length, All, Bool, true, false, Option, Some, None, Result, Ok, Err}
use Rattle.std.specs.List.{AllZip}
use Rattle.std.specs.Io.KnownBytes.{append_known}
use Rattle.adx_io.specs.Streams.{Rises, Tape, Took, WhereTold}
use Rattle.adx_io.specs.declared.failed.Failed.{Failed}
use Rattle.http_service.specs.Steps.{WritesRefusal}
use Rattle.adx_desk.specs.Steps.{Step}
use Rattle.adx_desk.specs.Together.{TakesNotices}
use Rattle.adx_desk.specs.declared.day_desk.DayDesk.{Ghosts as DeskGhosts}
use Rattle.day_rules.specs.Laws.{Arrival}
use Rattle.day_rules.specs.declared.answer.Answer.{Answer}
use Rattle.deal_floor.specs.declared.roster.Roster.{Roster}
use Rattle.fan_out.specs.declared.lane.Lane.{Lane}
use Rattle.fan_out.specs.Lanes.{Outcome}
use Rattle.http_connection.specs.Messages.{Request, AreRequests, IsUnfinishedRequest, RefusesRequest}
use Rattle.http_connection.specs.State.{room_of}
use Rattle.http_connection.specs.declared.conn.ConnEnd.{ConnEnd}
use Rattle.http_grammar.specs.Requests.{is_kept}
use Rattle.http_grammar.specs.declared.fault.HttpFault.{HttpFault}
use Rattle.http_service.specs.Connections.{AreSpent, Brings, BringsLast, CloseLast, Gave, GoOn, TookFront}
use Rattle.http_service.specs.Replies.{answer_bytes}
use Rattle.http_service.specs.declared.limits.TheConstants.{MESSAGE_LIMIT, REQUEST_LIMIT}
use Rattle.exchange_messages.specs.Courses.{AnswersOn, GivesUpOn, begun}
use Rattle.exchange_http.specs.Gathered.{Moves, Replied, count_of}
use Rattle.exchange_messages.specs.Meanings.{Means, notifies}
use Rattle.exchange_messages.specs.Outcomes.{outcome_reply}
use Rattle.exchange_http.specs.Serving.{EndsWith, IsAny}
use Rattle.exchange_http.specs.declared.over.Over.{Over}
use Rattle.exchange_http.specs.declared.stop.Stop.{Stop}

-- a message is this notice
abbrev pub Waits : Request → Arrival → Type 0
Waits request x = Means request (notifies x.kind x.auction x.award)

-- the bytes of the reply to a notice by its outcome
abbrev pub outcome_bytes : Bool → Option Answer → List ℕ
outcome_bytes close o = answer_bytes close false (outcome_reply o).answer (outcome_reply o).body

-- the bytes of the replies to notices by their outcomes, of which the last may close the connection
abbrev pub outcomes_bytes : Bool → List (Option Answer) → List ℕ
outcomes_bytes close [] = []
outcomes_bytes close (o ∷ []) = outcome_bytes close o
outcomes_bytes close (o ∷ p ∷ outcomes) = outcome_bytes false o ++ outcomes_bytes close (p ∷ outcomes)

-- messages keep their connection, or the last of them doesn't
abbrev pub StayTo : Bool → List Request → Type 0
StayTo false ms = All (λ (m : Request). is_kept m.head ≡ true) ms
StayTo true ms =
    (before : List Request) × (last : Request) × (ms ≡ before ++ last ∷ [])
    × All (λ (m : Request). is_kept m.head ≡ true) before × (is_kept last.head ≡ false)

-- what came of a source: messages, and more may come, with the bytes that are held of them and how many messages came;
-- messages, and no more are read; or so, once one more is counted with those that were taken
pub data Coming : Type 0 where
  more : List ℕ → ℕ → Coming
  ended : Over → Coming
  before_one : Request → Coming → Coming

-- the next message is refused, or the source failed
abbrev pub CameToFault : Option Tape → Option Tape → List Request → HttpFault → Type 0
CameToFault tape tape_now ms HttpFault.ReadFault =
    GoOn ms × Brings REQUEST_LIMIT tape tape_now ms IsAny × Gave REQUEST_LIMIT tape tape_now ms (IsUnfinishedRequest REQUEST_LIMIT)
CameToFault tape tape_now ms fault = GoOn ms × Brings REQUEST_LIMIT tape tape_now ms (λ rest. RefusesRequest REQUEST_LIMIT rest fault)

-- why no more messages are read
abbrev pub CameToEnd : Option Tape → Option Tape → List Request → Over → Type 0
CameToEnd tape tape_now ms Over.Closed =
    (GoOn ms × Brings REQUEST_LIMIT tape tape_now ms (λ rest. rest ≡ [])) ⊎ (CloseLast ms × BringsLast REQUEST_LIMIT tape tape_now ms)
CameToEnd tape tape_now ms Over.Spent = AreSpent ms × BringsLast REQUEST_LIMIT tape tape_now ms
CameToEnd tape tape_now ms (Over.Fault fault) = CameToFault tape tape_now ms fault

-- messages came, and their replies may fail
abbrev pub MayFail : Option Tape → Option Tape → List Request → Type 0
MayFail tape tape_now ms = (GoOn ms ⊎ (CloseLast ms ⊎ AreSpent ms)) × Brings REQUEST_LIMIT tape tape_now ms IsAny

-- these messages came, and may all stay; what is held beyond them is at most what a connection has room for
pub record CameAndStay (tape tape_now : Option Tape) (ahead : List ℕ) (count : ℕ) (ms : List Request) : Type 0 where
  pub many : length ms ≡ count
  pub few : count ≤ MESSAGE_LIMIT
  pub fits : length ahead ≤ room_of REQUEST_LIMIT
  pub stay : All (λ (m : Request). is_kept m.head ≡ true) ms
  pub are : WhereTold tape tape_now (λ o n. AreRequests REQUEST_LIMIT o.left ms (ahead ++ n.left))

abbrev pub CameSo : Option Tape → Option Tape → Coming → List Request → Type 0
CameSo tape tape_now (more ahead count) ms = CameAndStay tape tape_now ahead count ms
CameSo tape tape_now (ended over) ms = CameToEnd tape tape_now ms over
CameSo tape tape_now (before_one m coming) ms =
    GoOn ms × Brings REQUEST_LIMIT tape tape_now ms IsAny × BringsLast REQUEST_LIMIT tape tape_now (ms ++ m ∷ [])
    × CameSo tape tape_now coming (ms ++ m ∷ [])

-- a stop as the end of a connection
abbrev pub end_of : Stop → ConnEnd
end_of Stop.WriteFault = ConnEnd.WriteFault
end_of Stop.OutOfMemory = ConnEnd.OutOfMemory
end_of Stop.ReadFault = ConnEnd.ReadFault

-- what a fault of the next message comes to: the source's stops the connection, and any other ends its messages
abbrev pub fault_over : HttpFault → Result (Option Over) Stop
fault_over HttpFault.ReadFault = Err Stop.ReadFault
fault_over HttpFault.BadHead = Ok (Some (Over.Fault HttpFault.BadHead))
fault_over HttpFault.HeadTooLong = Ok (Some (Over.Fault HttpFault.HeadTooLong))
fault_over HttpFault.LengthRequired = Ok (Some (Over.Fault HttpFault.LengthRequired))
fault_over HttpFault.BodyTooLong = Ok (Some (Over.Fault HttpFault.BodyTooLong))
fault_over HttpFault.BadChunk = Ok (Some (Over.Fault HttpFault.BadChunk))
fault_over HttpFault.Cut = Ok (Some (Over.Fault HttpFault.Cut))
fault_over HttpFault.Coding = Ok (Some (Over.Fault HttpFault.Coding))

module _ {Y : Type 0} (runs : Y → Y → List Step → Type 0) where
  -- notices that waited were taken, and their replies gathered
  pub record Flushes (close : Bool) (notices : List Arrival) (old new : Y) (held held_now : Option (List ℕ))
      (least waiting least_now waiting_now : ℕ) : Type 0 where
    pub outcomes : List (Option Answer)
    pub takes : TakesNotices runs old new notices outcomes
    pub holds : held_now ≡ append_known held (outcomes_bytes close outcomes)
    pub moves : Moves (length notices) held least waiting least_now waiting_now

  -- the sink failed before, or while the replies were gathered
  abbrev pub FlushFails : Bool → List Arrival → Y → Y → Option (List ℕ) → Option (List ℕ) → ℕ → ℕ → ℕ → ℕ → Type 0
  FlushFails close notices old new held held_now least waiting least_now waiting_now =
      ((new ≡ old) × (held_now ≡ held) × (least_now ≡ least) × (waiting_now ≡ waiting))
      ⊎ ((outcomes : List (Option Answer)) × TakesNotices runs old new notices outcomes
      × (front back : List ℕ) × (outcomes_bytes close outcomes ≡ front ++ back) × (held_now ≡ append_known held front)
      × Moves (length notices) held least waiting least_now waiting_now)

module _ {Y L : Type 0} (y : DeskGhosts Y) (Works : List ℕ → List ℕ → Lane L → Lane L → Outcome → Type 0) (IsMoment : ℕ → Type 0) (r : Roster) where
  -- Messages were replied or their notices wait, from a desk and lanes on, over a source and after what a sink took before.
  pub record IsUnderWay (start : Y) (lanes : List (Lane L)) (tape tape_now : Option Tape) (coming : Coming)
      (before : Option (List ℕ)) (now : Y) (lanes_now : List (Lane L)) (notices : List Arrival) (close : Bool)
      (held : Option (List ℕ)) (least waiting : ℕ) : Type 0 where
    pub steps : List Step
    pub requests : List Request
    pub late : List Request
    pub ran : y.runs start now steps
    pub came : CameSo tape tape_now coming (requests ++ late)
    pub cut : MayFail tape tape_now requests
    pub waits : AllZip Waits late notices
    pub stay : StayTo close late
    pub replied : Replied (AnswersOn Works IsMoment r) (begun lanes) (record { steps = steps; lanes = lanes_now }) requests before held least waiting

  -- a step ended the connection so
  abbrev pub EndsHere : Y → List (Lane L) → Option Tape → Option Tape → Option (List ℕ) → Y → List (Lane L) → Option (List ℕ) → ConnEnd → Type 0
  EndsHere start lanes tape tape_now before now lanes_now sunk end =
      (steps : List Step) × y.runs start now steps
      × EndsWith (AnswersOn Works IsMoment r) (GivesUpOn Works IsMoment r) REQUEST_LIMIT tape tape_now before sunk
      (begun lanes) (record { steps = steps; lanes = lanes_now }) end

  -- what came of the next message: it was taken, and more may come, or none; or the connection ended
  abbrev pub StepGives : Y → List (Lane L) → Option Tape → Option Tape → List ℕ → ℕ → Option (List ℕ) → Y
      → List (Lane L) → List Arrival → Option (List ℕ) → Option (List ℕ) → ℕ → ℕ → Result (Option Over) Stop → Type 0
  StepGives start lanes tape tape_now ahead count before now lanes_now notices held sunk least waiting (Ok None) =
      IsUnderWay start lanes tape tape_now (more ahead count) before now lanes_now notices false held least waiting
  StepGives start lanes tape tape_now ahead count before now lanes_now notices held sunk least waiting (Ok (Some over)) =
      IsUnderWay start lanes tape tape_now (ended over) before now lanes_now notices false held least waiting
  StepGives start lanes tape tape_now ahead count before now lanes_now notices held sunk least waiting (Err stop) =
      EndsHere start lanes tape tape_now before now lanes_now sunk (end_of stop)

-- all that was gathered for a sink was put
pub record IsSettled (held : Option (List ℕ)) (left : List ℕ) (least : ℕ) : Type 0 where
  pub none : left ≡ []
  pub all : least ≡ count_of held

-- how a connection ends by a fault of its next message, by what the sink took before and then
abbrev pub EndsAt : Option (List ℕ) → Option (List ℕ) → HttpFault → Result ConnEnd Failed → Type 0
EndsAt held sunk fault (Ok ConnEnd.Cut) = (fault ≡ HttpFault.Cut) × (sunk ≡ held)
EndsAt held sunk fault (Ok (ConnEnd.Refused f)) = (f ≡ fault) × WritesRefusal Took held sunk fault
EndsAt held sunk fault (Ok ConnEnd.ReadFault) = (fault ≡ HttpFault.ReadFault) × (sunk ≡ held)
EndsAt held sunk fault (Ok end) = ⊥
EndsAt held sunk fault (Err failed) = WritesRefusal TookFront held sunk fault

-- how it ends where its messages are over
abbrev pub EndsOver : Option (List ℕ) → Option (List ℕ) → Over → Result ConnEnd Failed → Type 0
EndsOver held sunk Over.Closed result = (result ≡ Ok ConnEnd.Closed) × (sunk ≡ held)
EndsOver held sunk Over.Spent result = (result ≡ Ok ConnEnd.Spent) × (sunk ≡ held)
EndsOver held sunk (Over.Fault fault) result = EndsAt held sunk fault result

-- the end is that of messages that are so over
abbrev pub IsEndOf : Over → ConnEnd → Type 0
IsEndOf Over.Closed end = end ≡ ConnEnd.Closed
IsEndOf Over.Spent end = end ≡ ConnEnd.Spent
IsEndOf (Over.Fault fault) end =
    ((end ≡ ConnEnd.ReadFault) × (fault ≡ HttpFault.ReadFault)) ⊎ ((end ≡ ConnEnd.Cut) × (fault ≡ HttpFault.Cut))
    ⊎ (end ≡ ConnEnd.Refused fault)

-- the counts of a sink where a step that reads nothing stopped: it failed, or memory was refused
abbrev pub StopsBy : ℕ → ℕ → Stop → Type 0
StopsBy before now Stop.WriteFault = (before ≤ now) × Rises before now
StopsBy before now Stop.OutOfMemory = now ≡ before
StopsBy before now Stop.ReadFault = ⊥

abbrev pub StopCauses : {T : Type 0} → ℕ → ℕ → Result T Stop → Type 0
StopCauses before now (Ok done) = now ≡ before
StopCauses before now (Err stop) = StopsBy before now stop

-- the counts of a source where no more messages are read: a fault that ends the messages isn't the source's
abbrev pub OverReads : ℕ → ℕ → Over → Type 0
OverReads read read_now (Over.Fault HttpFault.ReadFault) = ⊥
OverReads read read_now over = read_now ≡ read

-- the counts of source and sink where a step stopped: the sink failed, memory was refused, or the source failed
abbrev pub StepStops : (read read_now write write_now : ℕ) → Stop → Type 0
StepStops read read_now write write_now Stop.WriteFault = (read_now ≡ read) × (write ≤ write_now) × Rises write write_now
StepStops read read_now write write_now Stop.OutOfMemory = (read_now ≡ read) × (write_now ≡ write)
StepStops read read_now write write_now Stop.ReadFault = (read ≤ read_now) × Rises read read_now × (write_now ≡ write)

-- the counts of source and sink after all messages, and after one
abbrev pub OverCauses : (read read_now write write_now : ℕ) → Result Over Stop → Type 0
OverCauses read read_now write write_now (Ok over) = OverReads read read_now over × (write_now ≡ write)
OverCauses read read_now write write_now (Err stop) = StepStops read read_now write write_now stop

abbrev pub StepCauses : (read read_now write write_now : ℕ) → Result (Option Over) Stop → Type 0
StepCauses read read_now write write_now (Ok None) = (read_now ≡ read) × (write_now ≡ write)
StepCauses read read_now write write_now (Ok (Some over)) = OverReads read read_now over × (write_now ≡ write)
StepCauses read read_now write write_now (Err stop) = StepStops read read_now write write_now stop
