-- What a connection means as a run over an input and an output: its messages are replied one after another (RFC 9112).
use Rattle.std.specs.Prelude.{◌≡◌, ◌⊎◌, ℕ, ◌+◌, ◌≤◌, List, [], ◌∷◌, ◌++◌, Some, Result, Ok, Err, length, ⊤}
use Rattle.adx_io.specs.declared.line_buffer.TheConstants.{CHUNK}
use Rattle.adx_io.specs.declared.stop.Stop.{Stop}
use Rattle.command_runs.specs.Meanings.{Meaning}
use Rattle.command_runs.specs.declared.outcome.Outcome.{Outcome}
use Rattle.http_connection.specs.Messages.{AreRequests, IsUnfinishedRequest, Request, RefusesRequest}
use Rattle.http_connection.specs.State.{room_of}
use Rattle.http_connection.specs.declared.conn.ConnEnd.{ConnEnd}
use Rattle.http_grammar.specs.declared.fault.HttpFault.{HttpFault}
use Rattle.http_service.specs.Connections.{Answering, AreSpent, CloseLast, GivingUp, GoOn, Replies}
use Rattle.http_service.specs.Replies.{fault_status, refusal_bytes, reply_to}
use Rattle.http_service.specs.declared.answer.Answer.{Answer}
use Rattle.http_service.specs.declared.limits.TheConstants.{REQUEST_LIMIT}

-- how a run ends whose connection ended so: one that was read to its end is done, whatever its last message was
abbrev pub result_by : ConnEnd → Result Outcome Stop
result_by ConnEnd.Closed = Ok Outcome.Done
result_by ConnEnd.Cut = Ok Outcome.Done
result_by (ConnEnd.Refused fault) = Ok Outcome.Done
result_by ConnEnd.ReadFault = Err Stop.ReadFault
result_by ConnEnd.WriteFault = Err Stop.WriteFault
result_by ConnEnd.Spent = Ok Outcome.Done
result_by ConnEnd.OutOfMemory = Err Stop.OutOfMemory

-- the ends of a connection that was read to an end of its own
abbrev pub IsOwnEnd : ConnEnd → Type 0
IsOwnEnd ConnEnd.Closed = ⊤
IsOwnEnd ConnEnd.Cut = ⊤
IsOwnEnd (ConnEnd.Refused fault) = ⊤
IsOwnEnd ConnEnd.ReadFault = ⊥
IsOwnEnd ConnEnd.WriteFault = ⊥
IsOwnEnd ConnEnd.Spent = ⊤
IsOwnEnd ConnEnd.OutOfMemory = ⊥

-- The most bytes that are taken beyond the last message of a connection that comes after a first line: what a connection has
-- room for, and the piece with which the line came.
abbrev pub most_beyond : ℕ
most_beyond = room_of REQUEST_LIMIT + CHUNK

-- The bytes that were taken and those that are left are these messages, and then a rest of which this is so. What was
-- taken beyond the messages comes first in it.
abbrev pub Come : ℕ → List ℕ → List ℕ → List Request → (List ℕ → List ℕ → Type 0) → Type 0
Come limit taken left ms Rest = (beyond : List ℕ) × AreRequests limit (taken ++ left) ms (beyond ++ left) × Rest beyond (beyond ++ left)

-- how a connection's last message was refused: after it nothing is read
abbrev pub IsRefusedFor : ℕ → HttpFault → List ℕ → List ℕ → Type 0
IsRefusedFor limit fault beyond rest = RefusesRequest limit rest fault

-- a connection ends after its last message: at most so many bytes were taken beyond it
abbrev pub IsLast : ℕ → List ℕ → List ℕ → Type 0
IsLast most beyond rest = length beyond ≤ most

-- nothing is said of what comes beyond the last message
abbrev pub IsAny : List ℕ → List ℕ → Type 0
IsAny beyond rest = Unit {0}

-- A connection of a service that begins in the state `s` and is left in the state `now`. A body has at most `limit` bytes,
-- and beyond the last message that ended a connection at most `most` bytes are taken.
module _ {S : Type 0} (answers : Answering S) (gives_up : GivingUp S) (limit most : ℕ) (s now : S) where
  -- Why no more is read of a connection: it ends after a message that keeps it; after one that doesn't; within a message;
  -- or as many came as it may bring.
  abbrev pub IsReadOut : List Request → List ℕ → List ℕ → Type 0
  IsReadOut ms taken left =
      (GoOn ms × Come limit taken left ms (λ beyond rest. rest ≡ []))
      ⊎ ((CloseLast ms × Come limit taken left ms (IsLast most))
      ⊎ ((GoOn ms × Come limit taken left ms (IsRefusedFor limit HttpFault.Cut))
      ⊎ (AreSpent ms × Come limit taken left ms (IsLast most))))

  -- a message was refused for a fault, and this is the reply that says so; the replies to those before it are this
  abbrev pub Refuses : List ℕ → List ℕ → List ℕ → List ℕ → Type 0
  Refuses taken left replies reply =
      (ms : List Request) × (fault : HttpFault) × (status : ℕ) × GoOn ms × Replies answers s ms replies now
      × (fault_status fault ≡ Some status) × (reply ≡ refusal_bytes status) × Come limit taken left ms (IsRefusedFor limit fault)

  -- all messages were replied
  abbrev pub EndsConnection : List ℕ → List ℕ → List ℕ → Type 0
  EndsConnection taken left out =
      ((ms : List Request) × Replies answers s ms out now × IsReadOut ms taken left)
      ⊎ ((replies reply : List ℕ) × Refuses taken left replies reply × (out ≡ replies ++ reply))

  -- the reply to the last message was being put after those to all others
  abbrev pub BreaksReply : List ℕ → List ℕ → List ℕ → List ℕ → Type 0
  BreaksReply taken left put last =
      (before : List Request) × (m : Request) × (between : S) × (answer : Answer) × (body : List ℕ) × GoOn before
      × Replies answers s before put between × answers between m answer body now × (last ≡ reply_to m answer body)
      × Come limit taken left (before ++ m ∷ []) (IsLast most)

  -- the replies to the last messages, which wait together and are at most so many, were being put after those to all others
  abbrev pub BreaksTogether : ℕ → List ℕ → List ℕ → List ℕ → List ℕ → Type 0
  BreaksTogether together taken left put last =
      (before waiting : List Request) × (between : S) × (length waiting ≤ together)
      × (GoOn (before ++ waiting) ⊎ (CloseLast (before ++ waiting) ⊎ AreSpent (before ++ waiting)))
      × Replies answers s before put between × Replies answers between waiting last now
      × Come limit taken left (before ++ waiting) IsAny

  -- memory was refused before any message came, or while one was answered, whose reply wasn't begun
  abbrev pub GaveUp : List ℕ → List ℕ → List ℕ → Type 0
  GaveUp taken left put =
      (ms : List Request) × (between : S) × Replies answers s ms put between × GoOn ms
      × (((ms ≡ []) × (now ≡ between) × (length taken ≤ most))
      ⊎ ((m : Request) × gives_up between m now × Come limit taken left (ms ++ m ∷ []) (IsLast most)))

  -- What a connection means, by how its run may end of its own, and by what was being put where the sink failed within the
  -- replies. Where the sink failed within the reply to a message that is refused, it took those to all messages before it.
  -- Example: two requests and a sink that fails within the second reply: the first reply is in the sink, and a
  -- front of the second.
  abbrev pub connection_by : (Outcome → Type 0) → (List ℕ → List ℕ → List ℕ → List ℕ → Type 0) → Meaning
  connection_by MayEnd Breaks = record {
    ends = λ outcome taken left out. MayEnd outcome × EndsConnection taken left out;
    awaits = λ taken out.
        (ms : List Request) × (rest : List ℕ) × Replies answers s ms out now × GoOn ms
        × AreRequests limit taken ms rest × IsUnfinishedRequest limit rest;
    breaks = λ taken left put last.
        Breaks taken left put last ⊎ (Refuses taken left put last ⊎ (GaveUp taken left put × (last ≡ [])));
  }

  -- the same of a connection whose run is done at each such end, and whose replies are put one by one: all replies but the
  -- last were in the sink where it failed
  abbrev pub connection : Meaning
  connection = connection_by (λ outcome. outcome ≡ Outcome.Done) BreaksReply

-- a run that serves a connection ends as that ended
abbrev pub EndsServing : Result Outcome Stop → Type 0
EndsServing result = (end : ConnEnd) × (result ≡ result_by end)
