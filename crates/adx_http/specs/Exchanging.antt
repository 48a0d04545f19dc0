-- One exchange over a link: what it was asked, and which bytes answer it. This project's own.
use Rattle.std.specs.Prelude.{◌≡◌, ◌⊎◌, ℕ, List, [], ◌∷◌, ◌++◌, take, false, Option, Some, None, option_map, Result, Ok, Err, ⊤}
use Rattle.adx_io.specs.declared.failed.Failed.{Failed}
use Rattle.adx_io.specs.Streams.{Tape, WhereTold}
use Rattle.adx_links.specs.Links.{Exchange, Exchanges, exchanges_in, begun, asking, Asks, Answers, Connection, Course, next_start, after_start}
use Rattle.http_connection.specs.BufferState.{Passes}
use Rattle.http_connection.specs.Messages.{ResponseRead, IsResponseThen, RefusesResponse}
use Rattle.http_connection.specs.State.{ConnState}
use Rattle.http_grammar.specs.declared.fault.HttpFault.{HttpFault}
use Rattle.httparse.specs.Grammar.{status_code}

-- the whole piece was asked, or some front of it
abbrev pub AsksAll : List ℕ → Result Unit Failed → Exchanges → Exchanges → Type 0
AsksAll piece (Ok done) old new = Asks piece old new
AsksAll piece (Err e) old new = (n : ℕ) × Asks (take n piece) old new

-- one exchange more, and what was asked and answered in it
pub record OneMore (host : List ℕ) (port : ℕ) (asked answered : List ℕ) (old new : Exchanges) : Type 0 where
  pub more : exchanges_in new ≡ exchanges_in old ++ record { host = host; port = port; asked = asked; answered = answered } ∷ []

-- A host was called and asked the request. After a fault it was asked some front of it, and where the start failed the
-- call may not have begun at all.
abbrev pub AskedIn : List ℕ → ℕ → List ℕ → Result Unit Failed → Exchanges → Exchanges → Type 0
AskedIn host port request (Ok done) old new = new ≡ record { past = exchanges_in old; now = Some (asking request (begun host port)) }
AskedIn host port request (Err e) old new =
    ((n : ℕ) × OneMore host port (take n request) [] old new) ⊎ (exchanges_in new ≡ exchanges_in old)

-- the bytes of the open connection: those answered so far, and those left
abbrev pub tape_of : Option Course → Option Tape
tape_of None = None
tape_of (Some c) = option_map (λ (k : Connection). k.tape) c.now

-- the plan of the starts to come is as before, and so are the bytes of the connection
pub record StandsAs (old new : Course) : Type 0 where
  pub plan : new.plan ≡ old.plan
  pub tape : tape_of (Some new) ≡ tape_of (Some old)

-- the bytes that the next start of a plan answers, none of them given yet
abbrev pub next_tape : Course → Tape
next_tape c = record { taken = []; left = (next_start c.plan).bytes }

-- one start of the plan is over; after one that succeeds all its bytes are left
abbrev pub WaitsForAnswer : Result Unit Failed → Course → Course → Type 0
WaitsForAnswer (Ok done) old new = (new.plan ≡ after_start old.plan) × (tape_of (Some new) ≡ Some (next_tape old))
WaitsForAnswer (Err e) old new = new.plan ≡ after_start old.plan

-- these bytes were taken over the connection, and the plan of the starts to come is as before
pub record TakesOver (bytes : List ℕ) (old new : Course) : Type 0 where
  pub plan : new.plan ≡ old.plan
  pub tape : WhereTold (tape_of (Some old)) (tape_of (Some new)) (Passes bytes)

-- some bytes were answered in the exchange that goes on: the same ones in what is said of it and in the plan
pub record Hears (old new : Option Exchanges) (before now : Option Course) : Type 0 where
  pub bytes : List ℕ
  pub talk : WhereTold old new (Answers bytes)
  pub plan : WhereTold before now (TakesOver bytes)

-- a connection that holds nothing of an earlier answer
pub record IsCleared (c : ConnState) : Type 0 where
  pub held : c.held ≡ []
  pub failed : c.failed ≡ false

-- what is made of all the bytes that a host answers: its response, which is heard, or what is wrong with it
abbrev pub MadeOf : {H T : Type 0} → (H → ℕ → List ℕ → T → Type 0) → H → ℕ → List ℕ → Result T HttpFault → Type 0
MadeOf hears hearer limit bytes (Ok heard) =
    (r : ResponseRead) × (rest : List ℕ) × IsResponseThen limit bytes r rest × hears hearer (status_code r.head) r.body heard
MadeOf hears hearer limit bytes (Err HttpFault.ReadFault) = ⊤
MadeOf hears hearer limit bytes (Err fault) = RefusesResponse limit bytes fault

-- what was heard is made of some response
abbrev pub HeardSome : {H T : Type 0} → (H → ℕ → List ℕ → T → Type 0) → H → T → Type 0
HeardSome hears hearer heard = (status : ℕ) × (body : List ℕ) × hears hearer status body heard

-- what is made of the bytes that the open connection has left
abbrev pub HeardFrom : {H T : Type 0} → (H → ℕ → List ℕ → T → Type 0) → H → ℕ → Result T HttpFault → Course → Course → Type 0
HeardFrom hears hearer limit result old new = WhereTold (tape_of (Some old)) (tape_of (Some new)) (λ o n. MadeOf hears hearer limit o.left result)

-- One exchange more, in which the host was asked the whole request. After a fault of the link it was asked some front of
-- it, and where the start failed the call may not have begun at all.
abbrev pub Exchanged : {T : Type 0} → List ℕ → ℕ → List ℕ → Result T HttpFault → Exchanges → Exchanges → Type 0
Exchanged host port request (Err HttpFault.ReadFault) old new =
    ((n : ℕ) × (answered : List ℕ) × OneMore host port (take n request) answered old new) ⊎ (exchanges_in new ≡ exchanges_in old)
Exchanged host port request result old new = (answered : List ℕ) × OneMore host port request answered old new

-- one start of the plan is over, and the answer is made of the bytes that it was to give
pub record Answered {H T : Type 0} (hears : H → ℕ → List ℕ → T → Type 0) (hearer : H) (limit : ℕ) (result : Result T HttpFault) (old new : Course) : Type 0 where
  pub plan : new.plan ≡ after_start old.plan
  pub made : MadeOf hears hearer limit (next_start old.plan).bytes result

-- what was answered in an exchange is a front of the bytes that its start was to give
abbrev pub IsFrontOf : List ℕ → List ℕ → Type 0
IsFrontOf front bytes = (rest : List ℕ) × (bytes ≡ front ++ rest)

-- where there is one exchange more, what was answered in it is a front of the bytes that its start was to give
abbrev pub AnswersFront : Course → Exchanges → Exchanges → Type 0
AnswersFront c old new = (e : Exchange) → exchanges_in new ≡ exchanges_in old ++ e ∷ [] → IsFrontOf e.answered (next_start c.plan).bytes
