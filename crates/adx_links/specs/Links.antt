-- A link: a host is called, bytes are asked of it, and it answers. This project's own.
-- Example: after a start for which `abc` was planned, `ask` put and two bytes taken, the exchange that goes on has
-- `ask` asked and `ab` answered, and the connection has `c` left.
use Rattle.std.specs.Prelude.{◌≡◌, ◌⊎◌, ◌==◌, ◌-◌, ℕ, List, [], ◌∷◌, ◌++◌, get_or, drop, Bool, false, if◌then◌else◌, IsTrue, Option, Some, None, option_map, option_to_list, Result, Ok, Err, ⊤}
use Rattle.adx_io.specs.declared.failed.Failed.{Failed}
use Rattle.adx_links.specs.declared.planned.Planned.{Planned}
use Rattle.adx_io.specs.Streams.{Tape, WhereTold, Moved}

-- what one start led to: whom it called, and the bytes asked and answered since
pub record Exchange : Type 0 where
  pub host : List ℕ
  pub port : ℕ
  pub asked : List ℕ
  pub answered : List ℕ

-- the exchanges of a link: those that are over, in order of their starts, and the one that goes on
pub record Exchanges : Type 0 where
  pub past : List Exchange
  pub now : Option Exchange

-- all of them
abbrev pub exchanges_in : Exchanges → List Exchange
exchanges_in e = e.past ++ option_to_list e.now

-- a start since which nothing was asked
abbrev pub begun : List ℕ → ℕ → Exchange
begun host port = record { host = host; port = port; asked = []; answered = [] }

-- the exchange after these bytes more were asked
abbrev pub asking : List ℕ → Exchange → Exchange
asking bytes e = record e { asked = e.asked ++ bytes }

-- the exchange after these bytes more were answered
abbrev pub answering : List ℕ → Exchange → Exchange
answering bytes e = record e { answered = e.answered ++ bytes }

-- A start ends the exchange that went on. One that succeeds begins another; one that fails may count as an exchange
-- in which nothing was asked.
abbrev pub Begins : List ℕ → ℕ → Result Unit Failed → Exchanges → Exchanges → Type 0
Begins host port (Ok done) old new = new ≡ record { past = exchanges_in old; now = Some (begun host port) }
Begins host port (Err e) old new =
    (new ≡ record { past = exchanges_in old; now = None })
    ⊎ (new ≡ record { past = exchanges_in old ++ begun host port ∷ []; now = None })

-- these bytes were asked in the exchange that goes on
abbrev pub Asks : List ℕ → Exchanges → Exchanges → Type 0
Asks bytes old new = new ≡ record old { now = option_map (asking bytes) old.now }

-- these were answered in it
abbrev pub Answers : List ℕ → Exchanges → Exchanges → Type 0
Answers bytes old new = new ≡ record old { now = option_map (answering bytes) old.now }

-- what the starts to come do: a list, and what each start past its end does
pub record Plan : Type 0 where
  pub starts : List Planned
  pub past_end : Planned

-- what the next start does
abbrev pub next_start : Plan → Planned
next_start p = get_or p.starts 0 p.past_end

-- the plan after the next start
abbrev pub after_start : Plan → Plan
after_start p = record p { starts = drop 1 p.starts }

-- a connection by its plan: the bytes answered so far and those left, whether its next put fails, and how many takes
-- come before one that fails
pub record Connection : Type 0 where
  pub tape : Tape
  pub put_fails : Bool
  pub take_fails : Option ℕ

-- the connection that a planned start begins: nothing is answered yet
abbrev pub connection_of : Planned → Connection
connection_of p = record { tape = record { taken = []; left = p.bytes }; put_fails = p.put_fails; take_fails = p.take_fails }

-- one take nearer to the one that fails
abbrev pub one_nearer : Option ℕ → Option ℕ
one_nearer None = None
one_nearer (Some n) = if n == 0 then None else Some (n - 1)

-- the course of a link by its plan: the connection that is open, and the starts to come
pub record Course : Type 0 where
  pub now : Option Connection
  pub plan : Plan

-- a start ends the connection that was open, and does what comes next in the plan
abbrev pub Connects : Result Unit Failed → Course → Course → Type 0
Connects (Ok done) old new = new ≡ record { now = Some (connection_of (next_start old.plan)); plan = after_start old.plan }
Connects (Err e) old new = new ≡ record { now = None; plan = after_start old.plan }

-- A put moves no bytes that are answered
abbrev pub after_put : Connection → Connection
after_put c = record c { put_fails = false }

-- a put moves no bytes that are answered
abbrev pub Puts : Course → Course → Type 0
Puts old new = new ≡ record old { now = option_map after_put old.now }

-- a take moves the next bytes of the connection to the front of out
pub record TakesFrom (out : List ℕ) (result : Result ℕ Failed) (old new : Connection) : Type 0 where
  pub moved : Moved out result old.tape new.tape
  pub put_same : new.put_fails ≡ old.put_fails
  pub nearer : new.take_fails ≡ one_nearer old.take_fails

-- a take moves the next bytes of the connection into the buffer; the plan stays
pub record Takes (out : List ℕ) (result : Result ℕ Failed) (old new : Course) : Type 0 where
  pub takes : WhereTold old.now new.now (TakesFrom out result)
  pub same : new.plan ≡ old.plan

-- the plan lets the next start fail
abbrev pub FailsStart : Course → Type 0
FailsStart c = IsTrue (next_start c.plan).start_fails

-- the next put fails: by the plan, or because no connection is open
abbrev pub FailsPut : Option Connection → Type 0
FailsPut None = ⊤
FailsPut (Some c) = IsTrue c.put_fails

-- so does the next take
abbrev pub FailsTake : Option Connection → Type 0
FailsTake None = ⊤
FailsTake (Some c) = c.take_fails ≡ Some 0
