-- A link in memory, whose starts go by a plan. This project's own.
use Rattle.std.specs.Prelude.{◌≡◌, ◌⊎◌, ℕ, List, [], ◌∷◌, ◌++◌, length, min, false, Option, Some, None, option_map, unwrap_or, Result, Ok, Err}
use Rattle.adx_io.specs.declared.failed.Failed.{Failed}
use Rattle.adx_links.specs.declared.planned.Planned.{Planned}
use Rattle.adx_links.specs.declared.memory_link.TheConstants.{NO_CONTENT}
use Rattle.adx_links.specs.Links.{Connection, Course, Exchange, Exchanges, Plan, after_start, begun, connection_of, exchanges_in, next_start}

-- a start past the end of the plan answers that there is no content
abbrev pub no_content : Planned
no_content = record { bytes = NO_CONTENT.now; start_fails = false; put_fails = false; take_fails = None }

-- an exchange that goes on: whom it called, the bytes asked, and its connection
pub record RunningState : Type 0 where
  pub host : List ℕ
  pub port : ℕ
  pub asked : List ℕ
  pub connection : Connection

-- the exchange that it is
abbrev pub exchange_of : RunningState → Exchange
exchange_of r = record { host = r.host; port = r.port; asked = r.asked; answered = r.connection.tape.taken }

-- and how one begins
abbrev pub running_of : List ℕ → ℕ → Planned → RunningState
running_of host port p = record { host = host; port = port; asked = []; connection = connection_of p }

-- a link in memory: the exchanges that ended, the one that goes on, what is planned, and the count of faults
pub record MemoryLinkState : Type 0 where
  pub past : List Exchange
  pub running : Option RunningState
  pub plan : Plan
  pub faults : ℕ

-- the exchanges that it reports
abbrev pub exchanges_of : MemoryLinkState → Exchanges
exchanges_of l = record { past = l.past; now = option_map exchange_of l.running }

-- the connection that it has, and what is planned
abbrev pub course_of : MemoryLinkState → Course
course_of l = record { now = option_map (λ (r : RunningState). r.connection) l.running; plan = l.plan }

-- no exchange goes on
abbrev pub closed : MemoryLinkState → MemoryLinkState
closed l = record l { past = exchanges_in (exchanges_of l); running = None }

-- The next start of the plan is taken, and its exchange goes on. Where the start fails none goes on, and that one may
-- be over at once.
abbrev pub Opens : List ℕ → ℕ → Result Unit Failed → MemoryLinkState → MemoryLinkState → Type 0
Opens host port (Ok done) old new = new ≡ record old { running = Some (running_of host port (next_start old.plan)); plan = after_start old.plan }
Opens host port (Err e) old new =
    (new ≡ record old { plan = after_start old.plan })
    ⊎ (new ≡ record old { past = old.past ++ begun host port ∷ []; plan = after_start old.plan })

-- how many bytes a take with so much room gives that doesn't fail
abbrev pub given_of : ℕ → MemoryLinkState → ℕ
given_of room l = min room (length (unwrap_or (option_map (λ (r : RunningState). r.connection.tape.left) l.running) []))
