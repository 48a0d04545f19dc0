-- What a step of a connection does, from whatever beginning it came. Private: only private clauses cite this file.
use Rattle.std.specs.Prelude.{◌≡◌, ℕ, not, suc, ◌<◌, List, [], Bool, false, Option, Result}
use Rattle.adx_io.specs.Streams.{Tape}
use Rattle.adx_links.specs.declared.link.Link.{Ghosts as LinkGhosts}
use Rattle.day_rules.specs.Laws.{Arrival}
use Rattle.adx_desk.specs.declared.day_desk.DayDesk.{Ghosts as DeskGhosts}
use Rattle.exchange_messages.specs.Floors.{IsMomentOf}
use Rattle.fan_out.specs.Lanes.{works}
use Rattle.exchange_messages.specs.declared.clock.Clock.{Ghosts as ClockGhosts}
use Rattle.exchange_messages.specs.declared.floor.Floor.{Floor}
use Rattle.fan_out.specs.declared.lane.Lane.{Lane}
use Rattle.http_connection.specs.Steps.{Advances}
use Rattle.http_connection.specs.Answers.{Shows}
use Rattle.http_connection.specs.Messages.{Request}
use Rattle.http_connection.specs.declared.conn.ConnEnd.{ConnEnd}
use Rattle.http_connection.specs.declared.conn.Message.{Message}
use Rattle.http_grammar.specs.Requests.{is_kept}
use Rattle.notice_book.specs.declared.kind.NoticeKind.{NoticeKind}
use Rattle.exchange_messages.specs.Meanings.{Means, notifies}
use Rattle.exchange_messages.specs.Wants.{WantsOther}
use Rattle.exchange_messages.specs.declared.wanted.Other.{Other}
use Rattle.http_service.specs.Steps.{BringsOne}
use Rattle.http_service.specs.declared.limits.TheConstants.{MESSAGE_LIMIT, REQUEST_LIMIT}
use Rattle.exchange_http.specs.Running.{Coming, EndsHere, IsUnderWay, StepGives, before_one, ended, more}
use Rattle.exchange_http.specs.declared.keeping.Keeping.{Keeping}
use Rattle.exchange_http.specs.declared.outlet.Outlet.{Ghosts as OutletGhosts}
use Rattle.exchange_http.specs.declared.over.Over.{Over}
use Rattle.exchange_http.specs.declared.stop.Stop.{Stop}

-- the notices that wait, and where replies go out
pub record Stand (O : Type 0) : Type 0 where
  pub notices : List Arrival
  pub outlet : O

-- those of what is kept from one message to the next
abbrev pub kept : {O : Type 0} → Keeping O → Stand O
kept k = record { notices = k.waiting.batch.calls; outlet = k.outlet }

-- no notice waits
abbrev pub none_waits : {O : Type 0} → O → Stand O
none_waits outlet = record { notices = []; outlet = outlet }

-- what is read of a source: its tape, and the bytes that are held of it
pub record Read : Type 0 where
  pub tape : Option Tape
  pub held : List ℕ

abbrev pub read_so : Option Tape → List ℕ → Read
read_so tape held = record { tape = tape; held = held }

-- a message is this notice, after which the connection closes or stays
abbrev pub IsNotice : NoticeKind → List ℕ → ℕ → Bool → Request → Type 0
IsNotice kind auction award close m = Means m (notifies kind auction award) × (is_kept m.head ≡ not close)

-- a message shows this, and wants that
abbrev pub ShowsOther : Message → Other → Request → Type 0
ShowsOther message other m = Shows message m × WantsOther m other

module _ {Y L C G O : Type 0} (y : DeskGhosts Y) (l : LinkGhosts L) (c : ClockGhosts C) (o : OutletGhosts O) where
  -- by the roster and the clock of a floor, messages from a beginning on are so on a floor
  abbrev pub WayOn : Floor Y L C G → (start : Y) (lanes : List (Lane L)) (tape tape_now : Option Tape) (coming : Coming)
      (before : Option (List ℕ)) → Floor Y L C G → Bool → Stand O → Type 0
  WayOn by start lanes tape tape_now coming before f close k =
      IsUnderWay y (works l) (IsMomentOf (c.moment by.clock.now)) by.roster.now start lanes tape tape_now coming before
      f.desk f.lanes.now.items k.notices close (o.held k.outlet) (o.least k.outlet) (o.waiting k.outlet)

  -- or the connection ended so
  abbrev pub EndsOn : Floor Y L C G → (start : Y) (lanes : List (Lane L)) (tape tape_now : Option Tape)
      (before : Option (List ℕ)) → Floor Y L C G → O → ConnEnd → Type 0
  EndsOn by start lanes tape tape_now before f outlet end =
      EndsHere y (works l) (IsMomentOf (c.moment by.clock.now)) by.roster.now start lanes tape tape_now before
      f.desk f.lanes.now.items (o.sunk outlet) end

  -- what is under way goes on; the last of the notices that wait may close before
  abbrev pub GoesOn : Floor Y L C G → Bool → Stand O → Floor Y L C G → Stand O → Type 0
  GoesOn f close k f_now k_now =
      (start : Y) (lanes : List (Lane L)) (tape tape_now : Option Tape) (coming : Coming) (before : Option (List ℕ))
      → WayOn f start lanes tape tape_now coming before f close k → WayOn f start lanes tape tape_now coming before f_now false k_now

  -- or it ends so
  abbrev pub Stops : Floor Y L C G → Bool → Stand O → Floor Y L C G → O → ConnEnd → Type 0
  Stops f close k f_now outlet end =
      (start : Y) (lanes : List (Lane L)) (tape tape_now : Option Tape) (coming : Coming) (before : Option (List ℕ))
      → WayOn f start lanes tape tape_now coming before f close k → EndsOn f start lanes tape tape_now before f_now outlet end

  -- a message of which this is so was taken
  abbrev pub TakesOne : (Request → Type 0) → Floor Y L C G → Stand O → Floor Y L C G → Stand O → Type 0
  TakesOne IsSo f k f_now k_now =
      (start : Y) (lanes : List (Lane L)) (tape tape_now : Option Tape) (coming : Coming) (before : Option (List ℕ)) (m : Request) → IsSo m
      → WayOn f start lanes tape tape_now (before_one m coming) before f false k → WayOn f start lanes tape tape_now coming before f_now false k_now

  -- or the connection ended so in it
  abbrev pub StopsIn : (Request → Type 0) → Floor Y L C G → Stand O → Floor Y L C G → O → ConnEnd → Type 0
  StopsIn IsSo f k f_now outlet end =
      (start : Y) (lanes : List (Lane L)) (tape tape_now : Option Tape) (coming : Coming) (before : Option (List ℕ)) (m : Request) → IsSo m
      → WayOn f start lanes tape tape_now (before_one m coming) before f false k → EndsOn f start lanes tape tape_now before f_now outlet end

  -- what came of one message more
  abbrev pub GivesNext : Floor Y L C G → (start : Y) (lanes : List (Lane L)) (tape : Option Tape) → Read → ℕ
      → (before : Option (List ℕ)) → Floor Y L C G → Stand O → Result (Option Over) Stop → Type 0
  GivesNext by start lanes tape read count before f k result =
      StepGives y (works l) (IsMomentOf (c.moment by.clock.now)) by.roster.now start lanes tape read.tape read.held count before
      f.desk f.lanes.now.items k.notices (o.held k.outlet) (o.sunk k.outlet) (o.least k.outlet) (o.waiting k.outlet) result

  -- a message that was read was taken
  abbrev pub TakesRead : Message → Floor Y L C G → Stand O → Floor Y L C G → Stand O → Result (Option Over) Stop → Type 0
  TakesRead message f k f_now k_now result =
      (start : Y) (lanes : List (Lane L)) (tape tape_old tape_now : Option Tape) (ahead ahead_now : List ℕ)
      (count : ℕ) (before : Option (List ℕ)) (m : Request) → count < MESSAGE_LIMIT
      → Shows message m → BringsOne REQUEST_LIMIT ahead ahead_now tape_old tape_now m → Advances tape_old tape_now
      → WayOn f start lanes tape tape_old (more ahead count) before f false k
      → GivesNext f start lanes tape (read_so tape_now ahead_now) (suc count) before f_now k_now result

  -- the next message was read and taken, or none came
  abbrev pub TakesNext : Floor Y L C G → Stand O → Read → Floor Y L C G → Stand O → Read → Result (Option Over) Stop → Type 0
  TakesNext f k read f_now k_now read_now result =
      (start : Y) (lanes : List (Lane L)) (tape : Option Tape) (count : ℕ) (before : Option (List ℕ)) → count < MESSAGE_LIMIT
      → WayOn f start lanes tape read.tape (more read.held count) before f false k
      → GivesNext f start lanes tape read_now (suc count) before f_now k_now result

  -- all messages came, and no more are read
  abbrev pub TakesAll : Floor Y L C G → Stand O → Read → Floor Y L C G → Stand O → Option Tape → Over → Type 0
  TakesAll f k read f_now k_now tape_now over =
      (start : Y) (lanes : List (Lane L)) (tape : Option Tape) (before : Option (List ℕ))
      → WayOn f start lanes tape read.tape (more read.held 0) before f false k
      → WayOn f start lanes tape tape_now (ended over) before f_now false k_now

  -- or the connection ended so among them
  abbrev pub StopsAmong : Floor Y L C G → Stand O → Read → Floor Y L C G → O → Option Tape → ConnEnd → Type 0
  StopsAmong f k read f_now outlet tape_now end =
      (start : Y) (lanes : List (Lane L)) (tape : Option Tape) (before : Option (List ℕ))
      → WayOn f start lanes tape read.tape (more read.held 0) before f false k → EndsOn f start lanes tape tape_now before f_now outlet end

  -- messages that are so over ended so
  abbrev pub EndsBehind : Over → Floor Y L C G → Stand O → Floor Y L C G → O → ConnEnd → Type 0
  EndsBehind over f k f_now outlet end =
      (start : Y) (lanes : List (Lane L)) (tape tape_now : Option Tape) (before : Option (List ℕ))
      → WayOn f start lanes tape tape_now (ended over) before f false k → EndsOn f start lanes tape tape_now before f_now outlet end
