-- Private, cited by a worker alone: its rounds.
use Rattle.std.specs.Prelude.{◌≡◌, ℕ, ◌≤◌, List, ◌++◌, length, Bool, true, false, Option, Some, option_map, slice_get}
use Rattle.std.specs.List.{AllZip}
use mathlib.Core.List.{IsPrefix}
use Rattle.logbook.specs.Pages.{Book}
use Rattle.adx_io.specs.Streams.{Tape}
use Rattle.adx_links.specs.declared.link.Link as links
use Rattle.adx_links.specs.Pairs.{PairTold}
use Rattle.adx_desk.specs.Rosters.{desk_terms}
use Rattle.adx_desk.specs.Shared.{terms_in}
use Rattle.adx_desk.specs.declared.shared.OpenedWith.{OpenedWith}
use Rattle.adx_desk.specs.declared.turn.Turn.{Turn}
use Rattle.day_rules.specs.Legal.{IsLegal}
use Rattle.day_rules.specs.declared.entry.Entry.{Entry}
use Rattle.deal_floor.specs.declared.roster.Roster.{Roster}
use Rattle.adx_desk.specs.Steps.{AreSteps, calls_of, shared}
use Rattle.exchange_messages.specs.Floors.{AreLanes, IsMomentOf}
use Rattle.exchange_http.specs.Serving.{EndsSo}
use Rattle.exchange_messages.specs.Courses.{Course}
use Rattle.fan_out.specs.declared.lane.Lane.{Lane}
use Rattle.http_connection.specs.declared.conn.ConnEnd.{ConnEnd}
use Rattle.http_service.specs.Connections.{HasCauses}
use Rattle.adx_links.specs.Serving.{ServedPair}
use Rattle.shared_desk.specs.Passes.{IsNotedAs}
use Rattle.shared_desk.specs.Callers.{DeskPass}
use Rattle.turnstile.specs.Passes.{IsOf, IsSamePass, TurnstileState}
use Rattle.turnstile.specs.declared.noted.Noted.{Noted}
use Rattle.exchange_serving.specs.Served.{AreServedOver, Connection, IsServed, showing, shown_by, talk_of}

-- all bytes of a tape, where it is reported
abbrev pub bytes_of : Option Tape → Option (List ℕ)
bytes_of tape = option_map (λ (t : Tape). t.taken ++ t.left) tape

-- a tape is whole: what was taken and what is left is what it was
abbrev pub IsWhole : Option Tape → Option Tape → Type 0
IsWhole before now = bytes_of now ≡ bytes_of before

-- memory was refused to the connection
abbrev pub is_out_of_memory : ConnEnd → Bool
is_out_of_memory ConnEnd.OutOfMemory = true
is_out_of_memory ConnEnd.Closed = false
is_out_of_memory ConnEnd.Cut = false
is_out_of_memory (ConnEnd.Refused fault) = false
is_out_of_memory ConnEnd.ReadFault = false
is_out_of_memory ConnEnd.WriteFault = false
is_out_of_memory ConnEnd.Spent = false

-- a pair was served in the day of these names
abbrev pub IsServedIn : {L : Type 0} → links.Ghosts L → Option ℕ → Option Roster → List (List (Lane L))
    → List Entry → List Entry → ServedPair Turn → Type 0
IsServedIn l moment roster workers opened history s =
    (r : Roster) × (roster ≡ Some r) × IsServed l (IsMomentOf moment) r opened workers history s

-- One round: a connection was served, by a pass that was p and became q, over a pair that reported so before and now, between
-- two looks at the meters: a reader that had been shown so many entries has been shown so many now.
pub record IsRound {L : Type 0} (l : links.Ghosts L) (IsMoment : ℕ → Type 0) (r : Roster) (p q : DeskPass) (before now : PairTold)
    (lanes lanes_now : List (Lane L)) (known known_now : ℕ) (short : Bool) : Type 0 where
  pub course : Course L
  pub end : ConnEnd
  pub lanes_are : lanes_now ≡ course.lanes
  pub ends : EndsSo l IsMoment r (talk_of before) (talk_of now) lanes course end
  pub whole : IsWhole before.tape now.tape
  pub causes : HasCauses before.read_faults now.read_faults before.write_faults now.write_faults end
  pub legal : IsLegal (desk_terms r).day q.seen
  pub same : IsSamePass p q
  pub noted : List (Noted Turn)
  pub turns : q.turns ≡ p.turns ++ noted
  pub are : AllZip IsNotedAs noted (calls_of course.steps)
  pub from : List Entry
  pub start : IsPrefix p.seen from
  pub since : short ≡ false → known ≤ length from
  pub along : AreSteps shared (desk_terms r) from course.steps q.seen
  pub meters : short ≡ false → AreSteps showing (desk_terms r) from course.steps q.seen
  pub shown : short ≡ false → known_now ≡ length q.seen
  pub no_fewer : known ≤ known_now
  pub wanting : end ≡ ConnEnd.OutOfMemory → short ≡ true

-- the lanes of one of these workers, once connections were served over them and it has been shown so many entries
pub record AreOwn {L : Type 0} (l : links.Ghosts L) (IsMoment : ℕ → Type 0) (r : Roster) (opened : List Entry) (workers : List (List (Lane L)))
    (lanes : List (Lane L)) (known : ℕ) : Type 0 where
  pub are : AreLanes r lanes
  pub worker : ℕ
  pub came_with : List (Lane L)
  pub is_worker : slice_get workers worker ≡ Some came_with
  pub earlier : List (Connection L)
  pub are_left : AreServedOver l IsMoment r opened 0 came_with earlier lanes
  pub shown : shown_by 0 earlier ≤ known

-- what a worker keeps over its rounds
pub record IsWorker {L : Type 0} (l : links.Ghosts L) (moment_told moment : Option ℕ) (roster : Option Roster) (workers : List (List (Lane L)))
    (first : DeskPass) (book read : Book) (known : ℕ) (desk : TurnstileState OpenedWith) (r : Roster) (lanes : List (Lane L)) : Type 0 where
  pub of : IsOf first desk
  pub opened : terms_in desk.fixed ≡ desk_terms r
  pub roster_is : roster ≡ Some r
  pub moment_is : moment ≡ moment_told
  pub named : read ≡ book
  pub own : AreOwn l (IsMomentOf moment_told) r first.seen workers lanes known
