-- How an exchange serves a connection on a desk that threads share. This project's own.
use Rattle.std.specs.Prelude.{◌≡◌, ℕ, List}
use Rattle.adx_desk.specs.Rosters.{desk_terms}
use Rattle.adx_links.specs.declared.link.Link.{Ghosts as LinkGhosts}
use Rattle.deal_floor.specs.declared.roster.Roster.{Roster}
use Rattle.adx_desk.specs.Steps.{Step, meters_read}
use Rattle.adx_desk.specs.declared.day_desk.DayDesk.{Ghosts as DeskGhosts}
use Rattle.exchange_http.specs.Serving.{EndsSo, Talked}
use Rattle.exchange_messages.specs.Courses.{Course}
use Rattle.fan_out.specs.declared.lane.Lane.{Lane}
use Rattle.http_connection.specs.declared.conn.ConnEnd.{ConnEnd}
use Rattle.day_rules.specs.declared.step.MeterStep.{MeterStep}
use Rattle.shared_desk.specs.Passes.{AreRead, Gains}
use Rattle.shared_desk.specs.Callers.{DeskPass}

-- A connection was served on a desk that was lent, and ended so.
pub record ServesLent {Y L : Type 0} (y : DeskGhosts Y) (l : LinkGhosts L) (IsMoment : ℕ → Type 0) (r : Roster) (before now : Talked)
    (lanes lanes_now : List (Lane L)) (old new : Y) (end : ConnEnd) : Type 0 where
  pub steps : List Step
  -- the desk reports this of its steps,
  pub ran : y.runs old new steps
  -- and by them the messages were replied
  pub ends : EndsSo l IsMoment r before now lanes (record { steps = steps; lanes = lanes_now }) end

-- A connection was served by a pass of a desk that threads share, over a source, a sink and lanes, and ended so.
pub record ServesShared {L : Type 0} (l : LinkGhosts L) (IsMoment : ℕ → Type 0) (r : Roster) (before now : Talked)
    (lanes lanes_now : List (Lane L)) (p q : DeskPass) (board board_now : List MeterStep) (end : ConnEnd) : Type 0 where
  pub course : Course L
  pub lanes_are : course.lanes ≡ lanes_now
  -- the pass gained the turns of the calls among the steps, each step at a history that goes on from the one before,
  pub gains : Gains (desk_terms r) p q course.steps
  -- and the meters that were read are of lists of which each begins with the one before
  pub read : AreRead board (meters_read course.steps) board_now
  -- which messages came, what they were replied, and why no more were read
  pub ends : EndsSo l IsMoment r before now lanes course end
