-- What is so of a connection on a shared desk, by what its steps gave.
use Rattle.std.proofs.Common.{◌≡◌, ℕ, List, Bool, false, refl, subst}
use Rattle.std.specs.Borrow.{Bor}
use Rattle.adx_links.specs.declared.link.Link.{Ghosts as LinkGhosts}
use Rattle.deal_floor.specs.declared.roster.Roster.{Roster}
use Rattle.adx_desk.specs.Steps.{Step}
use Rattle.adx_desk.specs.declared.day_desk.DayDesk.{Ghosts as DeskGhosts}
use Rattle.fan_out.specs.declared.lane.Lane.{Lane}
use Rattle.http_connection.specs.declared.conn.ConnEnd.{ConnEnd}
use Rattle.day_rules.specs.declared.step.MeterStep.{MeterStep}
use Rattle.shared_desk.specs.Passes.{PassRuns, Viewed}
use Rattle.shared_desk.specs.Callers.{DeskPass}
use Rattle.exchange_http.specs.Serving.{EndsSo, Talked}
use Rattle.exchange_serving.specs.Sharing.{ServesLent, ServesShared}
use Rattle.exchange_serving.specs.Showing.{BoardRuns, ServesShown}

-- it ended so on a desk that was lent, and the loans of desk and lanes ended too
module _ {Y L : Type 0} (y : DeskGhosts Y) (l : LinkGhosts L) (IsMoment : ℕ → Type 0) (r : Roster) (before now : Talked) (lanes : List (Lane L)) (old : Y) (end : ConnEnd) where
  pub lent_behind : (mid new : Y) (mid_lanes lanes_now : List (Lane L)) (steps : List Step) → mid ≡ new → mid_lanes ≡ lanes_now
      → y.runs old mid steps → EndsSo l IsMoment r before now lanes (record { steps = steps; lanes = mid_lanes }) end
      → ServesLent y l IsMoment r before now lanes lanes_now old new end
  lent_behind mid new mid_lanes lanes_now steps desk_is lanes_are ran ends =
      subst (λ (x : Y). ServesLent y l IsMoment r before now lanes lanes_now old x end) desk_is
      (subst (λ (x : List (Lane L)). ServesLent y l IsMoment r before now lanes x old mid end) lanes_are
      (record { steps = steps; ran = ran; ends = ends }))

  pub place_behind : (mid new : Y) → mid ≡ new → y.place mid ≡ y.place old → y.place new ≡ y.place old
  place_behind mid new is same = subst (λ (x : Y). y.place x ≡ y.place old) is same

module _ {L O : Type 0} (l : LinkGhosts L) (IsMoment : ℕ → Type 0) (r : Bor Roster) (before now : Talked) (lanes lanes_now : List (Lane L)) (p : DeskPass) (v : Viewed O) (end : ConnEnd) where
  abbrev Serves : DeskPass → List MeterStep → Type 0
  Serves q board_now = ServesShared l IsMoment r.now before now lanes lanes_now p q v.seen board_now end

  -- it ended so by a pass, and the loans of pass and reader ended too
  pub shared_behind : (r_now : Bor Roster) (mid q : DeskPass) (w : Viewed O) (board_now : List MeterStep) (steps : List Step)
      → mid ≡ q → w.seen ≡ board_now
      → PassRuns r r_now p mid v w steps → EndsSo l IsMoment r.now before now lanes (record { steps = steps; lanes = lanes_now }) end → Serves q board_now
  shared_behind r_now mid q w board_now steps pass_is board_is ran ends =
      subst (λ (x : DeskPass). Serves x board_now) pass_is
      (subst (λ (b : List MeterStep). Serves mid b) board_is
      (record { course = record { steps = steps; lanes = lanes_now }; lanes_are = refl; gains = ran.gains; read = ran.read; ends = ends }))

module _ {L O : Type 0} (l : LinkGhosts L) (IsMoment : ℕ → Type 0) (r : Bor Roster) (before now : Talked) (lanes lanes_now : List (Lane L)) (p : DeskPass) (v : Viewed O) (end : ConnEnd) (short : Bool) where
  abbrev Shows : DeskPass → List MeterStep → Type 0
  Shows q board_now = ServesShown l IsMoment r.now before now lanes lanes_now p q v.seen board_now end short

  -- the same beside a board
  pub shown_behind : (r_now : Bor Roster) (mid q : DeskPass) (w : Viewed O) (board_now : List MeterStep) (steps : List Step)
      → mid ≡ q → w.seen ≡ board_now
      → BoardRuns r r_now p mid v w false short steps → EndsSo l IsMoment r.now before now lanes (record { steps = steps; lanes = lanes_now }) end → Shows q board_now
  shown_behind r_now mid q w board_now steps pass_is board_is ran ends =
      subst (λ (x : DeskPass). Shows x board_now) pass_is
      (subst (λ (b : List MeterStep). Shows mid b) board_is
      (record {
        serves = record { course = record { steps = steps; lanes = lanes_now }; lanes_are = refl; gains = ran.ran.gains; read = ran.ran.read; ends = ends };
        shown = λ e. (ran.shown e).1;
      }))
