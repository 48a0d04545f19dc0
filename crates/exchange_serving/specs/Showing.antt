-- Private, cited by a worker alone: a connection on a desk whose board shows its meters, and laws of its steps.
use Rattle.std.specs.Prelude.{◌≡◌, ℕ, List, [], ◌++◌, Bool, false}
use Rattle.std.proofs.Common.{subst, append-nil}
use Rattle.std.specs.Borrow.{Bor}
use Rattle.adx_desk.specs.Rosters.{desk_terms}
use Rattle.adx_desk.specs.Steps.{AreSteps, Step}
use Rattle.adx_desk.proofs.Chains.{shared_on, steps_join}
use Rattle.adx_links.specs.declared.link.Link.{Ghosts as LinkGhosts}
use Rattle.day_rules.specs.declared.step.MeterStep.{MeterStep}
use Rattle.deal_floor.specs.declared.roster.Roster.{Roster}
use Rattle.exchange_http.specs.Serving.{Talked}
use Rattle.fan_out.specs.declared.lane.Lane.{Lane}
use Rattle.http_connection.specs.declared.conn.ConnEnd.{ConnEnd}
use Rattle.shared_desk.specs.Callers.{DeskPass}
use Rattle.shared_desk.specs.PassLaws.{runs_join as pass_join, runs_none as pass_none}
use Rattle.shared_desk.specs.Passes.{PassRuns, Viewed}
use Rattle.exchange_serving.specs.Served.{showing}
use Rattle.exchange_serving.specs.Sharing.{ServesShared}

-- a pass and its reader made these steps; unless memory was refused then or before, each meters among them are those of the
-- history that was seen then
pub record BoardRuns {O : Type 0} (r r_now : Bor Roster) (p q : DeskPass) (v w : Viewed O) (short short_now : Bool) (steps : List Step) : Type 0 where
  pub ran : PassRuns r r_now p q v w steps
  pub shown : short_now ≡ false → (short ≡ false) × AreSteps showing (desk_terms r.now) p.seen steps q.seen

-- a connection was served by a pass and its reader, and ended so; by whether memory was refused for showing meters
pub record ServesShown {L : Type 0} (l : LinkGhosts L) (IsMoment : ℕ → Type 0) (r : Roster) (before now : Talked)
    (lanes lanes_now : List (Lane L)) (p q : DeskPass) (board board_now : List MeterStep) (end : ConnEnd) (short : Bool) : Type 0 where
  pub serves : ServesShared l IsMoment r before now lanes lanes_now p q board board_now end
  pub shown : short ≡ false → AreSteps showing (desk_terms r) p.seen serves.course.steps q.seen

module _ {O : Type 0} where
  -- no step
  pub runs_none : (r : Bor Roster) (p : DeskPass) (v : Viewed O) (short : Bool) → BoardRuns r r p p v v short short []
  runs_none r p v short = record { ran = pass_none r p v; shown = λ e. (e, ([], append-nil p.seen)) }

  -- steps after steps
  pub runs_join : {r r_mid r_now : Bor Roster} {p q s : DeskPass} {u v w : Viewed O} {short short_mid short_now : Bool} (first rest : List Step)
      → BoardRuns r r_mid p q u v short short_mid first → BoardRuns r_mid r_now q s v w short_mid short_now rest
      → BoardRuns r r_now p s u w short short_now (first ++ rest)
  runs_join {r} {r_mid} {r_now} {p} {q} {s} first rest x y = record {
    ran = pass_join first rest x.ran y.ran;
    shown = λ e.
        let after = y.shown e in
        let before = x.shown after.0 in (
          before.0,
          steps_join showing shared_on (desk_terms r.now) p.seen q.seen s.seen first rest before.1
              (subst (λ (z : Bor Roster). AreSteps showing (desk_terms z.now) q.seen rest s.seen) x.ran.roster after.1),
        );
  }
