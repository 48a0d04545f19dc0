-- Private, cited by the beginning of serving alone: a desk that was just shared.
use Rattle.std.specs.Prelude.{◌≡◌, List, [], length, true}
use Rattle.adx_desk.specs.declared.shared.OpenedWith.{OpenedWith}
use Rattle.day_rules.specs.declared.entry.Entry.{Entry}
use Rattle.shared_desk.specs.Callers.{DeskPass}
use Rattle.shared_desk.specs.Idle.{IsIdle}
use Rattle.turnstile.specs.Passes.{IsOf, TurnstileState}

-- the first pass of a desk that was just shared, once two others were split from it
pub record IsBegun (desk : TurnstileState OpenedWith) (history : List Entry) (first one other : DeskPass) : Type 0 where
  pub of : IsOf first desk
  pub is_first : first.is_first ≡ true
  pub out : first.out ≡ 2
  pub turns : first.turns ≡ []
  pub opening : first.opening ≡ length first.seen
  pub seen : history ≡ first.seen
  pub one_idle : IsIdle first one
  pub other_idle : IsIdle first other
