-- A pass beside the first one of its desk, by which nothing was called. This project's own.
use Rattle.std.specs.Prelude.{◌≡◌, [], false}
use mathlib.Core.List.{IsPrefix}
use Rattle.shared_desk.specs.Callers.{DeskPass}

-- the pass was split from the first one of its desk, has seen what that had seen then, and has no turns
-- Example: a pass that a worker is given before its first connection
pub record IsIdle (first p : DeskPass) : Type 0 where
  pub turnstile : p.turnstile ≡ first.turnstile
  pub fixed : p.fixed ≡ first.fixed
  pub split : p.is_first ≡ false
  pub none : p.turns ≡ []
  pub begins : IsPrefix first.seen p.seen
