-- A board of a shared desk's meters that stands behind a lock. This project's own.
use Rattle.std.specs.Prelude.{◌≡◌}
use Rattle.logbook.specs.Pages.{Book}
use Rattle.shared_desk.specs.Callers.{DeskPass}
use Rattle.shared_desk.specs.Idle.{IsIdle}

-- what stands behind a lock: the board shows this list, by a pass beside the first one of its desk
pub record IsBoard (first : DeskPass) (book list : Book) (p : DeskPass) : Type 0 where
  pub named : list ≡ book
  pub idle : IsIdle first p
