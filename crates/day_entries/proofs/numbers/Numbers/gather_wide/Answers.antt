use Rattle.day_entries.proofs.Steps.{adds_gathered}
use Rattle.day_entries.proofs.numbers.Numbers.gather_wide.Goals as goal

pub returns-clause-ok : goal.returns-clause-ok
returns-clause-ok c = adds_gathered _ _ _ _ c.in_ok-make_room.ensures.same c.put_wide.ensures.added
