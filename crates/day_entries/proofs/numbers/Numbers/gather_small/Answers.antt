use Rattle.day_entries.proofs.Steps.{adds_gathered}
use Rattle.day_entries.proofs.numbers.Numbers.gather_small.Goals as goal

pub returns-clause-ok : goal.returns-clause-ok
returns-clause-ok c = adds_gathered _ _ _ _ c.in_ok-make_room.ensures.same c.put_small.ensures.added
