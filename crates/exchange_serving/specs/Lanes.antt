-- The lanes of workers. This project's own.
use Rattle.std.specs.Prelude.{List, map, Vec}
use Rattle.std.proofs.Common.{Global}
use Rattle.fan_out.specs.declared.lane.Lane.{Lane}

-- the lanes that each of the lists has
abbrev pub lists_of : {L : Type 0} → List (Vec (Lane L) Global) → List (List (Lane L))
lists_of lists = map (λ (v : Vec (Lane _) Global). v.items) lists
