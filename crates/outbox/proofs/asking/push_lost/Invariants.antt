use Rattle.std.proofs.Common.{◌≡◌, ◌++◌, take}
use Rattle.std.specs.List.{flat_map}
use Rattle.outbox.specs.Posts.{lost_post}
use Rattle.outbox.proofs.asking.push_lost.Given as goal

abbrev pub invariant-loop-texts : goal.invariant-loop-texts
invariant-loop-texts l = l.out.items ≡ l.initial.out.items ++ flat_map (lost_post l.place l.ask) (take l.texts-index l.kept)
