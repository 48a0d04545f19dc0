use Rattle.std.proofs.Common.{◌≡◌, take}
use Rattle.adx_links.proofs.memory_link.MemoryLink.new.Given as goal

abbrev pub invariant-loop-planned : goal.invariant-loop-planned
invariant-loop-planned l = l.kept.items ≡ take l.planned-index l.plan
