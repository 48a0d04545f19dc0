use Rattle.std.proofs.Common.{◌≡◌, take}
use Rattle.allocator_core.specs.Settling.{taken_of}
use Rattle.allocator_core.proofs.impression.awarded_charges.Given as goal

abbrev pub invariant-loop-offer : goal.invariant-loop-offer
invariant-loop-offer l = l.units ≡ taken_of (take l.offer-index l.offers) l.campaign
