-- The numbers of reasons: which loss number stands for which rule is this project's own.
use Rattle.std.specs.Prelude.{ℕ}
use Rattle.deal_floor.specs.declared.reason.Reason.{Reason}
use Rattle.deal_floor.specs.declared.reason.Reason.TheVariants.{NotEligible, SeatNotAllowed, DealNotEligible, BelowFloor, BelowDealFloor, BlockedAdvertiser, BlockedCategory}

-- the number of a reason: 3, 104, 4, 100, 101, 205, 209 in the order of the rules
abbrev pub number_of : Reason → ℕ
number_of NotEligible = 3
number_of SeatNotAllowed = 104
number_of DealNotEligible = 4
number_of BelowFloor = 100
number_of BelowDealFloor = 101
number_of BlockedAdvertiser = 205
number_of BlockedCategory = 209
