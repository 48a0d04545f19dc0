-- What the numbers of a guarantee say of every assignment of the day's impressions.
use Rattle.std.proofs.Common.{◌≡◌, ℕ, ◌≤◌, arith}
use Rattle.bid_record.specs.declared.record.Record.{Record}
use Rattle.day_close.proofs.Accepted.{closing_holds}
use Rattle.dual_cert.specs.Assignments.{Assignment, earned}
use Rattle.dual_cert.proofs.Duality.{weak_duality}
use Rattle.ratio_law.specs.SmallDays.{IsBoundOf, left_of}

-- none earns more than the bound of the closer's certificate
pub bounded : (r : Record) (bound : ℕ) → IsBoundOf r bound → (picks : Assignment) → earned picks r ≤ bound
bounded r bound b picks = omega (arith, weak_duality r b.cert picks (closing_holds r b.cert b.closing), b.is_its)

left_grows : (a b : ℕ) → a ≤ b → left_of a ≤ left_of b
left_grows a b le = omega (arith, le)

-- so that where the left side is at most the right one, what any of them earns is within it
pub earns_within : (r : Record) (bound left right : ℕ) → IsBoundOf r bound → left ≡ left_of bound → left ≤ right → (picks : Assignment) → left_of (earned picks r) ≤ right
earns_within r bound left right b is le picks = omega (arith, left_grows (earned picks r) bound (bounded r bound b picks), is, le)
