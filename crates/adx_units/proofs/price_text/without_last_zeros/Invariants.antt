-- The digits from n on are zeros.
use Rattle.std.proofs.Common.{◌≡◌, ◌≤◌, ◌<◌, ℕ, length, get_or}
use Rattle.adx_units.proofs.price_text.without_last_zeros.Given as goal

abbrev pub invariant-loop-n : goal.invariant-loop-n
invariant-loop-n l = record { within : l.n ≤ length l.digits; zeros : (k : ℕ) → l.n ≤ k → k < length l.digits → get_or l.digits k 0 ≡ 48 }

abbrev pub decreases-loop-n : goal.decreases-loop-n
decreases-loop-n l = l.n
