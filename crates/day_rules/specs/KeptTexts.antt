-- The kept texts of bids: which are short, and what they count. This project's own.
use Rattle.std.specs.Prelude.{ℕ, ◌+◌, ◌≤◌, List}
use Rattle.std.specs.List.{sum_by}
use Rattle.day_rules.specs.declared.ask.Kept.{Kept}
use Rattle.day_rules.specs.declared.limits.TheConstants.{KEPT_OVERHEAD, MAX_KEPT}
use Rattle.day_rules.specs.Books.{text_size}

-- no longer than the texts of a bid may be
abbrev pub IsShort : Kept → Type 0
IsShort k = text_size k ≤ MAX_KEPT

-- what kept bids count, each with its overhead
abbrev pub sizes_of : List Kept → ℕ
sizes_of kept = sum_by (λ k. KEPT_OVERHEAD + text_size k) kept
