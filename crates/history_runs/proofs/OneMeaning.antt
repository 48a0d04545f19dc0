-- A line within the limit or above it has one meaning.
use Rattle.std.proofs.Common.{◌≡◌, inl, inr, List, ℕ, sym, ◌∙◌, arith}
use Rattle.deal_floor.specs.declared.roster.Roster.{Roster}
use Rattle.script_lines.specs.Meanings.{Meaning}
use Rattle.script_lines.proofs.OneMeaning.{one_meaning as one_short_meaning}
use Rattle.history_runs.specs.Script.{Means}

pub one_meaning : (roster : Roster) (line : List ℕ) (m n : Meaning) → Means roster line m → Means roster line n → m ≡ n
one_meaning roster line m n (inl (long, is)) (inl (long', is')) = is ∙ sym is'
one_meaning roster line m n (inl (long, is)) (inr (short, b)) = absurd (omega (arith, long, short))
one_meaning roster line m n (inr (short, a)) (inl (long, is)) = absurd (omega (arith, long, short))
one_meaning roster line m n (inr (short, a)) (inr (short', b)) = one_short_meaning roster line m n a b
