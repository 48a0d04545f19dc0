use Rattle.std.proofs.Common.{◌≡◌, ◌<◌, ℕ, get_or, codes}
use Rattle.formats.specs.Days.{zeroed}
use Rattle.formats.proofs.form.is_day.Given as goal

abbrev pub invariant-loop-i : goal.invariant-loop-i
invariant-loop-i l = (k : ℕ) → k < l.i → zeroed (get_or l.day k 0) ≡ get_or (codes "0000-00-00") k 0
