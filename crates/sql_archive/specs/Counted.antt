-- How a count of faults goes with an answer. Only private clauses cite this file.
use Rattle.std.specs.Prelude.{◌≡◌, ◌≤◌, ℕ, Result, Ok, Err, IsErr}
use Rattle.adx_io.specs.Streams.{Rises}

-- what isn't refused leaves the count, and what is refused raises it, or finds it at its last value
abbrev pub IsCounted : {T E : Type 0} → ℕ → ℕ → Result T E → Type 0
IsCounted before now (Ok x) = now ≡ before
IsCounted before now (Err refusal) = (before ≤ now) × Rises before now

-- the same of a transaction that ends after this answer, of which a refusal was counted
abbrev pub HasEnded : {T E : Type 0} → Result T E → ℕ → ℕ → Result T E → Type 0
HasEnded (Ok x) before now result = IsCounted before now result
HasEnded (Err refusal) before now result = IsErr result × (now ≡ before)
