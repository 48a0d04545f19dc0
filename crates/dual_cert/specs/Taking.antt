-- What each step of the reader says; only private clauses cite it.
use Rattle.std.specs.Prelude.{◌≡◌, ℕ, ◌+◌, ◌^◌, ◌<◌, ◌≤◌, List, [], ◌∷◌, ◌++◌, length, Option, Some, None, Result, Ok, Err}
use Rattle.std.specs.List.{flat_map, All}
use Rattle.std.specs.Borrow.{Bor}
use Rattle.formats.specs.Parts.{ended}
use Rattle.dual_cert.specs.declared.fault.CertFault.{CertFault}
use Rattle.dual_cert.specs.declared.fault.CertFault.TheVariants.{Line, Cut, OutOfMemory}
use Rattle.dual_cert.specs.Lines.{head_line, bound_line, rows_lines}
use Rattle.dual_cert.specs.Refusals.{rows, all, Follows, DoesNotFollow, IsRefusal}

-- the bytes behind the first line, or why there are none
abbrev pub IsBehindHead : List ℕ → Result (Bor (List ℕ)) CertFault → Type 0
IsBehindHead bytes (Ok rest) = bytes ≡ ended head_line ++ rest.now
IsBehindHead bytes (Err fault) = IsRefusal bytes fault

-- one line taken: a row more, or the bound, or why not
abbrev pub IsTaken : List ℕ → List ℕ → List ℕ → List ℕ → List ℕ → ℕ → Result (Option ℕ) CertFault → Type 0
IsTaken alphas betas alphas' betas' line n (Ok None) = Follows (rows alphas betas) line (rows alphas' betas')
IsTaken alphas betas alphas' betas' line n (Ok (Some bound)) = Follows (rows alphas betas) line (all alphas betas bound) × (alphas' ≡ alphas) × (betas' ≡ betas)
IsTaken alphas betas alphas' betas' line n (Err (Line k)) = (k ≡ n) × DoesNotFollow (rows alphas betas) line
IsTaken alphas betas alphas' betas' line n (Err Cut) = ⊥
IsTaken alphas betas alphas' betas' line n (Err OutOfMemory) = Unit {0}

-- the rows of the lines so far, what is left, and the number of the next line
pub record AreRead (bytes alphas betas left : List ℕ) (n : ℕ) : Type 0 where
  pub document : bytes ≡ flat_map ended (rows_lines alphas betas) ++ left
  pub number : n ≡ length (rows_lines alphas betas) + 1
  pub few : n + length left ≤ length bytes
  pub alphas_fit : All (λ a. a < 2 ^ 64) alphas
  pub betas_fit : All (λ b. b < 2 ^ 64) betas

-- the rows of all lines, the bound, what is left, and the number of a line that would follow
pub record IsBehindLast (bytes alphas betas : List ℕ) (bound : ℕ) (left : List ℕ) (n : ℕ) : Type 0 where
  pub document : bytes ≡ flat_map ended (rows_lines alphas betas ++ bound_line bound ∷ []) ++ left
  pub number : n ≡ length (rows_lines alphas betas ++ bound_line bound ∷ []) + 1
  pub alphas_fit : All (λ a. a < 2 ^ 64) alphas
  pub betas_fit : All (λ b. b < 2 ^ 64) betas
  pub bound_fits : bound < 2 ^ 128
