-- Which bytes are no certificate's document, and which line is the first that fails. This project's own.
use Rattle.std.specs.Prelude.{◌≡◌, ℕ, ◌+◌, ◌^◌, ◌<◌, ◌⊎◌, List, [], ◌∷◌, ◌++◌, length, Result, Ok, Err}
use Rattle.std.specs.List.{flat_map, All}
use Rattle.formats.specs.Parts.{ended}
use Rattle.formats.specs.Following.{Leads, FailsAt, IsCut}
use Rattle.dual_cert.specs.declared.cert.Cert.{Cert}
use Rattle.dual_cert.specs.declared.fault.CertFault.{CertFault}
use Rattle.dual_cert.specs.declared.fault.CertFault.TheVariants.{Line, Cut, OutOfMemory}
use Rattle.dual_cert.specs.Lines.{head_line, alpha_line, beta_line, bound_line}

-- what the lines so far have told
pub data Told : Type 0 where
  nothing : Told
  rows : (alphas betas : List ℕ) → Told
  all : (alphas betas : List ℕ) (bound : ℕ) → Told

-- a line that tells more: its index runs on, and its number is in range; alphas come before betas
pub data Follows : Told → List ℕ → Told → Type 0 where
  head_first : Follows nothing head_line (rows [] [])
  alpha_next : (alphas : List ℕ) (a : ℕ) → a < 2 ^ 64 → Follows (rows alphas []) (alpha_line (length alphas, a)) (rows (alphas ++ a ∷ []) [])
  beta_next : (alphas betas : List ℕ) (b : ℕ) → b < 2 ^ 64 → Follows (rows alphas betas) (beta_line (length betas, b)) (rows alphas (betas ++ b ∷ []))
  bound_last : (alphas betas : List ℕ) (n : ℕ) → n < 2 ^ 128 → Follows (rows alphas betas) (bound_line n) (all alphas betas n)

-- the last line was there
abbrev pub IsWhole : Told → Type 0
IsWhole nothing = ⊥
IsWhole (rows alphas betas) = ⊥
IsWhole (all alphas betas bound) = Unit {0}

-- after these lines, this one may not come
abbrev pub DoesNotFollow : Told → List ℕ → Type 0
DoesNotFollow told line = (next : Told) → Follows told line next → ⊥

-- a byte stands behind the last line, whose number is one less
pub record HasMore (bytes : List ℕ) (n : ℕ) : Type 0 where
  pub lines : List (List ℕ)
  pub told : Told
  pub byte : ℕ
  pub rest : List ℕ
  pub document : bytes ≡ flat_map ended lines ++ byte ∷ rest
  pub number : n ≡ length lines + 1
  pub before : Leads Follows nothing lines told
  pub whole : IsWhole told

-- what a refusal says of the bytes
abbrev pub IsRefusal : List ℕ → CertFault → Type 0
IsRefusal bytes (Line n) = FailsAt Follows nothing IsWhole DoesNotFollow bytes n ⊎ HasMore bytes n
IsRefusal bytes Cut = IsCut Follows nothing IsWhole bytes
IsRefusal bytes OutOfMemory = Unit {0}

-- the ranges of a certificate's numbers
pub record IsRanged (c : Cert) : Type 0 where
  pub alphas : All (λ a. a < 2 ^ 64) c.alphas
  pub betas : All (λ b. b < 2 ^ 64) c.betas
  pub bound : c.bound < 2 ^ 128

-- it is the certificate, unless memory ran out
abbrev pub GivesCert : Cert → Result Cert CertFault → Type 0
GivesCert c (Ok found) = found ≡ c
GivesCert c (Err fault) = fault ≡ OutOfMemory
