-- The lines of a certificate: a value has one spelling. This project's own.
use Rattle.std.specs.Prelude.{ℕ, List, [], ◌∷◌, ◌++◌, map, codes}
use Rattle.std.specs.List.{flat_map, enumerate_from}
use Rattle.std.specs.Fmt.{decimal}
use Rattle.formats.specs.Parts.{ended, part}
use Rattle.dual_cert.specs.declared.cert.Cert.{Cert}

-- the first line of a certificate
abbrev pub head_line : List ℕ
head_line = codes "adx-cert 1"

-- alpha I A
abbrev pub alpha_line : ℕ × ℕ → List ℕ
alpha_line (i, alpha) = codes "alpha " ++ (decimal i ++ part (decimal alpha))

-- beta J B
abbrev pub beta_line : ℕ × ℕ → List ℕ
beta_line (j, beta) = codes "beta " ++ (decimal j ++ part (decimal beta))

-- bound N
abbrev pub bound_line : ℕ → List ℕ
bound_line n = codes "bound " ++ decimal n

-- the lines but the last
abbrev pub rows_lines : List ℕ → List ℕ → List (List ℕ)
rows_lines alphas betas = head_line ∷ (map alpha_line (enumerate_from 0 alphas) ++ map beta_line (enumerate_from 0 betas))

-- all lines after it: alphas, betas, bound
abbrev pub lines : Cert → List (List ℕ)
lines c = rows_lines c.alphas c.betas ++ bound_line c.bound ∷ []

-- the document of a certificate
abbrev pub document : Cert → List ℕ
document c = flat_map ended (lines c)

-- what stands in it before the betas
abbrev pub cert_front : Cert → List ℕ
cert_front c = ended head_line ++ flat_map ended (map alpha_line (enumerate_from 0 c.alphas))

-- the lines of its betas, and its last one
abbrev pub cert_rest : Cert → List ℕ
cert_rest c = flat_map ended (map beta_line (enumerate_from 0 c.betas)) ++ ended (bound_line c.bound)
