-- A line's row as it is read; only private clauses cite it.
use Rattle.std.specs.Prelude.{ℕ, ◌+◌, ◌^◌, List, [], ◌∷◌, ◌++◌, codes, Option, Some, None, option_map, ◌==◌, if◌then◌else◌}
use Rattle.std.specs.Option.{option_or}
use Rattle.std.specs.Fmt.{decimal}
use Rattle.formats.specs.Parts.{◌>>=◌, behind_word, behind_byte, none_left, number_at}
use Rattle.dual_cert.specs.declared.row.Row.{Row}
use Rattle.dual_cert.specs.declared.row.Row.TheVariants.{Alpha, Beta, Bound}
use Rattle.dual_cert.specs.Refusals.{Told, rows, all}

-- a word, this index, and a number behind a space
unfoldable pub indexed_at : List ℕ → ℕ → List ℕ → Option ℕ
indexed_at word index line = do
  a ← behind_word word line
  b ← behind_word (decimal index) a
  c ← behind_byte 32 b
  n ← number_at (2 ^ 64) c
  u ← none_left n.1
  Some n.0

unfoldable pub bound_at : List ℕ → Option ℕ
bound_at line = do
  a ← behind_word (codes "bound ") line
  n ← number_at (2 ^ 128) a
  u ← none_left n.1
  Some n.0

-- the row of a line behind so many alphas and betas
unfoldable pub row_at : ℕ → ℕ → List ℕ → Option Row
row_at alphas betas line =
    option_or (if betas == 0 then option_map Alpha (indexed_at (codes "alpha ") alphas line) else None)
    (option_or (option_map Beta (indexed_at (codes "beta ") betas line)) (option_map Bound (bound_at line)))

-- what is told behind a row
abbrev pub with_row : Row → List ℕ → List ℕ → Told
with_row (Alpha a) alphas betas = rows (alphas ++ a ∷ []) betas
with_row (Beta b) alphas betas = rows alphas (betas ++ b ∷ [])
with_row (Bound n) alphas betas = all alphas betas n
