-- A text's escapes, run by run.
use Rattle.std.proofs.Common.{◌≡◌, ℕ, List, [], ◌∷◌, ◌++◌, true, false, length, subst, arith, refl, sym, ap, ◌∙◌, append_assoc, append-nil}
use Rattle.std.proofs.lemmas.Grind.{flat_map-append}
use Rattle.std.specs.List.{list_all, flat_map}
use Rattle.std.proofs.lemmas.Str.{IsCharBoundary-after_ascii}
use Rattle.std.specs.Str.{IsUtf8, IsCharBoundary}
use Rattle.adx_units.specs.JsonTexts.{escape}
use Rattle.adx_units.specs.JsonTexts.{is_bare}
use Rattle.adx_units.specs.Scans.{Stops}
use Rattle.adx_units.proofs.Bare.{bare_text, escaped_low}

-- a bare run is put as it is
pub escaped_run : (left run behind : List ℕ) → left ≡ run ++ behind → list_all is_bare run ≡ true → flat_map escape left ≡ run ++ flat_map escape behind
escaped_run left run behind whole bare =
    ap (flat_map escape) whole ∙ flat_map-append escape run behind ∙ ap (λ bs. bs ++ flat_map escape behind) (bare_text run bare)

empty_of : (bs : List ℕ) → length bs ≡ 0 → bs ≡ []
empty_of [] e = refl
empty_of (b ∷ bs) e = absurd (omega arith)

-- after the last run nothing is left
pub runs_end : (out put left run behind whole : List ℕ) → put ≡ out ++ run → left ≡ run ++ behind → list_all is_bare run ≡ true → length behind ≡ 0 → out ++ flat_map escape left ≡ whole → put ≡ whole
runs_end out put left run behind whole e cut bare none kept =
    let spelled = escaped_run left run behind cut bare ∙ ap (λ bs. run ++ flat_map escape bs) (empty_of behind none) ∙ append-nil run in
    e ∙ ap (λ bs. out ++ bs) (sym spelled) ∙ kept

-- after another run a byte is escaped
pub runs_more : (out put next left run behind whole : List ℕ) (b : ℕ) (rest : List ℕ) → put ≡ out ++ run → left ≡ run ++ behind → list_all is_bare run ≡ true → behind ≡ b ∷ rest → next ≡ put ++ escape b → out ++ flat_map escape left ≡ whole
    → next ++ flat_map escape rest ≡ whole
runs_more out put next left run behind whole b rest e cut bare first escaped kept =
    let spelled : flat_map escape left ≡ run ++ (escape b ++ flat_map escape rest) = escaped_run left run behind cut bare ∙ ap (λ bs. run ++ flat_map escape bs) first in
    ap (λ bs. bs ++ flat_map escape rest) (escaped ∙ ap (λ bs. bs ++ escape b) e)
    ∙ append_assoc (out ++ run) (escape b) (flat_map escape rest)
    ∙ append_assoc out run (escape b ++ flat_map escape rest)
    ∙ ap (λ bs. out ++ bs) (sym spelled)
    ∙ kept

-- a text may be cut after a byte that needs an escape
pub behind_escaped : (bs : List ℕ) (b : ℕ) (rest : List ℕ) → IsUtf8 bs → bs ≡ b ∷ rest → Stops is_bare bs → IsCharBoundary bs 1
behind_escaped bs b rest u e stops =
    let needs : is_bare b ≡ false = subst (Stops is_bare) e stops in
    subst (λ xs. IsCharBoundary xs 1) (sym e) (IsCharBoundary-after_ascii (b ∷ rest) 0 (subst IsUtf8 e u) (omega arith) (escaped_low b needs))
