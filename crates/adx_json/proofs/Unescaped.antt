-- Bytes of ASCII with no escape.
use Rattle.std.proofs.Common.{◌≡◌, refl, ℕ, zero, suc, ◌<◌, List, [], ◌∷◌, ◌++◌, true, None, IsAscii, sym, arith, append-nil}
use Rattle.std.proofs.lemmas.Bool.{and_parts}
use Rattle.std.proofs.lemmas.Bool.Decides.{nat_tests}
use Rattle.std.proofs.lemmas.Str.{IsUtf8-from_ascii}
use Rattle.std.specs.List.{list_all}
use Rattle.adx_units.specs.Unescaped.{is_unescaped}
use Rattle.adx_units.specs.JsonTexts.{is_bare}
use Rattle.adx_json.specs.Found.{AddsRun, FoundText}
use Rattle.adx_json.proofs.TextParts.{run_none, run_some, text_start, text_run, text_closes}

is_low : (b : ℕ) → is_unescaped b ≡ true → b < 128
is_low b h = grind (arith, nat_tests)

pub are_ascii : (bytes : List ℕ) → list_all is_unescaped bytes ≡ true → IsAscii bytes
are_ascii [] h k = omega arith
are_ascii (b ∷ bytes) h zero = is_low b (and_parts _ _ h).0
are_ascii (b ∷ bytes) h (suc k) = are_ascii bytes (and_parts _ _ h).1 k

adds_run : (run : List ℕ) → list_all is_bare run ≡ true → IsAscii run → AddsRun None run [] None run
adds_run [] bare ascii = run_none None [] [] refl
adds_run (b ∷ run) bare ascii = run_some None (b ∷ run) [] [] (b ∷ run) (omega arith) bare (IsUtf8-from_ascii (b ∷ run) ascii) refl refl

-- a run of them up to the closing quotation mark is a text
pub one_run : (bytes run behind rest : List ℕ) → bytes ≡ run ++ behind → behind ≡ 34 ∷ rest → list_all is_bare run ≡ true → IsAscii run → FoundText bytes run rest
one_run bytes run behind rest cut first bare ascii =
    text_closes bytes run None behind rest run (text_run bytes [] None bytes run behind None run (text_start bytes) cut (adds_run run bare ascii)) first (sym (append-nil run))
