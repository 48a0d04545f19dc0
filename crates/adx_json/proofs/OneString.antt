-- A string has one text, and a number one end.
use Rattle.std.proofs.Common.{◌≡◌, ℕ, zero, suc, ◌+◌, ◌*◌, ◌<◌, List, [], ◌∷◌, ◌++◌, length, true, false, cond, Option, Some, None, refl, sym, ap, ap₂, ◌∙◌, subst, arith, eqb, append_assoc}
use Rattle.std.proofs.lemmas.Bool.{and_parts, cond-false}
use Rattle.std.proofs.lemmas.Bool.Decides.{nat_tests}
use Rattle.std.specs.List.{list_all, flat_map, AllByRecursion}
use Rattle.adx_units.specs.JsonTexts.{is_bare}
use Rattle.adx_json.specs.Grammar.{Piece, run, short, unit, IsPiece, piece_bytes, is_short, short_value, hex_value, unit_value, unit_text, unpaired, waits, decoded, IsString}
use Rattle.adx_json.specs.Machine.{next_numeral, may_end}
use Rattle.adx_json.specs.Scan.{accepts}
use Rattle.adx_json.specs.declared.number.Numeral.{Numeral}
use Rattle.adx_json.proofs.Stops.{Ended, ends_number, ends_all, accept_at, bare_parts}

-- within a string: between characters, after a backslash, within four digits
data At : Type 0 where
  between : Option ℕ → At
  behind_backslash : Option ℕ → At
  in_digits : Option ℕ → ℕ → ℕ → At

abbrev Read : Type 0
Read = List ℕ × List ℕ

abbrev behind : List ℕ → Read → Read
behind bytes x = (bytes ++ x.0, x.1)

-- the text up to the closing quotation mark, and the bytes after it
abbrev read_from : At → List ℕ → Read
read_from at [] = ([], [])
read_from (between w) (b ∷ bs) =
    cond (eqb b 34) (unpaired w, bs) (cond (eqb b 92) (read_from (behind_backslash w) bs) (behind (unpaired w ++ b ∷ []) (read_from (between None) bs)))
read_from (behind_backslash w) (b ∷ bs) =
    cond (eqb b 117) (read_from (in_digits w 3 0) bs) (behind (unit_text w (short_value b)) (read_from (between (waits (short_value b))) bs))
read_from (in_digits w zero n) (b ∷ bs) =
    behind (unit_text w (16 * n + hex_value b)) (read_from (between (waits (16 * n + hex_value b))) bs)
read_from (in_digits w (suc k) n) (b ∷ bs) = read_from (in_digits w k (16 * n + hex_value b)) bs

read_byte : (w : Option ℕ) (b : ℕ) (bs : List ℕ) → is_bare b ≡ true → read_from (between w) (b ∷ bs) ≡ behind (unpaired w ++ b ∷ []) (read_from (between None) bs)
read_byte w b bs bare =
    let parts = bare_parts b bare in
    cond-false _ _ _ parts.0 ∙ cond-false _ _ _ parts.1

read_bytes : (bytes rest : List ℕ) → list_all is_bare bytes ≡ true → read_from (between None) (bytes ++ rest) ≡ behind bytes (read_from (between None) rest)
read_bytes [] rest bare = refl
read_bytes (b ∷ bytes) rest bare =
    let parts = and_parts (is_bare b) (list_all is_bare bytes) bare in
    read_byte None b (bytes ++ rest) parts.0 ∙ ap (behind (b ∷ [])) (read_bytes bytes rest parts.1)

read_run : (w : Option ℕ) (bytes rest : List ℕ) → 0 < length bytes → list_all is_bare bytes ≡ true → read_from (between w) (bytes ++ rest) ≡ behind (unpaired w ++ bytes) (read_from (between None) rest)
read_run w [] rest some bare = absurd (omega arith)
read_run w (b ∷ bytes) rest some bare =
    let parts = and_parts (is_bare b) (list_all is_bare bytes) bare in
    read_byte w b (bytes ++ rest) parts.0 ∙ ap (behind (unpaired w ++ b ∷ [])) (read_bytes bytes rest parts.1)
    ∙ ap (λ x. (x, (read_from (between None) rest).1)) (regroup (unpaired w) b bytes (read_from (between None) rest).0)
  where
    regroup : (u : List ℕ) (b : ℕ) (xs ys : List ℕ) → (u ++ b ∷ []) ++ (xs ++ ys) ≡ (u ++ b ∷ xs) ++ ys
    regroup u b xs ys = simp append_assoc

short_no_unit : (b : ℕ) → is_short b ≡ true → eqb b 117 ≡ false
short_no_unit b h = grind (arith, nat_tests)

four : (a b c d : ℕ) → 16 * (16 * (16 * (16 * 0 + a) + b) + c) + d ≡ 4096 * a + 256 * b + 16 * c + d
four a b c d = omega arith

read_pieces : (w : Option ℕ) (ps : List Piece) (r : List ℕ) → AllByRecursion IsPiece ps → read_from (between w) (flat_map piece_bytes ps ++ 34 ∷ r) ≡ (decoded w ps, r)
read_pieces w [] r h = refl
read_pieces w (run bytes ∷ ps) r h =
    ap (read_from (between w)) (append_assoc bytes (flat_map piece_bytes ps) (34 ∷ r))
    ∙ read_run w bytes (flat_map piece_bytes ps ++ 34 ∷ r) h.0.0 h.0.2
    ∙ ap (behind (unpaired w ++ bytes)) (read_pieces None ps r h.1)
    ∙ ap (λ x. (x, r)) (append_assoc (unpaired w) bytes (decoded None ps))
read_pieces w (short b ∷ ps) r h =
    cond-false _ _ _ (short_no_unit b h.0) ∙ ap (behind (unit_text w (short_value b))) (read_pieces (waits (short_value b)) ps r h.1)
read_pieces w (unit a b c d ∷ ps) r h =
    ap (λ u. behind (unit_text w u) (read_from (between (waits u)) (flat_map piece_bytes ps ++ 34 ∷ r))) (four (hex_value a) (hex_value b) (hex_value c) (hex_value d))
    ∙ ap (behind (unit_text w (unit_value a b c d))) (read_pieces (waits (unit_value a b c d)) ps r h.1)

string_whole : (t bytes r : List ℕ) (s : IsString t bytes) → bytes ++ r ≡ 34 ∷ (flat_map piece_bytes s.pieces ++ 34 ∷ r)
string_whole t bytes r s = ap (λ x. x ++ r) s.spelled ∙ ap (λ x. 34 ∷ x) (append_assoc (flat_map piece_bytes s.pieces) (34 ∷ []) r)

tails : (c d : ℕ) (cs ds : List ℕ) → c ∷ cs ≡ d ∷ ds → cs ≡ ds
tails c d cs ds e = cc

-- a string of two texts
pub one_string : (t u a b r s : List ℕ) → IsString t a → IsString u b → a ++ r ≡ b ++ s → (t ≡ u) × (r ≡ s)
one_string t u a b r s h k e =
    let same : flat_map piece_bytes h.pieces ++ 34 ∷ r ≡ flat_map piece_bytes k.pieces ++ 34 ∷ s = tails 34 34 _ _ (sym (string_whole t a r h) ∙ e ∙ string_whole u b s k) in
    let both = sym (read_pieces None h.pieces r h.each) ∙ ap (read_from (between None)) same ∙ read_pieces None k.pieces s k.each in
    (h.means ∙ ap (λ x. x.0) both ∙ sym k.means, ap (λ x. x.1) both)

none_some : (n k : Option Numeral) (m : Numeral) → n ≡ None → n ≡ Some m → ⊥
none_some n k m e f = cc

some_same : (n : Option Numeral) (k m : Numeral) → n ≡ Some k → n ≡ Some m → k ≡ m
some_same n k m e f = cc

-- a number that goes on with a byte doesn't end there
goes_on : (n : Numeral) (y : ℕ) (b s r : List ℕ) → may_end n ≡ true → accepts n (y ∷ b) ≡ true → Ended r → r ≡ (y ∷ b) ++ s → ⊥
goes_on n y b s r may h e same =
    let k = accept_at n y b (next_numeral n y) refl h in
    let ends : ends_number y ≡ true = subst Ended same e in
    none_some (next_numeral n y) None k.0 (ends_all n y may ends) k.1

pub one_number : (n : Numeral) (a b r s : List ℕ) → accepts n a ≡ true → accepts n b ≡ true → Ended r → Ended s → a ++ r ≡ b ++ s → (a ≡ b) × (r ≡ s)
one_number n [] [] r s h k er es e = (refl, e)
one_number n [] (y ∷ b) r s h k er es e = absurd (goes_on n y b s r h k er e)
one_number n (x ∷ a) [] r s h k er es e = absurd (goes_on n x a r s k h es (sym e))
one_number n (x ∷ a) (y ∷ b) r s h k er es e =
    let heads : x ≡ y = cc in
    let rest : a ++ r ≡ b ++ s = cc in
    let p = accept_at n x a (next_numeral n x) refl h in
    let q = accept_at n y b (next_numeral n y) refl k in
    let same : p.0 ≡ q.0 = some_same (next_numeral n x) p.0 q.0 p.1 (ap (next_numeral n) heads ∙ q.1) in
    let later = one_number p.0 a b r s p.2 (subst (λ m. accepts m b ≡ true) (sym same) q.2) er es rest in
    (ap₂ (λ (c : ℕ) (cs : List ℕ). c ∷ cs) heads later.0, later.1)
