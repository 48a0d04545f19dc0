-- The texts and names of a JSON text's tree are UTF-8.
use Rattle.std.proofs.Common.{◌≡◌, ℕ, ◌<◌, ◌≤◌, List, [], ◌∷◌, ◌++◌, Bool, true, false, cond, ◌&&◌, Option, Some, None, refl, sym, subst, arith}
use Rattle.std.proofs.lemmas.Bool.{and_parts, cond_both}
use Rattle.std.proofs.lemmas.Bool.Decides.{nat_tests}
use Rattle.std.proofs.lemmas.Str.{IsUtf8-encode, IsUtf8-append, IsUtf8-nil}
use Rattle.std.specs.Option.{IfSome}
use Rattle.std.specs.Char.{IsScalar, encode_utf8}
use Rattle.std.specs.Char.Utf16.{is_high_surrogate, is_low_surrogate, surrogate_pair_char}
use Rattle.std.specs.List.{AllByRecursion}
use Rattle.std.specs.Str.{IsUtf8}
use Rattle.adx_json.specs.Tree.{Tree, null, boolean, number, text, list, object, Items, no_items, item, Members, no_members, member}
use Rattle.adx_json.specs.Grammar.{IsString, IsValue, AreItems, AreMoreItems, AreMembers, AreMoreMembers, Piece, run, short, unit, IsPiece, is_short, is_hex, short_value, hex_value, unit_value, unit_text, unpaired, low_text, waits, decoded, replacement, has_name, last_of_each, resolved, resolved_items, resolved_members, IsJson}
use Rattle.adx_json.specs.WellFormed.{HasUtf8, AllHaveUtf8, MembersHaveUtf8}

abbrev High : Option ℕ → Type 0
High w = IfSome w (λ h. is_high_surrogate h ≡ true)

replaced : encode_utf8 65533 ++ [] ≡ replacement
unfolding encode_utf8
replaced = refl

replacement_utf8 : IsUtf8 replacement
replacement_utf8 = (65533 ∷ [], (refl, replaced))

unpaired_utf8 : (w : Option ℕ) → IsUtf8 (unpaired w)
unpaired_utf8 None = IsUtf8-nil
unpaired_utf8 (Some h) = replacement_utf8

hex_small : (b : ℕ) → is_hex b ≡ true → hex_value b < 16
hex_small b h = grind (arith, nat_tests)

unit_small : (a b c d : ℕ) → (is_hex a && is_hex b && is_hex c && is_hex d) ≡ true → unit_value a b c d < 65536
unit_small a b c d h =
    let p3 = and_parts (is_hex a && is_hex b && is_hex c) (is_hex d) h in
    let p2 = and_parts (is_hex a && is_hex b) (is_hex c) p3.0 in
    let p1 = and_parts (is_hex a) (is_hex b) p2.0 in
    let ha = hex_small a p1.0 in
    let hb = hex_small b p1.1 in
    let hc = hex_small c p2.1 in
    let hd = hex_small d p3.1 in
    omega arith

short_small : (b : ℕ) → is_short b ≡ true → short_value b < 65536
short_small b h = grind (arith, nat_tests)

high_range : (h : ℕ) → is_high_surrogate h ≡ true → (55296 ≤ h) × (h < 56320)
high_range h e = grind (arith, nat_tests)

low_range : (l : ℕ) → is_low_surrogate l ≡ true → (56320 ≤ l) × (l < 57344)
low_range l e = grind (arith, nat_tests)

scalar_between : (c : ℕ) → 57344 ≤ c → c < 1114112 → IsScalar c
scalar_between c l h = grind (arith, nat_tests)

scalar_alone : (u : ℕ) → u < 65536 → is_low_surrogate u ≡ false → is_high_surrogate u ≡ false → IsScalar u
scalar_alone u low l h = grind (arith, nat_tests)

low_utf8 : (w : Option ℕ) (l : ℕ) → High w → is_low_surrogate l ≡ true → IsUtf8 (low_text w l)
low_utf8 None l high e = replacement_utf8
low_utf8 (Some h) l high e =
    let x = high_range h high in
    let y = low_range l e in
    IsUtf8-encode (surrogate_pair_char h l) (scalar_between (surrogate_pair_char h l) (omega (arith, x.0, x.1, y.0, y.1)) (omega (arith, x.0, x.1, y.0, y.1)))

unit_utf8 : (w : Option ℕ) (u : ℕ) → High w → u < 65536 → IsUtf8 (unit_text w u)
unit_utf8 w u high small =
    cond_both (is_low_surrogate u) (low_text w u) (cond (is_high_surrogate u) (unpaired w) (unpaired w ++ encode_utf8 u)) IsUtf8 (λ l. low_utf8 w u high l)
    (λ l. cond_both (is_high_surrogate u) (unpaired w) (unpaired w ++ encode_utf8 u) IsUtf8 (λ h. unpaired_utf8 w)
    (λ h. IsUtf8-append (unpaired w) (encode_utf8 u) (unpaired_utf8 w) (IsUtf8-encode u (scalar_alone u small l h))))

waits_high : (u : ℕ) (b : Bool) → is_high_surrogate u ≡ b → High (cond b (Some u) None)
waits_high u true e = e
waits_high u false e = tt

decoded_utf8 : (w : Option ℕ) (ps : List Piece) → High w → AllByRecursion IsPiece ps → IsUtf8 (decoded w ps)
decoded_utf8 w [] high h = unpaired_utf8 w
decoded_utf8 w (run bytes ∷ ps) high h =
    IsUtf8-append (unpaired w) (bytes ++ decoded None ps) (unpaired_utf8 w) (IsUtf8-append bytes (decoded None ps) h.0.1 (decoded_utf8 None ps tt h.1))
decoded_utf8 w (short b ∷ ps) high h =
    IsUtf8-append (unit_text w (short_value b)) (decoded (waits (short_value b)) ps) (unit_utf8 w (short_value b) high (short_small b h.0)) (decoded_utf8 (waits (short_value b)) ps (waits_high (short_value b) (is_high_surrogate (short_value b)) refl) h.1)
decoded_utf8 w (unit a b c d ∷ ps) high h =
    IsUtf8-append (unit_text w (unit_value a b c d)) (decoded (waits (unit_value a b c d)) ps) (unit_utf8 w (unit_value a b c d) high (unit_small a b c d h.0)) (decoded_utf8 (waits (unit_value a b c d)) ps (waits_high (unit_value a b c d) (is_high_surrogate (unit_value a b c d)) refl) h.1)

string_utf8 : (t bytes : List ℕ) → IsString t bytes → IsUtf8 t
string_utf8 t bytes h = subst IsUtf8 (sym h.means) (decoded_utf8 None h.pieces tt h.each)

last_utf8_at : (n : List ℕ) (t : Tree) (ms : Members) (b : Bool) → IsUtf8 n → HasUtf8 t → MembersHaveUtf8 (last_of_each ms) → MembersHaveUtf8 (cond b (last_of_each ms) (member n t (last_of_each ms)))
last_utf8_at n t ms true u v h = h
last_utf8_at n t ms false u v h = (u, v, h)

last_utf8 : (ms : Members) → MembersHaveUtf8 ms → MembersHaveUtf8 (last_of_each ms)
last_utf8 no_members h = tt
last_utf8 (member n t ms) h = last_utf8_at n t ms (has_name n ms) h.0 h.1 (last_utf8 ms h.2)

mutual
  value_utf8 : (t : Tree) (bytes : List ℕ) → IsValue t bytes → HasUtf8 (resolved t)
  value_utf8 null bytes h = tt
  value_utf8 (boolean b) bytes h = tt
  value_utf8 (number n) bytes h = tt
  value_utf8 (text t) bytes h = string_utf8 t bytes h
  value_utf8 (list ts) bytes h = items_utf8 ts h.0 h.2
  value_utf8 (object ms) bytes h = last_utf8 (resolved_members ms) (members_utf8 ms h.0 h.2)

  items_utf8 : (ts : Items) (bytes : List ℕ) → AreItems ts bytes → AllHaveUtf8 (resolved_items ts)
  items_utf8 no_items bytes h = tt
  items_utf8 (item t ts) bytes h = (value_utf8 t h.3.1 h.3.5, more_items_utf8 ts h.1 h.4)

  more_items_utf8 : (ts : Items) (bytes : List ℕ) → AreMoreItems ts bytes → AllHaveUtf8 (resolved_items ts)
  more_items_utf8 no_items bytes h = tt
  more_items_utf8 (item t ts) bytes h = (value_utf8 t h.3.1 h.3.5, more_items_utf8 ts h.1 h.4)

  members_utf8 : (ms : Members) (bytes : List ℕ) → AreMembers ms bytes → MembersHaveUtf8 (resolved_members ms)
  members_utf8 no_members bytes h = tt
  members_utf8 (member n t ms) bytes h = (string_utf8 n h.4.1 h.4.5, value_utf8 t h.5.1 h.5.5, more_members_utf8 ms h.2 h.6)

  more_members_utf8 : (ms : Members) (bytes : List ℕ) → AreMoreMembers ms bytes → MembersHaveUtf8 (resolved_members ms)
  more_members_utf8 no_members bytes h = tt
  more_members_utf8 (member n t ms) bytes h = (string_utf8 n h.4.1 h.4.5, value_utf8 t h.5.1 h.5.5, more_members_utf8 ms h.2 h.6)

pub json_utf8 : (bytes : List ℕ) (tree : Tree) → IsJson bytes tree → HasUtf8 tree
json_utf8 bytes tree j = subst HasUtf8 (sym j.means) (value_utf8 j.written j.value.1 j.value.5)
