-- The spelling of a well-formed tree is a JSON text of that tree.
use Rattle.std.proofs.Common.{◌≡◌, ◌≢◌, ℕ, suc, ◌+◌, ◌*◌, ◌/◌, ◌%◌, ◌<◌, ◌≤◌, ◌⊎◌, inl, inr, List, [], ◌∷◌, ◌++◌, length, get_or, Bool, true, false, cond, ◌&&◌, ◌||◌, None, refl, sym, ap, ap₂, ◌∙◌, subst, arith, eqb, append-nil}
use Rattle.std.proofs.lemmas.Bool.{and_parts, and_from, agree_below_at, cases_lt, cond-false, eqb-true, or_from, false≢true, false_from_ne_true}
use Rattle.std.proofs.lemmas.Bool.Decides.{nat_tests}
use Rattle.std.proofs.lemmas.Grind.{flat_map-append}
use Rattle.std.proofs.lemmas.Slice.Eq.{bytes_eq-Decides}
use Rattle.std.proofs.lemmas.Str.{encode_ascii}
use Rattle.std.specs.Char.{encode_utf8}
use Rattle.std.specs.Char.Utf16.{is_high_surrogate, is_low_surrogate}
use Rattle.std.specs.List.{list_all, flat_map, AllByRecursion, AllPairs}
use Rattle.std.specs.Str.{IsUtf8, all_scalars, encode_utf8_all, bytes_eq}
use Rattle.adx_json.specs.Tree.{Tree, null, boolean, number, text, list, object, Items, no_items, item, Members, no_members, member, names_of, levels}
use Rattle.adx_units.specs.JsonTexts.{is_bare}
use Rattle.adx_units.specs.JsonTexts.{hex_digit, escape, text_spelling}
use Rattle.adx_json.specs.Spelling.{spelling, items_spelling, more_items_spelling, members_spelling, more_members_spelling}
use Rattle.adx_json.specs.Grammar.{IsPadded, IsString, IsValue, AreItems, AreMoreItems, AreMembers, AreMoreMembers, Piece, run, short, unit, IsPiece, piece_bytes, is_short, is_hex, short_value, unit_value, unit_text, waits, decoded, has_name, last_of_each, resolved, resolved_items, resolved_members, IsJson}
use Rattle.adx_json.specs.WellFormed.{IsWellFormed, AreWellFormed, HaveWellFormed, HasUtf8, AllHaveUtf8, MembersHaveUtf8}
use Rattle.adx_units.proofs.Bare.{bare_text}
use Rattle.adx_json.proofs.Utf8Steps.{two_bytes, three_bytes, four_bytes}

-- a piece that spells a character as its escape does
pub record SpellsAs (bytes : List ℕ) (p : Piece) : Type 0 where
  pub spelled : piece_bytes p ≡ flat_map escape bytes
  pub is : IsPiece p
  pub means : (ps : List Piece) → decoded None (p ∷ ps) ≡ bytes ++ decoded None ps

-- a run of bytes that need no escape
run_spells : (bytes : List ℕ) → 0 < length bytes → IsUtf8 bytes → list_all is_bare bytes ≡ true → SpellsAs bytes (run bytes)
run_spells bytes some u bare = record { spelled = sym (bare_text bytes bare); is = (some, u, bare); means = λ ps. refl }

-- the escape of a byte that needs one
abbrev escape_piece : ℕ → Piece
escape_piece b =
    cond (eqb b 34) (short 34) (cond (eqb b 92) (short 92) (cond (eqb b 8) (short 98) (cond (eqb b 9) (short 116) (cond (eqb b 10) (short 110) (cond (eqb b 12) (short 102) (cond (eqb b 13) (short 114) (unit 48 48 (hex_digit (b / 16)) (hex_digit (b % 16)))))))))

abbrev is_escape : Piece → Bool
is_escape (run bytes) = false
is_escape (short b) = is_short b
is_escape (unit a b c d) = is_hex a && is_hex b && is_hex c && is_hex d

abbrev escape_value : Piece → ℕ
escape_value (run bytes) = 0
escape_value (short b) = short_value b
escape_value (unit a b c d) = unit_value a b c d

-- the piece of a byte that isn't bare, as a test
abbrev escapes_well : ℕ → Bool
escapes_well b = is_bare b || (is_escape (escape_piece b) && bytes_eq (piece_bytes (escape_piece b)) (escape b) && eqb (escape_value (escape_piece b)) b)

all_escape_well : (b : ℕ) → b < 128 → escapes_well b ≡ true
all_escape_well b low = agree_below_at escapes_well (λ _. true) 128 b refl low

plain_unit : (u : ℕ) → u < 128 → unit_text None u ≡ u ∷ []
plain_unit u low =
    let l : is_low_surrogate u ≡ false = grind (arith, nat_tests) in
    let h : is_high_surrogate u ≡ false = grind (arith, nat_tests) in
    cond-false _ _ _ l ∙ cond-false _ _ _ h ∙ encode_ascii u low

plain_waits : (u : ℕ) → u < 128 → waits u ≡ None
plain_waits u low = let h : is_high_surrogate u ≡ false = grind (arith, nat_tests) in cond-false _ _ _ h

escape_means : (p : Piece) (b : ℕ) (ps : List Piece) → is_escape p ≡ true → escape_value p ≡ b → b < 128 → decoded None (p ∷ ps) ≡ b ∷ decoded None ps
escape_means (run bytes) b ps h e low = absurd (false≢true h)
escape_means (short x) b ps h e low = ap (λ u. unit_text None u ++ decoded (waits u) ps) e ∙ ap₂ (λ x w. x ++ decoded w ps) (plain_unit b low) (plain_waits b low)
escape_means (unit x y z w) b ps h e low = ap (λ u. unit_text None u ++ decoded (waits u) ps) e ∙ ap₂ (λ x w. x ++ decoded w ps) (plain_unit b low) (plain_waits b low)

escape_is : (p : Piece) → is_escape p ≡ true → IsPiece p
escape_is (run bytes) h = absurd (false≢true h)
escape_is (short x) h = h
escape_is (unit x y z w) h = h

escape_spells : (b : ℕ) → b < 128 → is_bare b ≡ false → SpellsAs (b ∷ []) (escape_piece b)
escape_spells b low n =
    let all : (is_escape (escape_piece b) && bytes_eq (piece_bytes (escape_piece b)) (escape b) && eqb (escape_value (escape_piece b)) b) ≡ true =
    sym (ap (λ x. x || (is_escape (escape_piece b) && bytes_eq (piece_bytes (escape_piece b)) (escape b) && eqb (escape_value (escape_piece b)) b)) n) ∙ all_escape_well b low in
    let two = and_parts (is_escape (escape_piece b) && bytes_eq (piece_bytes (escape_piece b)) (escape b)) (eqb (escape_value (escape_piece b)) b) all in
    let one = and_parts (is_escape (escape_piece b)) (bytes_eq (piece_bytes (escape_piece b)) (escape b)) two.0 in
    record {
      spelled = (bytes_eq-Decides (piece_bytes (escape_piece b)) (escape b)).0 one.1 ∙ sym (append-nil (escape b));
      is = escape_is (escape_piece b) one.0;
      means = λ ps. escape_means (escape_piece b) b ps one.0 (eqb-true _ _ two.1) low;
    }

-- the piece of a character
wide_bare : (b : ℕ) → 128 ≤ b → is_bare b ≡ true
wide_bare b h = grind (arith, nat_tests)

wide_character : (c : ℕ) → 128 ≤ c → c < 1114112 → (c < 2048) ⊎ (2048 ≤ c) → (c < 65536) ⊎ (65536 ≤ c) → (list_all is_bare (encode_utf8 c) ≡ true) × (0 < length (encode_utf8 c))
wide_character c low high (inl m) n =
    let e : 64 * (c / 64) + c % 64 ≡ c = omega arith in
    let same = ap encode_utf8 (sym e) ∙ two_bytes (c / 64) (c % 64) (omega arith) (omega arith) (omega arith) in
    rw same (and_from _ _ (wide_bare (192 + c / 64) (omega arith)) (and_from _ _ (wide_bare (128 + c % 64) (omega arith)) refl), omega arith)
wide_character c low high (inr m) (inl n) =
    let e : 4096 * (c / 4096) + 64 * ((c / 64) % 64) + c % 64 ≡ c = omega arith in
    let big : 2048 ≤ 4096 * (c / 4096) + 64 * ((c / 64) % 64) + c % 64 = omega arith in
    let same = ap encode_utf8 (sym e) ∙ three_bytes (c / 4096) ((c / 64) % 64) (c % 64) (omega arith) (omega arith) (omega arith) big in
    rw same (and_from _ _ (wide_bare (224 + c / 4096) (omega arith)) (and_from _ _ (wide_bare (128 + (c / 64) % 64) (omega arith)) (and_from _ _ (wide_bare (128 + c % 64) (omega arith)) refl)), omega arith)
wide_character c low high (inr m) (inr n) =
    let e : 262144 * (c / 262144) + 4096 * ((c / 4096) % 64) + 64 * ((c / 64) % 64) + c % 64 ≡ c = omega arith in
    let big : 65536 ≤ 262144 * (c / 262144) + 4096 * ((c / 4096) % 64) + 64 * ((c / 64) % 64) + c % 64 = omega arith in
    let same = ap encode_utf8 (sym e) ∙ four_bytes (c / 262144) ((c / 4096) % 64) ((c / 64) % 64) (c % 64) (omega arith) (omega arith) (omega arith) (omega arith) big in
    rw same (and_from _ _ (wide_bare (240 + c / 262144) (omega arith)) (and_from _ _ (wide_bare (128 + (c / 4096) % 64) (omega arith)) (and_from _ _ (wide_bare (128 + (c / 64) % 64) (omega arith)) (and_from _ _ (wide_bare (128 + c % 64) (omega arith)) refl))), omega arith)

scalar_high : (c : ℕ) → all_scalars (c ∷ []) ≡ true → c < 1114112
scalar_high c h = grind (arith, nat_tests)

ascii_piece : (c : ℕ) → c < 128 → (b : Bool) → is_bare c ≡ b → (p : Piece) × SpellsAs (c ∷ []) p
ascii_piece c low true e = (run (c ∷ []), run_spells (c ∷ []) (omega arith) (ascii_utf8 c low) (and_from _ _ e refl))
  where
    ascii_utf8 : (c : ℕ) → c < 128 → IsUtf8 (c ∷ [])
    ascii_utf8 c low = let s : all_scalars (c ∷ []) ≡ true = grind (arith, nat_tests) in (c ∷ [], (s, append-nil (encode_utf8 c) ∙ encode_ascii c low))
ascii_piece c low false e = (escape_piece c, escape_spells c low e)

character_piece : (c : ℕ) → all_scalars (c ∷ []) ≡ true → (c < 128) ⊎ (128 ≤ c) → (p : Piece) × SpellsAs (encode_utf8 c) p
character_piece c s (inl low) =
    let k = ascii_piece c low (is_bare c) refl in
    (k.0, subst (λ x. SpellsAs x k.0) (sym (encode_ascii c low)) k.1)
character_piece c s (inr high) =
    let k = wide_character c high (scalar_high c s) (cases_lt c 2048) (cases_lt c 65536) in
    let u : IsUtf8 (encode_utf8 c) = (c ∷ [], (s, append-nil (encode_utf8 c))) in
    (run (encode_utf8 c), run_spells (encode_utf8 c) k.1 u k.0)

-- the pieces of a text
pub record Pieces (t : List ℕ) : Type 0 where
  pub pieces : List Piece
  pub each : AllByRecursion IsPiece pieces
  pub spelled : flat_map piece_bytes pieces ≡ flat_map escape t
  pub means : decoded None pieces ≡ t

pieces_more : (first rest : List ℕ) (p : Piece) → SpellsAs first p → Pieces rest → Pieces (first ++ rest)
pieces_more first rest p s k = record {
  pieces = p ∷ k.pieces;
  each = (s.is, k.each);
  spelled = ap₂ (λ x y. x ++ y) s.spelled k.spelled ∙ sym (flat_map-append escape first rest);
  means = s.means k.pieces ∙ ap (λ x. first ++ x) k.means;
}

characters_pieces : (cs : List ℕ) → all_scalars cs ≡ true → Pieces (encode_utf8_all cs)
characters_pieces [] s = record { pieces = []; each = tt; spelled = refl; means = refl }
characters_pieces (c ∷ cs) s =
    let parts = and_parts _ _ s in
    let k = character_piece c (and_from _ _ parts.0 refl) (cases_lt c 128) in
    pieces_more (encode_utf8 c) (encode_utf8_all cs) k.0 k.1 (characters_pieces cs parts.1)

text_is : (t : List ℕ) → IsUtf8 t → IsString t (text_spelling t)
text_is t u =
    let k = subst Pieces u.1.1 (characters_pieces u.0 u.1.0) in
    record {
      pieces = k.pieces;
      each = k.each;
      spelled = ap (λ x. 34 ∷ (x ++ 34 ∷ [])) (sym k.spelled);
      means = sym k.means;
    }

-- no white space around it
padded : (form : List ℕ → Type 0) (bytes : List ℕ) → form bytes → IsPadded form bytes
padded form bytes h = ([], bytes, [], sym (append-nil bytes), refl, h, refl)

mutual
  value_is : (t : Tree) → IsWellFormed t → HasUtf8 t → IsValue t (spelling t)
  value_is null w u = refl
  value_is (boolean b) w u = refl
  value_is (number n) w u = (w, refl)
  value_is (text t) w u = text_is t u
  value_is (list ts) w u = (items_spelling ts, refl, items_are ts w u)
  value_is (object ms) w u = (members_spelling ms, refl, members_are ms w.1 u)

  items_are : (ts : Items) → AreWellFormed ts → AllHaveUtf8 ts → AreItems ts (items_spelling ts)
  items_are no_items w u = refl
  items_are (item t ts) w u = (spelling t, more_items_spelling ts, refl, padded (IsValue t) (spelling t) (value_is t w.0 u.0), more_items_are ts w.1 u.1)

  more_items_are : (ts : Items) → AreWellFormed ts → AllHaveUtf8 ts → AreMoreItems ts (more_items_spelling ts)
  more_items_are no_items w u = refl
  more_items_are (item t ts) w u = (spelling t, more_items_spelling ts, refl, padded (IsValue t) (spelling t) (value_is t w.0 u.0), more_items_are ts w.1 u.1)

  members_are : (ms : Members) → HaveWellFormed ms → MembersHaveUtf8 ms → AreMembers ms (members_spelling ms)
  members_are no_members w u = refl
  members_are (member n t ms) w u = (text_spelling n, spelling t, more_members_spelling ms, refl, padded (IsString n) (text_spelling n) (text_is n u.0), padded (IsValue t) (spelling t) (value_is t w.0 u.1), more_members_are ms w.1 u.2)

  more_members_are : (ms : Members) → HaveWellFormed ms → MembersHaveUtf8 ms → AreMoreMembers ms (more_members_spelling ms)
  more_members_are no_members w u = refl
  more_members_are (member n t ms) w u = (text_spelling n, spelling t, more_members_spelling ms, refl, padded (IsString n) (text_spelling n) (text_is n u.0), padded (IsValue t) (spelling t) (value_is t w.0 u.1), more_members_are ms w.1 u.2)

-- nothing is left out of members with different names
pub differ_tail : (n : List ℕ) (ns : List (List ℕ)) → AllPairs (λ a b. a ≢ b) (n ∷ ns) → AllPairs (λ a b. a ≢ b) ns
differ_tail n ns h i j d low high = h (suc i) (suc j) d (omega arith) (omega arith)

pub differ_no_name : (n : List ℕ) (ms : Members) → ((j : ℕ) (d : List ℕ) → j < length (names_of ms) → n ≢ get_or (names_of ms) j d) → has_name n ms ≡ false
differ_no_name n no_members h = refl
differ_no_name n (member k t ms) h =
    or_from _ _ (false_from_ne_true (bytes_eq k n) (λ e. h 0 [] (omega arith) (sym ((bytes_eq-Decides k n).0 e)))) (differ_no_name n ms (λ j d low. h (suc j) d (omega arith)))

last_same : (ms : Members) → AllPairs (λ a b. a ≢ b) (names_of ms) → last_of_each ms ≡ ms
last_same no_members h = refl
last_same (member n t ms) h =
    cond-false _ _ _ (differ_no_name n ms (λ j d low. h 0 (suc j) d (omega arith) (omega arith))) ∙ ap (member n t) (last_same ms (differ_tail n (names_of ms) h))

mutual
  resolved_same : (t : Tree) → IsWellFormed t → resolved t ≡ t
  resolved_same null w = refl
  resolved_same (boolean b) w = refl
  resolved_same (number n) w = refl
  resolved_same (text t) w = refl
  resolved_same (list ts) w = ap list (resolved_items_same ts w)
  resolved_same (object ms) w = ap (λ x. object (last_of_each x)) (resolved_members_same ms w.1) ∙ ap object (last_same ms w.0)

  resolved_items_same : (ts : Items) → AreWellFormed ts → resolved_items ts ≡ ts
  resolved_items_same no_items w = refl
  resolved_items_same (item t ts) w = ap₂ item (resolved_same t w.0) (resolved_items_same ts w.1)

  resolved_members_same : (ms : Members) → HaveWellFormed ms → resolved_members ms ≡ ms
  resolved_members_same no_members w = refl
  resolved_members_same (member n t ms) w = ap₂ (member n) (resolved_same t w.0) (resolved_members_same ms w.1)

pub spelling_is : (t : Tree) → IsWellFormed t → HasUtf8 t → levels t ≤ 64 → IsJson (spelling t) t
spelling_is t w u low = record { written = t; value = padded (IsValue t) (spelling t) (value_is t w u); shallow = low; means = sym (resolved_same t w) }
