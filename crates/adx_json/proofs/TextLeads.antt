-- Where bytes lead within strings.
use Rattle.std.proofs.Common.{◌≡◌, ℕ, zero, suc, ◌<◌, ◌≤◌, List, [], ◌∷◌, ◌++◌, length, Bool, true, false, cond, Option, Some, None, refl, sym, ap, ◌∙◌, subst, arith, eqb, ltb, append_assoc}
use Rattle.std.proofs.lemmas.Bool.{eqb-true, and_parts, and_from, or_from, not_from_false, ne_eqb, le-ltb}
use Rattle.std.proofs.lemmas.Bool.Decides.{nat_tests}
use Rattle.std.specs.List.{list_all, flat_map}
use Rattle.std.specs.Str.{IsUtf8}
use Rattle.adx_units.specs.JsonTexts.{is_bare}
use Rattle.adx_json.specs.Faults.{inside, next_place}
use Rattle.adx_json.specs.Grammar.{Piece, run, short, unit, IsPiece, piece_bytes, is_short, is_hex}
use Rattle.adx_json.specs.Machine.{Frame, Within, characters, escaped, digits, Role, a_name, a_value, in_text, text_step, from_tail, utf8_step, behind_digit, behind_text, tail_low, tail_high, tail_next, is_within}
use Rattle.adx_json.specs.declared.utf8.Tail.{Tail}
use Rattle.adx_json.specs.declared.utf8.Tail.TheVariants.{One, Two, Three, BehindE0, BehindEd, BehindF0, BehindF4}
use Rattle.adx_json.proofs.Utf8Steps.{runs_on, run_utf8, within_parts}
use Rattle.adx_json.proofs.Completions.{PiecesThen, CharacterThen, EscapeThen, DigitsThen, CompletesText, BehindText, Completes}
use Rattle.adx_json.proofs.Leads.{Leads, LeadsTo, Stands, both, steps, place_of, tail_of, depth_of, plain_utf8}

-- one more piece before
piece_more : (After : List ℕ → Type 0) (p : Piece) (bytes r : List ℕ) → IsPiece p → bytes ≡ piece_bytes p ++ r → PiecesThen After r → PiecesThen After bytes
piece_more After p bytes r ok e v = record {
  pieces = p ∷ v.pieces;
  behind = v.behind;
  whole = e ∙ ap (λ x. piece_bytes p ++ x) v.whole ∙ sym (append_assoc (piece_bytes p) (flat_map piece_bytes v.pieces) (34 ∷ v.behind));
  each = (ok, v.each);
  after = v.after;
}

bare_of : (b : ℕ) → eqb b 34 ≡ false → eqb b 92 ≡ false → ltb b 32 ≡ false → is_bare b ≡ true
bare_of b q s c = not_from_false _ (or_from _ _ (or_from _ _ q s) c)

wide_bare : (b : ℕ) → 128 ≤ b → is_bare b ≡ true
wide_bare b h = bare_of b (ne_eqb b 34 (λ e. omega arith)) (ne_eqb b 92 (λ e. omega arith)) (le-ltb b 32 (omega arith))

tail_low_wide : (t : Tail) → 128 ≤ tail_low t
tail_low_wide One = omega arith
tail_low_wide Two = omega arith
tail_low_wide Three = omega arith
tail_low_wide BehindE0 = omega arith
tail_low_wide BehindEd = omega arith
tail_low_wide BehindF0 = omega arith
tail_low_wide BehindF4 = omega arith

-- a byte within a character isn't ASCII
pub tail_wide : (t : Tail) (b : ℕ) (o : Option Tail) → utf8_step (Some t) b ≡ Some o → 128 ≤ b
tail_wide t b o e = at (is_within (tail_low t) (tail_high t) b) refl e
  where
    at : (x : Bool) → is_within (tail_low t) (tail_high t) b ≡ x → cond x (Some (tail_next t)) None ≡ Some o → 128 ≤ b
    at true w h = let k = within_parts _ _ b w in omega (arith, tail_low_wide t, k.0)
    at false w h = cc

-- an ASCII byte, or the first byte of a character
character_place : (b : ℕ) → eqb b 34 ≡ false → eqb b 92 ≡ false → next_place inside b ≡ inside
character_place b q s = rw (q, s) refl

wide_place : (b : ℕ) → 128 ≤ b → next_place inside b ≡ inside
wide_place b h = character_place b (ne_eqb b 34 (λ e. omega arith)) (ne_eqb b 92 (λ e. omega arith))

alone_utf8 : (b : ℕ) → utf8_step None b ≡ Some None → IsUtf8 (b ∷ [])
alone_utf8 b e = run_utf8 None (b ∷ []) (runs_on None None b [] e)

first_character : (After : List ℕ → Type 0) (b : ℕ) (o : Option Tail) (r : List ℕ) → is_bare b ≡ true → utf8_step None b ≡ Some o → CompletesText (characters o) After r → PiecesThen After (b ∷ r)
first_character After b None r bare e v =
    piece_more After (run (b ∷ [])) (b ∷ r) r (omega arith, alone_utf8 b e, and_from _ _ bare refl) refl v
first_character After b (Some t) r bare e v =
    piece_more After (run (b ∷ v.rest)) (b ∷ r) v.behind (omega arith, run_utf8 None (b ∷ v.rest) (runs_on None (Some t) b v.rest e ∙ v.utf8), and_from _ _ bare v.bare) (ap (λ x. b ∷ x) v.whole) v.pieces

further_byte : (After : List ℕ → Type 0) (t : Tail) (b : ℕ) (o : Option Tail) (r : List ℕ) → utf8_step (Some t) b ≡ Some o → CompletesText (characters o) After r → CharacterThen t (PiecesThen After) (b ∷ r)
further_byte After t b None r e v = record { rest = b ∷ []; behind = r; whole = refl; utf8 = runs_on (Some t) None b [] e; bare = and_from _ _ (wide_bare b (tail_wide t b None e)) refl; pieces = v }
further_byte After t b (Some u) r e v = record { rest = b ∷ v.rest; behind = v.behind; whole = ap (λ x. b ∷ x) v.whole; utf8 = runs_on (Some t) (Some u) b v.rest e ∙ v.utf8; bare = and_from _ _ (wide_bare b (tail_wide t b (Some u) e)) v.bare; pieces = v.pieces }

text_depth : (role : Role) (w u : Within) (fs : List Frame) (limit : ℕ) → depth_of (in_text role w) fs ≤ limit → Stands limit (in_text role u) fs
text_depth a_name w u fs limit h = (h, refl)
text_depth a_value w u fs limit h = (h, refl)

first_leads : (limit : ℕ) (role : Role) (fs : List Frame) (b : ℕ) (o : Option (Option Tail)) → utf8_step None b ≡ o → eqb b 34 ≡ false → eqb b 92 ≡ false → ltb b 32 ≡ false → depth_of (in_text role (characters None)) fs ≤ limit
    → LeadsTo limit (in_text role (characters None)) fs b (from_tail role fs o) (from_tail role fs o)
first_leads limit role fs b None e q s c within = refl
first_leads limit role fs b (Some o) e q s c within = steps limit (in_text role (characters None)) fs b (in_text role (characters o)) fs (record {
  sound = λ r v. first_character (BehindText limit role fs) b o r (bare_of b q s c) e v;
  place = character_place b q s;
  utf8 = e;
  within = text_depth role (characters None) (characters o) fs limit within;
})

further_leads : (limit : ℕ) (role : Role) (fs : List Frame) (t : Tail) (b : ℕ) (o : Option (Option Tail)) → utf8_step (Some t) b ≡ o → depth_of (in_text role (characters (Some t))) fs ≤ limit
    → LeadsTo limit (in_text role (characters (Some t))) fs b (from_tail role fs o) (from_tail role fs o)
further_leads limit role fs t b None e within = refl
further_leads limit role fs t b (Some o) e within = steps limit (in_text role (characters (Some t))) fs b (in_text role (characters o)) fs (record {
  sound = λ r v. further_byte (BehindText limit role fs) t b o r e v;
  place = wide_place b (tail_wide t b o e);
  utf8 = e;
  within = text_depth role (characters (Some t)) (characters o) fs limit within;
})

-- the closing quotation mark
quote_sound : (limit : ℕ) (role : Role) (fs : List Frame) (r : List ℕ) → Completes limit (behind_text role) fs r → PiecesThen (BehindText limit role fs) (34 ∷ r)
quote_sound limit a_name fs r v = record { pieces = []; behind = r; whole = refl; each = tt; after = v }
quote_sound limit a_value fs r v = record { pieces = []; behind = r; whole = refl; each = tt; after = v }

quote_leads : (limit : ℕ) (role : Role) (fs : List Frame) → depth_of (in_text role (characters None)) fs ≤ limit → Leads limit (in_text role (characters None)) fs 34 (behind_text role) fs
quote_leads limit a_name fs within = record { sound = λ r v. quote_sound limit a_name fs r v; place = refl; utf8 = refl; within = (within, refl) }
quote_leads limit a_value fs within = record { sound = λ r v. quote_sound limit a_value fs r v; place = refl; utf8 = refl; within = (within, refl) }

-- an escape
escape_sound : (After : List ℕ → Type 0) (r : List ℕ) → EscapeThen (PiecesThen After) r → PiecesThen After (92 ∷ r)
escape_sound After r v = piece_more After v.piece (92 ∷ r) v.behind v.is (ap (λ x. 92 ∷ x) v.whole ∙ ap (λ x. x ++ v.behind) (sym v.spelled)) v.pieces

short_utf8 : (b : ℕ) → is_short b ≡ true → b < 128
short_utf8 b h = grind (arith, nat_tests)

hex_plain : (b : ℕ) → is_hex b ≡ true → (eqb b 34 ≡ false) × (eqb b 92 ≡ false) × (b < 128)
hex_plain b h = grind (arith, nat_tests)

four_digits : (After : List ℕ → Type 0) (ds r behind : List ℕ) → length ds ≡ 4 → list_all is_hex ds ≡ true → r ≡ ds ++ behind → PiecesThen After behind → EscapeThen (PiecesThen After) (117 ∷ r)
four_digits After [] r behind n h e v = absurd (omega arith)
four_digits After (a ∷ []) r behind n h e v = absurd (omega arith)
four_digits After (a ∷ b ∷ []) r behind n h e v = absurd (omega arith)
four_digits After (a ∷ b ∷ c ∷ []) r behind n h e v = absurd (omega arith)
four_digits After (a ∷ b ∷ c ∷ d ∷ []) r behind n h e v =
    let p1 = and_parts (is_hex a) (list_all is_hex (b ∷ c ∷ d ∷ [])) h in
    let p2 = and_parts (is_hex b) (list_all is_hex (c ∷ d ∷ [])) p1.1 in
    let p3 = and_parts (is_hex c) (list_all is_hex (d ∷ [])) p2.1 in
    let p4 = and_parts (is_hex d) true p3.1 in
    record {
      piece = unit a b c d;
      rest = 117 ∷ a ∷ b ∷ c ∷ d ∷ [];
      behind = behind;
      whole = ap (λ x. 117 ∷ x) e;
      spelled = refl;
      is = and_from _ _ (and_from _ _ (and_from _ _ p1.0 p2.0) p3.0) p4.0;
      pieces = v;
    }
four_digits After (a ∷ b ∷ c ∷ d ∷ x ∷ ds) r behind n h e v = absurd (omega arith)

digit_sound : (After : List ℕ → Type 0) (k b : ℕ) (r : List ℕ) → is_hex b ≡ true → CompletesText (behind_digit k) After r → DigitsThen k (PiecesThen After) (b ∷ r)
digit_sound After zero b r h v = record { digits = b ∷ []; behind = r; whole = refl; many = refl; hex = and_from _ _ h refl; pieces = v }
digit_sound After (suc k) b r h v = record { digits = b ∷ v.digits; behind = v.behind; whole = ap (λ x. b ∷ x) v.whole; many = ap suc v.many; hex = and_from _ _ h v.hex; pieces = v.pieces }

digit_leads : (limit : ℕ) (role : Role) (fs : List Frame) (k b : ℕ) → is_hex b ≡ true → depth_of (in_text role (digits k)) fs ≤ limit → (w : Within) → behind_digit k ≡ w → place_of (in_text role w) ≡ inside → tail_of (in_text role w) ≡ None
    → Leads limit (in_text role (digits k)) fs b (in_text role (behind_digit k)) fs
digit_leads limit role fs k b h within w is p t = record {
  sound = λ r v. digit_sound (BehindText limit role fs) k b r h v;
  place = (let n = hex_plain b h in character_place b n.0 n.1) ∙ sym (ap (λ x. place_of (in_text role x)) is ∙ p);
  utf8 = plain_utf8 b (hex_plain b h).2 ∙ ap (λ o. Some o) (sym (ap (λ x. tail_of (in_text role x)) is ∙ t));
  within = text_depth role (digits k) (behind_digit k) fs limit within;
}

digit_next : (limit : ℕ) (role : Role) (fs : List Frame) (k b : ℕ) → is_hex b ≡ true → depth_of (in_text role (digits k)) fs ≤ limit → Leads limit (in_text role (digits k)) fs b (in_text role (behind_digit k)) fs
digit_next limit role fs zero b h within = digit_leads limit role fs zero b h within (characters None) refl refl refl
digit_next limit role fs (suc k) b h within = digit_leads limit role fs (suc k) b h within (digits k) refl refl refl

pub text_leads : (limit : ℕ) (role : Role) (w : Within) (fs : List Frame) (b : ℕ) → depth_of (in_text role w) fs ≤ limit → LeadsTo limit (in_text role w) fs b (text_step role w fs b) (text_step role w fs b)
text_leads limit role (characters None) fs b within =
    let P = LeadsTo limit (in_text role (characters None)) fs b in
    both (eqb b 34) _ _ _ _ P (λ e. steps limit (in_text role (characters None)) fs b (behind_text role) fs (subst (λ x. Leads limit (in_text role (characters None)) fs x (behind_text role) fs) (sym (eqb-true b 34 e)) (quote_leads limit role fs within)))
    (λ q. both (eqb b 92) _ _ _ _ P (λ e. steps limit (in_text role (characters None)) fs b (in_text role escaped) fs (subst (λ x. Leads limit (in_text role (characters None)) fs x (in_text role escaped) fs) (sym (eqb-true b 92 e)) (record {
      sound = λ r v. escape_sound (BehindText limit role fs) r v;
      place = refl;
      utf8 = refl;
      within = text_depth role (characters None) escaped fs limit within;
    })))
    (λ s. both (ltb b 32) _ _ _ _ P (λ c. refl) (λ c. first_leads limit role fs b (utf8_step None b) refl q s c within)))
text_leads limit role (characters (Some t)) fs b within = further_leads limit role fs t b (utf8_step (Some t) b) refl within
text_leads limit role escaped fs b within =
    let P = LeadsTo limit (in_text role escaped) fs b in
    both (is_short b) _ _ _ _ P (λ e. steps limit (in_text role escaped) fs b (in_text role (characters None)) fs (record {
      sound = λ r v. record { piece = short b; rest = b ∷ []; behind = r; whole = refl; spelled = refl; is = e; pieces = v };
      place = refl;
      utf8 = plain_utf8 b (short_utf8 b e);
      within = text_depth role escaped (characters None) fs limit within;
    }))
    (λ n. both (eqb b 117) _ _ _ _ P (λ e. steps limit (in_text role escaped) fs b (in_text role (digits 3)) fs (subst (λ x. Leads limit (in_text role escaped) fs x (in_text role (digits 3)) fs) (sym (eqb-true b 117 e)) (record {
      sound = λ r v. four_digits (BehindText limit role fs) v.digits r v.behind v.many v.hex v.whole v.pieces;
      place = refl;
      utf8 = refl;
      within = text_depth role escaped (digits 3) fs limit within;
    })))
    (λ n2. refl))
text_leads limit role (digits k) fs b within =
    both (is_hex b) _ _ _ _ (LeadsTo limit (in_text role (digits k)) fs b) (λ h. steps limit (in_text role (digits k)) fs b (in_text role (behind_digit k)) fs (digit_next limit role fs k b h within)) (λ n. refl)
