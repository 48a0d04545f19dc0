-- What one byte, and a run of bytes of a kind, does to where bytes stop.
use Rattle.std.proofs.Common.{◌≡◌, ℕ, suc, ◌<◌, List, [], ◌∷◌, ◌++◌, length, Bool, true, false, cond, not, ◌&&◌, ◌||◌, Option, Some, None, refl, sym, ap, ◌∙◌, arith, eqb, ltb, append_assoc}
use Rattle.std.proofs.lemmas.Bool.{cond-true, cond-false, and_parts, or_parts, not-true, lt-ltb, eq-eqb, eqb-true, or_left, or_right, false≢true}
use Rattle.std.proofs.lemmas.Bool.Decides.{nat_tests}
use Rattle.std.specs.List.{list_all, flat_map, AllByRecursion}
use Rattle.adx_units.specs.Number.{is_digit, is_exponent_mark}
use Rattle.adx_units.specs.JsonTexts.{is_bare}
use Rattle.adx_json.specs.Grammar.{is_space, IsSpace, Piece, run, short, unit, IsPiece, piece_bytes, is_short, is_hex}
use Rattle.adx_json.specs.Machine.{Frame, in_list, in_object, characters, escaped, digits, Role, a_name, a_value, Mode, at_value, at_first_item, behind_value, at_first_name, at_name, behind_name, in_word, in_number, in_text, Step, moves, stuck, too_deep, step, behind_step, from_tail, from_numeral, next_numeral, may_end, utf8_step, behind_digit, behind_text, stop_of, at_end, fault_at}
use Rattle.adx_json.specs.declared.number.Numeral.{Numeral}
use Rattle.adx_json.specs.declared.number.Numeral.TheVariants.{Start, Minus, Zero, Whole, Point, Fraction, Mark, Sign, Exponent}
use Rattle.adx_json.specs.declared.utf8.Tail.{Tail}
use Rattle.adx_json.specs.declared.fault.Stop.{Stop}
use Rattle.adx_json.specs.declared.fault.Stop.TheVariants.{Depth}
use Rattle.adx_json.proofs.Utf8Steps.{utf8_run, utf8_runs}
use Rattle.adx_json.specs.Scan.{accepts, EndsNumber}
use Rattle.adx_json.proofs.NumberTexts.{from}

abbrev pub goes_on : ℕ → Mode → ℕ → List ℕ → Step → Option Stop
goes_on limit m b bytes s =
    elim s [
      | moves m' fs' ↦ stop_of limit m' fs' bytes
      | stuck ↦ Some (fault_at m (suc (length bytes)) b)
      | too_deep ↦ Some (Depth (suc (length bytes)))
    ]

pub stop_step : (limit : ℕ) (m : Mode) (fs : List Frame) (b : ℕ) (bytes : List ℕ) (s : Step) → step limit m fs b ≡ s → stop_of limit m fs (b ∷ bytes) ≡ goes_on limit m b bytes s
unfolding stop_of
stop_step limit m fs b bytes s e = ap (goes_on limit m b bytes) e

pub stop_end : (limit : ℕ) (m : Mode) (fs : List Frame) → stop_of limit m fs [] ≡ at_end m fs
unfolding stop_of
stop_end limit m fs = refl

-- white space where it may come
abbrev pub MaySpace : Mode → Type 0
MaySpace at_value = Unit {0}
MaySpace at_first_item = Unit {0}
MaySpace behind_value = Unit {0}
MaySpace at_first_name = Unit {0}
MaySpace at_name = Unit {0}
MaySpace behind_name = Unit {0}
MaySpace (in_word c cs) = ⊥
MaySpace (in_number n) = ⊥
MaySpace (in_text role w) = ⊥

space_step : (limit : ℕ) (m : Mode) (fs : List Frame) (b : ℕ) → MaySpace m → is_space b ≡ true → step limit m fs b ≡ moves m fs
unfolding step
space_step limit at_value fs b ok h = cond-true _ _ _ h
space_step limit at_first_item fs b ok h = cond-true _ _ _ h
space_step limit behind_value [] b ok h = cond-true _ _ _ h
space_step limit behind_value (in_list ∷ fs) b ok h = cond-true _ _ _ h
space_step limit behind_value (in_object ∷ fs) b ok h = cond-true _ _ _ h
space_step limit at_first_name fs b ok h = cond-true _ _ _ h
space_step limit at_name fs b ok h = cond-true _ _ _ h
space_step limit behind_name fs b ok h = cond-true _ _ _ h
space_step limit (in_word c cs) fs b ok h = absurd ok
space_step limit (in_number n) fs b ok h = absurd ok
space_step limit (in_text role w) fs b ok h = absurd ok

pub stop_spaces : (limit : ℕ) (m : Mode) (fs : List Frame) (space r : List ℕ) → MaySpace m → IsSpace space → stop_of limit m fs (space ++ r) ≡ stop_of limit m fs r
stop_spaces limit m fs [] r ok h = refl
stop_spaces limit m fs (b ∷ space) r ok h =
    let parts = and_parts (is_space b) (list_all is_space space) h in
    stop_step limit m fs b (space ++ r) (moves m fs) (space_step limit m fs b ok parts.0) ∙ stop_spaces limit m fs space r ok parts.1

-- steps at bytes that are known
pub list_step : (limit : ℕ) (fs : List Frame) → length fs < limit → step limit at_value fs 91 ≡ moves at_first_item fs
unfolding step
list_step limit fs room = cond-true _ _ _ (lt-ltb (length fs) limit room)

pub object_step : (limit : ℕ) (fs : List Frame) → length fs < limit → step limit at_value fs 123 ≡ moves at_first_name fs
unfolding step
object_step limit fs room = cond-true _ _ _ (lt-ltb (length fs) limit room)

pub deep_list : (limit : ℕ) (fs : List Frame) → ltb (length fs) limit ≡ false → step limit at_value fs 91 ≡ too_deep
unfolding step
deep_list limit fs full = cond-false _ _ _ full

pub deep_object : (limit : ℕ) (fs : List Frame) → ltb (length fs) limit ≡ false → step limit at_value fs 123 ≡ too_deep
unfolding step
deep_object limit fs full = cond-false _ _ _ full

pub quote_step : (limit : ℕ) (fs : List Frame) → step limit at_value fs 34 ≡ moves (in_text a_value (characters None)) fs
unfolding step
quote_step limit fs = refl

pub true_step : (limit : ℕ) (fs : List Frame) → step limit at_value fs 116 ≡ moves (in_word 114 (117 ∷ 101 ∷ [])) fs
unfolding step
true_step limit fs = refl

pub false_step : (limit : ℕ) (fs : List Frame) → step limit at_value fs 102 ≡ moves (in_word 97 (108 ∷ 115 ∷ 101 ∷ [])) fs
unfolding step
false_step limit fs = refl

pub null_step : (limit : ℕ) (fs : List Frame) → step limit at_value fs 110 ≡ moves (in_word 117 (108 ∷ 108 ∷ [])) fs
unfolding step
null_step limit fs = refl

pub list_end_step : (limit : ℕ) (fs : List Frame) → step limit at_first_item fs 93 ≡ moves behind_value fs
unfolding step
list_end_step limit fs = refl

pub item_end_step : (limit : ℕ) (fs : List Frame) → step limit behind_value (in_list ∷ fs) 93 ≡ moves behind_value fs
unfolding step
item_end_step limit fs = refl

pub item_comma_step : (limit : ℕ) (fs : List Frame) → step limit behind_value (in_list ∷ fs) 44 ≡ moves at_value (in_list ∷ fs)
unfolding step
item_comma_step limit fs = refl

pub object_end_step : (limit : ℕ) (fs : List Frame) → step limit at_first_name fs 125 ≡ moves behind_value fs
unfolding step
object_end_step limit fs = refl

pub first_name_step : (limit : ℕ) (fs : List Frame) → step limit at_first_name fs 34 ≡ moves (in_text a_name (characters None)) fs
unfolding step
first_name_step limit fs = refl

pub name_step : (limit : ℕ) (fs : List Frame) → step limit at_name fs 34 ≡ moves (in_text a_name (characters None)) fs
unfolding step
name_step limit fs = refl

pub member_end_step : (limit : ℕ) (fs : List Frame) → step limit behind_value (in_object ∷ fs) 125 ≡ moves behind_value fs
unfolding step
member_end_step limit fs = refl

pub member_comma_step : (limit : ℕ) (fs : List Frame) → step limit behind_value (in_object ∷ fs) 44 ≡ moves at_name fs
unfolding step
member_comma_step limit fs = refl

pub colon_step : (limit : ℕ) (fs : List Frame) → step limit behind_name fs 58 ≡ moves at_value (in_object ∷ fs)
unfolding step
colon_step limit fs = refl

-- a list's first item goes as any value does
pub first_item_step : (limit : ℕ) (fs : List Frame) (b : ℕ) → is_space b ≡ false → eqb b 93 ≡ false → step limit at_first_item fs b ≡ step limit at_value (in_list ∷ fs) b
unfolding step
first_item_step limit fs b s n = cond-false _ _ _ s ∙ cond-false _ _ _ n

pub first_item_as : (limit : ℕ) (fs : List Frame) (b : ℕ) (r : List ℕ) → is_space b ≡ false → eqb b 93 ≡ false → stop_of limit at_first_item fs (b ∷ r) ≡ stop_of limit at_value (in_list ∷ fs) (b ∷ r)
first_item_as limit fs b r s n =
    stop_step limit at_first_item fs b r (step limit at_value (in_list ∷ fs) b) (first_item_step limit fs b s n)
    ∙ sym (stop_step limit at_value (in_list ∷ fs) b r (step limit at_value (in_list ∷ fs) b) refl)

-- a first name that isn't the object's end goes as any name does
first_name_rest : (limit : ℕ) (fs : List Frame) (b : ℕ) → eqb b 125 ≡ false → (x y : Bool) → is_space b ≡ x → eqb b 34 ≡ y → x ≡ false → step limit at_first_name fs b ≡ step limit at_name fs b
unfolding step
first_name_rest limit fs b n true y e f x = absurd (false≢true (sym x))
first_name_rest limit fs b n false true e f x = cond-false _ _ _ e ∙ cond-true _ _ _ f ∙ sym (cond-false _ _ _ e ∙ cond-true _ _ _ f)
first_name_rest limit fs b n false false e f x = cond-false _ _ _ e ∙ cond-false _ _ _ f ∙ cond-false _ _ _ n ∙ sym (cond-false _ _ _ e ∙ cond-false _ _ _ f)

pub first_name_as : (limit : ℕ) (fs : List Frame) (b : ℕ) (r : List ℕ) → is_space b ≡ false → eqb b 125 ≡ false → stop_of limit at_first_name fs (b ∷ r) ≡ stop_of limit at_name fs (b ∷ r)
first_name_as limit fs b r s n =
    stop_step limit at_first_name fs b r (step limit at_name fs b) (first_name_rest limit fs b n (is_space b) (eqb b 34) refl refl s)
    ∙ sym (stop_step limit at_name fs b r (step limit at_name fs b) refl)

-- within strings
pub bare_parts : (b : ℕ) → is_bare b ≡ true → (eqb b 34 ≡ false) × (eqb b 92 ≡ false) × (ltb b 32 ≡ false)
bare_parts b h =
    let all = or_parts (eqb b 34 || eqb b 92) (ltb b 32) (not-true (eqb b 34 || eqb b 92 || ltb b 32) h) in
    let marks = or_parts (eqb b 34) (eqb b 92) all.0 in
    (marks.0, marks.1, all.1)

pub character_step : (limit : ℕ) (role : Role) (fs : List Frame) (t o : Option Tail) (b : ℕ) → is_bare b ≡ true → utf8_step t b ≡ Some o → step limit (in_text role (characters t)) fs b ≡ moves (in_text role (characters o)) fs
unfolding step
character_step limit role fs None o b bare e =
    let parts = bare_parts b bare in
    cond-false _ _ _ parts.0 ∙ cond-false _ _ _ parts.1 ∙ cond-false _ _ _ parts.2 ∙ ap (from_tail role fs) e
character_step limit role fs (Some t) o b bare e = ap (from_tail role fs) e

pub character_stuck : (limit : ℕ) (role : Role) (fs : List Frame) (t : Option Tail) (b : ℕ) → is_bare b ≡ true → utf8_step t b ≡ None → step limit (in_text role (characters t)) fs b ≡ stuck
unfolding step
character_stuck limit role fs None b bare e =
    let parts = bare_parts b bare in
    cond-false _ _ _ parts.0 ∙ cond-false _ _ _ parts.1 ∙ cond-false _ _ _ parts.2 ∙ ap (from_tail role fs) e
character_stuck limit role fs (Some t) b bare e = ap (from_tail role fs) e

run_at : (t o : Option Tail) (b : ℕ) (bs : List ℕ) (s : Option (Option Tail)) → utf8_step t b ≡ s → elim s as (λ _. Option (Option Tail)) [ Some n ↦ utf8_run n bs | None ↦ None ] ≡ Some o → (n : Option Tail) × (utf8_step t b ≡ Some n) × (utf8_run n bs ≡ Some o)
run_at t o b bs None e h = cc
run_at t o b bs (Some n) e h = (n, e, h)

-- the byte that a run goes over, and the rest of the run
pub run_parts : (t o : Option Tail) (b : ℕ) (bs : List ℕ) → utf8_run t (b ∷ bs) ≡ Some o → (n : Option Tail) × (utf8_step t b ≡ Some n) × (utf8_run n bs ≡ Some o)
run_parts t o b bs h = run_at t o b bs (utf8_step t b) refl h

pub stop_characters : (limit : ℕ) (role : Role) (fs : List Frame) (t o : Option Tail) (bs r : List ℕ) → list_all is_bare bs ≡ true → utf8_run t bs ≡ Some o → stop_of limit (in_text role (characters t)) fs (bs ++ r) ≡ stop_of limit (in_text role (characters o)) fs r
stop_characters limit role fs t o [] r bare h =
    let same : t ≡ o = cc in
    ap (λ x. stop_of limit (in_text role (characters x)) fs r) same
stop_characters limit role fs t o (b ∷ bs) r bare h =
    let parts = and_parts (is_bare b) (list_all is_bare bs) bare in
    let k = run_parts t o b bs h in
    stop_step limit (in_text role (characters t)) fs b (bs ++ r) (moves (in_text role (characters k.0)) fs) (character_step limit role fs t k.0 b parts.0 k.1)
    ∙ stop_characters limit role fs k.0 o bs r parts.1 k.2

pub closing_step : (limit : ℕ) (role : Role) (fs : List Frame) → step limit (in_text role (characters None)) fs 34 ≡ moves (behind_text role) fs
unfolding step
closing_step limit role fs = refl

pub backslash_step : (limit : ℕ) (role : Role) (fs : List Frame) → step limit (in_text role (characters None)) fs 92 ≡ moves (in_text role escaped) fs
unfolding step
backslash_step limit role fs = refl

pub short_step : (limit : ℕ) (role : Role) (fs : List Frame) (b : ℕ) → is_short b ≡ true → step limit (in_text role escaped) fs b ≡ moves (in_text role (characters None)) fs
unfolding step
short_step limit role fs b h = cond-true _ _ _ h

pub unit_step : (limit : ℕ) (role : Role) (fs : List Frame) → step limit (in_text role escaped) fs 117 ≡ moves (in_text role (digits 3)) fs
unfolding step
unit_step limit role fs = refl

pub hex_step : (limit : ℕ) (role : Role) (fs : List Frame) (k b : ℕ) → is_hex b ≡ true → step limit (in_text role (digits k)) fs b ≡ moves (in_text role (behind_digit k)) fs
unfolding step
hex_step limit role fs k b h = cond-true _ _ _ h

pub stop_piece : (limit : ℕ) (role : Role) (fs : List Frame) (p : Piece) (r : List ℕ) → IsPiece p → stop_of limit (in_text role (characters None)) fs (piece_bytes p ++ r) ≡ stop_of limit (in_text role (characters None)) fs r
stop_piece limit role fs (run bytes) r h = stop_characters limit role fs None None bytes r h.2 (utf8_runs bytes h.1)
stop_piece limit role fs (short b) r h =
    stop_step limit (in_text role (characters None)) fs 92 (b ∷ r) (moves (in_text role escaped) fs) (backslash_step limit role fs)
    ∙ stop_step limit (in_text role escaped) fs b r (moves (in_text role (characters None)) fs) (short_step limit role fs b h)
stop_piece limit role fs (unit a b c d) r h =
    let p3 = and_parts (is_hex a && is_hex b && is_hex c) (is_hex d) h in
    let p2 = and_parts (is_hex a && is_hex b) (is_hex c) p3.0 in
    let p1 = and_parts (is_hex a) (is_hex b) p2.0 in
    stop_step limit (in_text role (characters None)) fs 92 (117 ∷ a ∷ b ∷ c ∷ d ∷ r) (moves (in_text role escaped) fs) (backslash_step limit role fs)
    ∙ stop_step limit (in_text role escaped) fs 117 (a ∷ b ∷ c ∷ d ∷ r) (moves (in_text role (digits 3)) fs) (unit_step limit role fs)
    ∙ stop_step limit (in_text role (digits 3)) fs a (b ∷ c ∷ d ∷ r) (moves (in_text role (digits 2)) fs) (hex_step limit role fs 3 a p1.0)
    ∙ stop_step limit (in_text role (digits 2)) fs b (c ∷ d ∷ r) (moves (in_text role (digits 1)) fs) (hex_step limit role fs 2 b p1.1)
    ∙ stop_step limit (in_text role (digits 1)) fs c (d ∷ r) (moves (in_text role (digits 0)) fs) (hex_step limit role fs 1 c p2.1)
    ∙ stop_step limit (in_text role (digits 0)) fs d r (moves (in_text role (characters None)) fs) (hex_step limit role fs 0 d p3.1)

pub stop_pieces : (limit : ℕ) (role : Role) (fs : List Frame) (ps : List Piece) (r : List ℕ) → AllByRecursion IsPiece ps → stop_of limit (in_text role (characters None)) fs (flat_map piece_bytes ps ++ r) ≡ stop_of limit (in_text role (characters None)) fs r
stop_pieces limit role fs [] r h = refl
stop_pieces limit role fs (p ∷ ps) r h =
    ap (stop_of limit (in_text role (characters None)) fs) (append_assoc (piece_bytes p) (flat_map piece_bytes ps) r)
    ∙ stop_piece limit role fs p (flat_map piece_bytes ps ++ r) h.0
    ∙ stop_pieces limit role fs ps r h.1

-- a word
same_byte : (c : ℕ) → eqb c c ≡ true
same_byte c = eq-eqb c c refl

pub last_letter : (limit : ℕ) (fs : List Frame) (c : ℕ) → step limit (in_word c []) fs c ≡ moves behind_value fs
unfolding step
last_letter limit fs c = cond-true _ _ _ (same_byte c)

pub next_letter : (limit : ℕ) (fs : List Frame) (c d : ℕ) (ds : List ℕ) → step limit (in_word c (d ∷ ds)) fs c ≡ moves (in_word d ds) fs
unfolding step
next_letter limit fs c d ds = cond-true _ _ _ (same_byte c)

pub stop_word : (limit : ℕ) (fs : List Frame) (c : ℕ) (cs r : List ℕ) → stop_of limit (in_word c cs) fs ((c ∷ cs) ++ r) ≡ stop_of limit behind_value fs r
stop_word limit fs c [] r = stop_step limit (in_word c []) fs c r (moves behind_value fs) (last_letter limit fs c)
stop_word limit fs c (d ∷ ds) r = stop_step limit (in_word c (d ∷ ds)) fs c ((d ∷ ds) ++ r) (moves (in_word d ds) fs) (next_letter limit fs c d ds) ∙ stop_word limit fs d ds r

-- a number
pub numeral_step : (limit : ℕ) (fs : List Frame) (n k : Numeral) (b : ℕ) → next_numeral n b ≡ Some k → step limit (in_number n) fs b ≡ moves (in_number k) fs
unfolding step
numeral_step limit fs n k b e = ap (from_numeral fs (cond (may_end n) (behind_step fs b) stuck)) e

pub ended_step : (limit : ℕ) (fs : List Frame) (n : Numeral) (b : ℕ) → may_end n ≡ true → next_numeral n b ≡ None → step limit (in_number n) fs b ≡ step limit behind_value fs b
unfolding step
ended_step limit fs n b may e = ap (from_numeral fs (cond (may_end n) (behind_step fs b) stuck)) e ∙ cond-true _ _ _ may

pub unended_step : (limit : ℕ) (fs : List Frame) (n : Numeral) (b : ℕ) → may_end n ≡ false → next_numeral n b ≡ None → step limit (in_number n) fs b ≡ stuck
unfolding step
unended_step limit fs n b may e = ap (from_numeral fs (cond (may_end n) (behind_step fs b) stuck)) e ∙ cond-false _ _ _ may

ended_end : (n : Numeral) (fs : List Frame) → may_end n ≡ true → at_end (in_number n) fs ≡ at_end behind_value fs
unfolding at_end
ended_end n [] h = cond-true _ _ _ h
ended_end n (f ∷ fs) h = refl

pub stop_ended : (limit : ℕ) (fs : List Frame) (n : Numeral) (r : List ℕ) → may_end n ≡ true → EndsNumber n r → stop_of limit (in_number n) fs r ≡ stop_of limit behind_value fs r
stop_ended limit fs n [] may h = stop_end limit (in_number n) fs ∙ ended_end n fs may ∙ sym (stop_end limit behind_value fs)
stop_ended limit fs n (b ∷ r) may h =
    stop_step limit (in_number n) fs b r (step limit behind_value fs b) (ended_step limit fs n b may h)
    ∙ sym (stop_step limit behind_value fs b r (step limit behind_value fs b) refl)

-- a byte with which no number goes on that may end
abbrev pub ends_number : ℕ → Bool
ends_number b = not (is_digit b || eqb b 46 || is_exponent_mark b)

abbrev pub Ended : List ℕ → Type 0
Ended [] = Unit {0}
Ended (b ∷ r) = ends_number b ≡ true

ends_parts : (b : ℕ) → ends_number b ≡ true → (is_digit b ≡ false) × (eqb b 46 ≡ false) × (is_exponent_mark b ≡ false)
ends_parts b h =
    let all = or_parts (is_digit b || eqb b 46) (is_exponent_mark b) (not-true (is_digit b || eqb b 46 || is_exponent_mark b) h) in
    let two = or_parts (is_digit b) (eqb b 46) all.0 in
    (two.0, two.1, all.1)

pub ends_all : (n : Numeral) (b : ℕ) → may_end n ≡ true → ends_number b ≡ true → next_numeral n b ≡ None
ends_all Start b may h = absurd (false≢true may)
ends_all Minus b may h = absurd (false≢true may)
ends_all Zero b may h = let k = ends_parts b h in cond-false _ _ _ k.1 ∙ cond-false _ _ _ k.2
ends_all Whole b may h = let k = ends_parts b h in cond-false _ _ _ k.0 ∙ cond-false _ _ _ k.1 ∙ cond-false _ _ _ k.2
ends_all Point b may h = absurd (false≢true may)
ends_all Fraction b may h = let k = ends_parts b h in cond-false _ _ _ k.0 ∙ cond-false _ _ _ k.2
ends_all Mark b may h = absurd (false≢true may)
ends_all Sign b may h = absurd (false≢true may)
ends_all Exponent b may h = cond-false _ _ _ (ends_parts b h).0

ended_number : (n : Numeral) (r : List ℕ) → may_end n ≡ true → Ended r → EndsNumber n r
ended_number n [] may h = tt
ended_number n (b ∷ r) may h = ends_all n b may h

pub accept_at : (n : Numeral) (b : ℕ) (t : List ℕ) (o : Option Numeral) → next_numeral n b ≡ o → from o t ≡ true → (k : Numeral) × (next_numeral n b ≡ Some k) × (accepts k t ≡ true)
accept_at n b t None e h = absurd (false≢true h)
accept_at n b t (Some k) e h = (k, e, h)

pub stop_number : (limit : ℕ) (fs : List Frame) (n : Numeral) (t r : List ℕ) → accepts n t ≡ true → Ended r → stop_of limit (in_number n) fs (t ++ r) ≡ stop_of limit behind_value fs r
stop_number limit fs n [] r h e = stop_ended limit fs n r h (ended_number n r h e)
stop_number limit fs n (b ∷ t) r h e =
    let k = accept_at n b t (next_numeral n b) refl h in
    stop_step limit (in_number n) fs b (t ++ r) (moves (in_number k.0) fs) (numeral_step limit fs n k.0 b k.1) ∙ stop_number limit fs k.0 t r k.2 e

-- a byte with which no value begins but perhaps a number
pub record OtherByte (b : ℕ) : Type 0 where
  pub space : is_space b ≡ false
  pub quote : eqb b 34 ≡ false
  pub bracket : eqb b 91 ≡ false
  pub brace : eqb b 123 ≡ false
  pub t : eqb b 116 ≡ false
  pub f : eqb b 102 ≡ false
  pub n : eqb b 110 ≡ false

number_value : (limit : ℕ) (fs : List Frame) (b : ℕ) → OtherByte b → step limit at_value fs b ≡ step limit (in_number Start) fs b
unfolding step
number_value limit fs b o =
    cond-false _ _ _ o.space ∙ cond-false _ _ _ o.quote ∙ cond-false _ _ _ o.bracket ∙ cond-false _ _ _ o.brace ∙ cond-false _ _ _ o.t ∙ cond-false _ _ _ o.f ∙ cond-false _ _ _ o.n

pub value_as_number : (limit : ℕ) (fs : List Frame) (b : ℕ) (r : List ℕ) → OtherByte b → stop_of limit at_value fs (b ∷ r) ≡ stop_of limit (in_number Start) fs (b ∷ r)
value_as_number limit fs b r o =
    stop_step limit at_value fs b r (step limit (in_number Start) fs b) (number_value limit fs b o)
    ∙ sym (stop_step limit (in_number Start) fs b r (step limit (in_number Start) fs b) refl)

-- a number's first byte
abbrev pub begins_number : ℕ → Bool
begins_number b = eqb b 45 || is_digit b

pub number_other : (b : ℕ) → begins_number b ≡ true → OtherByte b × (eqb b 93 ≡ false)
number_other b h = (
  record {
    space = grind (arith, nat_tests);
    quote = grind (arith, nat_tests);
    bracket = grind (arith, nat_tests);
    brace = grind (arith, nat_tests);
    t = grind (arith, nat_tests);
    f = grind (arith, nat_tests);
    n = grind (arith, nat_tests);
  },
  grind (arith, nat_tests),
)

digit_begins : (b : ℕ) → is_digit b ≡ true → begins_number b ≡ true
digit_begins b h = or_right _ _ h

first_at : (b : ℕ) (t : List ℕ) (x y z : Bool) → eqb b 45 ≡ x → eqb b 48 ≡ y → is_digit b ≡ z → from (cond x (Some Minus) (cond y (Some Zero) (cond z (Some Whole) None))) t ≡ true → begins_number b ≡ true
first_at b t true y z e f g h = or_left _ _ e
first_at b t false true z e f g h = digit_begins b (ap is_digit (eqb-true b 48 f))
first_at b t false false true e f g h = digit_begins b g
first_at b t false false false e f g h = absurd (false≢true h)

pub number_begins : (b : ℕ) (t : List ℕ) → accepts Start (b ∷ t) ≡ true → begins_number b ≡ true
number_begins b t h = first_at b t (eqb b 45) (eqb b 48) (is_digit b) refl refl refl h
