-- Where a byte leads, what completes a text after it does so with the byte before it.
use Rattle.std.proofs.Common.{◌≡◌, ℕ, suc, ◌<◌, ◌≤◌, List, [], ◌∷◌, ◌++◌, length, Bool, true, false, cond, ◌&&◌, ◌||◌, ◌⊎◌, inl, inr, Option, Some, None, refl, sym, ap, ◌∙◌, subst, arith, eqb, ltb, leb, append_assoc}
use Rattle.std.proofs.lemmas.Bool.{cond_both, eqb-true, ltb-true, ltb-false, and_from}
use Rattle.std.proofs.lemmas.Bool.Decides.{nat_tests}
use Rattle.std.specs.List.{list_all, flat_map}
use Rattle.adx_units.specs.Number.{is_digit, is_exponent_mark}
use Rattle.adx_json.specs.Tree.{Tree, null, boolean, number, text, list, object, Items, no_items, item, Members, no_members, member, levels}
use Rattle.adx_json.specs.Faults.{Place, outside, inside, behind_backslash, next_place}
use Rattle.adx_json.specs.Grammar.{is_space, IsPadded, IsString, IsValue, AreItems, AreMembers, piece_bytes, decoded}
use Rattle.adx_json.specs.Machine.{Frame, in_list, in_object, characters, escaped, digits, a_name, a_value, Mode, at_value, at_first_item, behind_value, at_first_name, at_name, behind_name, in_word, in_number, in_text, Step, moves, stuck, too_deep, value_step, from_numeral, opens, next_numeral, utf8_step}
use Rattle.adx_json.specs.declared.number.Numeral.{Numeral}
use Rattle.adx_json.specs.declared.number.Numeral.TheVariants.{Start, Minus, Zero, Whole, Point, Fraction, Mark, Sign, Exponent}
use Rattle.adx_json.specs.declared.utf8.Tail.{Tail}
use Rattle.adx_json.specs.Scan.{accepts}
use Rattle.adx_json.proofs.NumberTexts.{from, number_is}
use Rattle.adx_json.proofs.Completions.{Behind, ValueThen, ItemsThen, MembersThen, ColonThen, NameThen, WordThen, PiecesThen, NumberThen, Completes}

-- the place of a mode by strings alone, and how much of a character it has
abbrev pub place_of : Mode → Place
place_of (in_text role escaped) = behind_backslash
place_of (in_text role (characters t)) = inside
place_of (in_text role (digits k)) = inside
place_of _ = outside

abbrev pub tail_of : Mode → Option Tail
tail_of (in_text role (characters t)) = t
tail_of _ = None

-- how many lists and objects are open in a mode
abbrev pub depth_of : Mode → List Frame → ℕ
depth_of at_first_item fs = suc (length fs)
depth_of at_first_name fs = suc (length fs)
depth_of at_name fs = suc (length fs)
depth_of behind_name fs = suc (length fs)
depth_of (in_text a_name w) fs = suc (length fs)
depth_of (in_text a_value w) fs = length fs
depth_of at_value fs = length fs
depth_of behind_value fs = length fs
depth_of (in_word c cs) fs = length fs
depth_of (in_number n) fs = length fs

-- a lower-case letter, as words have them
abbrev pub is_letter : ℕ → Bool
is_letter b = leb 97 b && leb b 122

abbrev pub word_of : Mode → List ℕ
word_of (in_word c cs) = c ∷ cs
word_of _ = []

-- a mode that a reader can be in
abbrev pub Stands : ℕ → Mode → List Frame → Type 0
Stands limit m fs = (depth_of m fs ≤ limit) × (list_all is_letter (word_of m) ≡ true)

-- a byte leads from one mode to another
pub record Leads (limit : ℕ) (m : Mode) (fs : List Frame) (b : ℕ) (next : Mode) (around : List Frame) : Type 0 where
  pub sound : (r : List ℕ) → Completes limit next around r → Completes limit m fs (b ∷ r)
  pub place : next_place (place_of m) b ≡ place_of next
  pub utf8 : utf8_step (tail_of m) b ≡ Some (tail_of next)
  pub within : Stands limit next around

-- a bracket or brace that would begin a level too many
pub record Deeper (b : ℕ) (s : Step) : Type 0 where
  pub opens : (b ≡ 91) ⊎ (b ≡ 123)
  pub next : Mode
  pub around : List Frame
  pub is : s ≡ moves next around

-- what a step says, beside the step where one level more is allowed
abbrev pub LeadsTo : ℕ → Mode → List Frame → ℕ → Step → Step → Type 0
LeadsTo limit m fs b (moves next around) s = Leads limit m fs b next around × (s ≡ moves next around)
LeadsTo limit m fs b stuck s = s ≡ stuck
LeadsTo limit m fs b too_deep s = Deeper b s

pub both : (t : Bool) (x y u v : Step) (P : Step → Step → Type 0) → (t ≡ true → P x u) → (t ≡ false → P y v) → P (cond t x y) (cond t u v)
both true x y u v P h k = h refl
both false x y u v P h k = k refl

-- a plain byte outside strings
pub plain_place : (b : ℕ) → eqb b 34 ≡ false → next_place outside b ≡ outside
plain_place b h = rw h refl

pub plain_utf8 : (b : ℕ) → b < 128 → utf8_step None b ≡ Some None
plain_utf8 b h = grind (arith, nat_tests)

pub space_plain : (b : ℕ) → is_space b ≡ true → (eqb b 34 ≡ false) × (b < 128)
space_plain b h = grind (arith, nat_tests)

-- a byte outside strings that isn't a quotation mark leads from outside to outside
abbrev pub IsOutside : Mode → Type 0
IsOutside m = (place_of m ≡ outside) × (tail_of m ≡ None)

pub outside_leads : (limit : ℕ) (m : Mode) (fs : List Frame) (b : ℕ) (next : Mode) (around : List Frame) → IsOutside m → IsOutside next → eqb b 34 ≡ false → b < 128 → Stands limit next around
    → ((r : List ℕ) → Completes limit next around r → Completes limit m fs (b ∷ r)) → Leads limit m fs b next around
outside_leads limit m fs b next around here there n low within sound = record {
  sound = sound;
  place = ap (λ p. next_place p b) here.0 ∙ plain_place b n ∙ sym there.0;
  utf8 = ap (λ t. utf8_step t b) here.1 ∙ plain_utf8 b low ∙ ap (λ t. Some t) (sym there.1);
  within = within;
}

pub value_spaced : (limit depth : ℕ) (After : List ℕ → Type 0) (b : ℕ) (r : List ℕ) → is_space b ≡ true → ValueThen limit depth After r → ValueThen limit depth After (b ∷ r)
value_spaced limit depth After b r s v = record { tree = v.tree; space = b ∷ v.space; value = v.value; behind = v.behind; whole = ap (λ x. b ∷ x) v.whole; spaced = and_from _ _ s v.spaced; is = v.is; shallow = v.shallow; after = v.after }

padded_spaced : (form : List ℕ → Type 0) (b : ℕ) (bytes : List ℕ) → is_space b ≡ true → IsPadded form bytes → IsPadded form (b ∷ bytes)
padded_spaced form b bytes s p = (b ∷ p.0, p.1, p.2, ap (λ x. b ∷ x) p.3, and_from _ _ s p.4, p.5, p.6)

pub items_spaced : (limit depth : ℕ) (After : List ℕ → Type 0) (b : ℕ) (r : List ℕ) → is_space b ≡ true → ItemsThen limit depth After r → ItemsThen limit depth After (b ∷ r)
items_spaced limit depth After b r s v = record { list = v.list; items = b ∷ v.items; behind = v.behind; whole = ap (λ x. b ∷ x) v.whole; are = go v.list v.are; shallow = v.shallow; after = v.after }
  where
    go : (ts : Items) → AreItems ts v.items → AreItems ts (b ∷ v.items)
    go no_items h = and_from _ _ s h
    go (item t ts) h = (b ∷ h.0, h.1, ap (λ x. b ∷ x) h.2, padded_spaced (IsValue t) b h.0 s h.3, h.4)

pub members_spaced : (limit depth : ℕ) (After : List ℕ → Type 0) (b : ℕ) (r : List ℕ) → is_space b ≡ true → MembersThen limit depth After r → MembersThen limit depth After (b ∷ r)
members_spaced limit depth After b r s v = record { object = v.object; members = b ∷ v.members; behind = v.behind; whole = ap (λ x. b ∷ x) v.whole; are = go v.object v.are; shallow = v.shallow; after = v.after }
  where
    go : (ms : Members) → AreMembers ms v.members → AreMembers ms (b ∷ v.members)
    go no_members h = and_from _ _ s h
    go (member n t ms) h = (b ∷ h.0, h.1, h.2, ap (λ x. b ∷ x) h.3, padded_spaced (IsString n) b h.0 s h.4, h.5, h.6)

pub colon_spaced : (limit depth : ℕ) (After : List ℕ → Type 0) (b : ℕ) (r : List ℕ) → is_space b ≡ true → ColonThen limit depth After r → ColonThen limit depth After (b ∷ r)
colon_spaced limit depth After b r s v = record { tree = v.tree; later = v.later; space = b ∷ v.space; value = v.value; members = v.members; behind = v.behind; whole = ap (λ x. b ∷ x) v.whole; spaced = and_from _ _ s v.spaced; is = v.is; are = v.are; shallow_value = v.shallow_value; shallow = v.shallow; after = v.after }

pub name_spaced : (limit depth : ℕ) (After : List ℕ → Type 0) (b : ℕ) (r : List ℕ) → is_space b ≡ true → NameThen limit depth After r → NameThen limit depth After (b ∷ r)
name_spaced limit depth After b r s v = record { text = v.text; space = b ∷ v.space; name = v.name; behind = v.behind; whole = ap (λ x. b ∷ x) v.whole; spaced = and_from _ _ s v.spaced; is = v.is; colon = v.colon }

pub behind_spaced : (limit : ℕ) (fs : List Frame) (b : ℕ) (r : List ℕ) → is_space b ≡ true → Behind limit fs r → Behind limit fs (b ∷ r)
behind_spaced limit [] b r s v = and_from _ _ s v
behind_spaced limit (in_list ∷ fs) b r s v = record { later = v.later; space = b ∷ v.space; items = v.items; behind = v.behind; whole = ap (λ x. b ∷ x) v.whole; spaced = and_from _ _ s v.spaced; are = v.are; shallow = v.shallow; after = v.after }
behind_spaced limit (in_object ∷ fs) b r s v = record { later = v.later; space = b ∷ v.space; members = v.members; behind = v.behind; whole = ap (λ x. b ∷ x) v.whole; spaced = and_from _ _ s v.spaced; are = v.are; shallow = v.shallow; after = v.after }

-- regroupings
regroup_item : (s v t i b : List ℕ) → s ++ (v ++ (t ++ (i ++ 93 ∷ b))) ≡ ((s ++ (v ++ t)) ++ i) ++ 93 ∷ b
regroup_item s v t i b = simp append_assoc

pub regroup_inside : (i b : List ℕ) (first last : ℕ) → first ∷ (i ++ last ∷ b) ≡ (first ∷ (i ++ last ∷ [])) ++ b
regroup_inside i b first last = ap (λ x. first ∷ x) (sym (append_assoc i (last ∷ []) b))

-- a value in a list, up to the closing bracket
pub value_item : (limit : ℕ) (fs : List Frame) (r : List ℕ) → ValueThen limit (suc (length fs)) (Behind limit (in_list ∷ fs)) r → ItemsThen limit (length fs) (Behind limit fs) r
value_item limit fs r v =
    let m = v.after in
    record {
      list = item v.tree m.later;
      items = (v.space ++ (v.value ++ m.space)) ++ m.items;
      behind = m.behind;
      whole = v.whole ∙ ap (λ x. v.space ++ (v.value ++ x)) m.whole ∙ regroup_item v.space v.value m.space m.items m.behind;
      are = (v.space ++ (v.value ++ m.space), m.items, refl, (v.space, v.value, m.space, refl, v.spaced, v.is, m.spaced), m.are);
      shallow = omega (arith, v.shallow, m.shallow);
      after = m.after;
    }

-- the same after a comma
pub comma_item : (limit : ℕ) (fs : List Frame) (r : List ℕ) → ValueThen limit (suc (length fs)) (Behind limit (in_list ∷ fs)) r → Behind limit (in_list ∷ fs) (44 ∷ r)
comma_item limit fs r v =
    let m = v.after in
    record {
      later = item v.tree m.later;
      space = [];
      items = 44 ∷ ((v.space ++ (v.value ++ m.space)) ++ m.items);
      behind = m.behind;
      whole = ap (λ x. 44 ∷ x) (v.whole ∙ ap (λ x. v.space ++ (v.value ++ x)) m.whole ∙ regroup_item v.space v.value m.space m.items m.behind);
      spaced = refl;
      are = (v.space ++ (v.value ++ m.space), m.items, refl, (v.space, v.value, m.space, refl, v.spaced, v.is, m.spaced), m.are);
      shallow = omega (arith, v.shallow, m.shallow);
      after = m.after;
    }

-- a list and an object from their brackets on
list_opens : (limit : ℕ) (fs : List Frame) (r : List ℕ) → length fs < limit → ItemsThen limit (length fs) (Behind limit fs) r → ValueThen limit (length fs) (Behind limit fs) (91 ∷ r)
list_opens limit fs r room v = record {
  tree = list v.list;
  space = [];
  value = 91 ∷ (v.items ++ 93 ∷ []);
  behind = v.behind;
  whole = ap (λ x. 91 ∷ x) v.whole ∙ regroup_inside v.items v.behind 91 93;
  spaced = refl;
  is = (v.items, refl, v.are);
  shallow = omega (arith, v.shallow);
  after = v.after;
}

object_opens : (limit : ℕ) (fs : List Frame) (r : List ℕ) → length fs < limit → MembersThen limit (length fs) (Behind limit fs) r → ValueThen limit (length fs) (Behind limit fs) (123 ∷ r)
object_opens limit fs r room v = record {
  tree = object v.object;
  space = [];
  value = 123 ∷ (v.members ++ 125 ∷ []);
  behind = v.behind;
  whole = ap (λ x. 123 ∷ x) v.whole ∙ regroup_inside v.members v.behind 123 125;
  spaced = refl;
  is = (v.members, refl, v.are);
  shallow = omega (arith, v.shallow);
  after = v.after;
}

-- a string from its opening quotation mark on
pub string_text : (After : List ℕ → Type 0) (r : List ℕ) (p : PiecesThen After r) → IsString (decoded None p.pieces) (34 ∷ (flat_map piece_bytes p.pieces ++ 34 ∷ []))
string_text After r p = record { pieces = p.pieces; each = p.each; spelled = refl; means = refl }

text_opens : (limit depth : ℕ) (After : List ℕ → Type 0) (r : List ℕ) → PiecesThen After r → ValueThen limit depth After (34 ∷ r)
text_opens limit depth After r q = record {
  tree = text (decoded None q.pieces);
  space = [];
  value = 34 ∷ (flat_map piece_bytes q.pieces ++ 34 ∷ []);
  behind = q.behind;
  whole = ap (λ x. 34 ∷ x) q.whole ∙ regroup_inside (flat_map piece_bytes q.pieces) q.behind 34 34;
  spaced = refl;
  is = string_text After r q;
  shallow = omega arith;
  after = q.after;
}

-- a word from its first byte on
word_opens : (limit depth : ℕ) (After : List ℕ → Type 0) (t : Tree) (b c : ℕ) (cs r : List ℕ) → IsValue t (b ∷ c ∷ cs) → levels t ≡ 0 → WordThen (c ∷ cs) After r → ValueThen limit depth After (b ∷ r)
word_opens limit depth After t b c cs r is flat w = record {
  tree = t;
  space = [];
  value = b ∷ c ∷ cs;
  behind = w.behind;
  whole = ap (λ x. b ∷ x) w.whole;
  spaced = refl;
  is = is;
  shallow = omega arith;
  after = w.after;
}

-- a number from its first byte on
pub number_goes : (n m : Numeral) (After : List ℕ → Type 0) (b : ℕ) (r : List ℕ) → next_numeral n b ≡ Some m → NumberThen (accepts m) After r → NumberThen (accepts n) After (b ∷ r)
number_goes n m After b r e v = record {
  number = b ∷ v.number;
  behind = v.behind;
  whole = ap (λ x. b ∷ x) v.whole;
  is = ap (λ o. from o v.number) e ∙ v.is;
  after = v.after;
}

pub number_opens : (limit depth : ℕ) (After : List ℕ → Type 0) (bytes : List ℕ) → NumberThen (accepts Start) After bytes → ValueThen limit depth After bytes
number_opens limit depth After bytes v = record {
  tree = number v.number;
  space = [];
  value = v.number;
  behind = v.behind;
  whole = v.whole;
  spaced = refl;
  is = (sym (number_is v.number) ∙ v.is, refl);
  shallow = omega arith;
  after = v.after;
}

abbrev pub PlainIf : ℕ → Option Numeral → Type 0
PlainIf b None = Unit {0}
PlainIf b (Some m) = (eqb b 34 ≡ false) × (b < 128)

digit_plain : (b : ℕ) → is_digit b ≡ true → (eqb b 34 ≡ false) × (b < 128)
digit_plain b h = grind (arith, nat_tests)

mark_plain : (b : ℕ) → is_exponent_mark b ≡ true → (eqb b 34 ≡ false) × (b < 128)
mark_plain b h = grind (arith, nat_tests)

sign_plain : (b : ℕ) → (eqb b 43 || eqb b 45) ≡ true → (eqb b 34 ≡ false) × (b < 128)
sign_plain b h = grind (arith, nat_tests)

pub byte_plain : (b c : ℕ) → eqb b c ≡ true → eqb c 34 ≡ false → c < 128 → (eqb b 34 ≡ false) × (b < 128)
byte_plain b c h n low = let e = eqb-true b c h in (ap (λ x. eqb x 34) e ∙ n, omega arith)

pub numeral_plain : (n : Numeral) (b : ℕ) → PlainIf b (next_numeral n b)
numeral_plain Start b =
    cond_both (eqb b 45) _ _ (PlainIf b) (λ e. byte_plain b 45 e refl (omega arith)) (λ n. cond_both (eqb b 48) _ _ (PlainIf b) (λ e. byte_plain b 48 e refl (omega arith)) (λ n. cond_both (is_digit b) _ _ (PlainIf b) (digit_plain b) (λ n. tt)))
numeral_plain Minus b =
    cond_both (eqb b 48) _ _ (PlainIf b) (λ e. byte_plain b 48 e refl (omega arith)) (λ n. cond_both (is_digit b) _ _ (PlainIf b) (digit_plain b) (λ n. tt))
numeral_plain Zero b =
    cond_both (eqb b 46) _ _ (PlainIf b) (λ e. byte_plain b 46 e refl (omega arith)) (λ n. cond_both (is_exponent_mark b) _ _ (PlainIf b) (mark_plain b) (λ n. tt))
numeral_plain Whole b =
    cond_both (is_digit b) _ _ (PlainIf b) (digit_plain b) (λ n. cond_both (eqb b 46) _ _ (PlainIf b) (λ e. byte_plain b 46 e refl (omega arith)) (λ n. cond_both (is_exponent_mark b) _ _ (PlainIf b) (mark_plain b) (λ n. tt)))
numeral_plain Point b = cond_both (is_digit b) _ _ (PlainIf b) (digit_plain b) (λ n. tt)
numeral_plain Fraction b =
    cond_both (is_digit b) _ _ (PlainIf b) (digit_plain b) (λ n. cond_both (is_exponent_mark b) _ _ (PlainIf b) (mark_plain b) (λ n. tt))
numeral_plain Mark b =
    cond_both (eqb b 43 || eqb b 45) _ _ (PlainIf b) (sign_plain b) (λ n. cond_both (is_digit b) _ _ (PlainIf b) (digit_plain b) (λ n. tt))
numeral_plain Sign b = cond_both (is_digit b) _ _ (PlainIf b) (digit_plain b) (λ n. tt)
numeral_plain Exponent b = cond_both (is_digit b) _ _ (PlainIf b) (digit_plain b) (λ n. tt)

-- two steps that both lead so
pub steps : (limit : ℕ) (m : Mode) (fs : List Frame) (b : ℕ) (next : Mode) (around : List Frame) → Leads limit m fs b next around → LeadsTo limit m fs b (moves next around) (moves next around)
steps limit m fs b next around l = (l, refl)

pub number_leads : (limit : ℕ) (m : Mode) (fs : List Frame) (b : ℕ) (o : Option Numeral) (s s' : Step) → IsOutside m → length fs ≤ limit → PlainIf b o
    → ((k : Numeral) → o ≡ Some k → (r : List ℕ) → NumberThen (accepts k) (Behind limit fs) r → Completes limit m fs (b ∷ r)) → LeadsTo limit m fs b s s'
    → LeadsTo limit m fs b (from_numeral fs s o) (from_numeral fs s' o)
number_leads limit m fs b None s s' here within plain sound other = other
number_leads limit m fs b (Some k) s s' here within plain sound other = steps limit m fs b (in_number k) fs (outside_leads limit m fs b (in_number k) fs here (refl, refl) plain.0 plain.1 (within, refl) (sound k refl))

-- a mode that goes on as another does
pub goes_as : (limit : ℕ) (m other : Mode) (fs gs : List Frame) (b : ℕ) (s s' : Step) → place_of m ≡ place_of other → tail_of m ≡ tail_of other → ((r : List ℕ) → Completes limit other gs (b ∷ r) → Completes limit m fs (b ∷ r)) → LeadsTo limit other gs b s s' → LeadsTo limit m fs b s s'
goes_as limit m other fs gs b (moves next around) s' p t sound l = (
  record {
    sound = λ r c. sound r (l.0.sound r c);
    place = ap (λ x. next_place x b) p ∙ l.0.place;
    utf8 = ap (λ x. utf8_step x b) t ∙ l.0.utf8;
    within = l.0.within;
  },
  l.1,
)
goes_as limit m other fs gs b stuck s' p t sound l = l
goes_as limit m other fs gs b too_deep s' p t sound l = l

-- a list or an object begins, or is a level too many
open_at : (limit : ℕ) (m next : Mode) (fs : List Frame) (b : ℕ) → (b ≡ 91) ⊎ (b ≡ 123) → (ltb (length fs) limit ≡ true → Leads limit m fs b next fs) → length fs ≤ limit
    → (x y : Bool) → ltb (length fs) limit ≡ x → ltb (length fs) (suc limit) ≡ y → LeadsTo limit m fs b (cond x (moves next fs) too_deep) (cond y (moves next fs) too_deep)
open_at limit m next fs b which leads within true true e f = steps limit m fs b next fs (leads e)
open_at limit m next fs b which leads within false true e f = record { opens = which; next = next; around = fs; is = refl }
open_at limit m next fs b which leads within x false e f =
    let high : suc limit ≤ length fs = ltb-false (length fs) (suc limit) f in
    absurd (omega arith)

open_leads : (limit : ℕ) (m next : Mode) (fs : List Frame) (b : ℕ) → (b ≡ 91) ⊎ (b ≡ 123) → (ltb (length fs) limit ≡ true → Leads limit m fs b next fs) → length fs ≤ limit
    → LeadsTo limit m fs b (opens limit next fs) (opens (suc limit) next fs)
open_leads limit m next fs b which leads within = open_at limit m next fs b which leads within (ltb (length fs) limit) (ltb (length fs) (suc limit)) refl refl

pub value_leads : (limit : ℕ) (fs : List Frame) (b : ℕ) → length fs ≤ limit → LeadsTo limit at_value fs b (value_step limit fs b) (value_step (suc limit) fs b)
value_leads limit fs b within =
    let P = LeadsTo limit at_value fs b in
    both (is_space b) _ _ _ _ P (λ e.
    let k = space_plain b e in
    steps limit at_value fs b at_value fs (outside_leads limit at_value fs b at_value fs (refl, refl) (refl, refl) k.0 k.1 (within, refl) (λ r v. value_spaced limit (length fs) (Behind limit fs) b r e v)))
    (λ n0. both (eqb b 34) _ _ _ _ P (λ e. steps limit at_value fs b (in_text a_value (characters None)) fs (quote limit fs b within (eqb-true b 34 e)))
    (λ n1. both (eqb b 91) _ _ _ _ P (λ e. open_leads limit at_value at_first_item fs b (inl (eqb-true b 91 e)) (λ room. bracket limit fs b (eqb-true b 91 e) (ltb-true (length fs) limit room)) within)
    (λ n2. both (eqb b 123) _ _ _ _ P (λ e. open_leads limit at_value at_first_name fs b (inr (eqb-true b 123 e)) (λ room. brace limit fs b (eqb-true b 123 e) (ltb-true (length fs) limit room)) within)
    (λ n3. both (eqb b 116) _ _ _ _ P (λ e. word limit fs b 116 114 (117 ∷ 101 ∷ []) (boolean true) (eqb-true b 116 e) refl refl refl (omega arith) (within, refl))
    (λ n4. both (eqb b 102) _ _ _ _ P (λ e. word limit fs b 102 97 (108 ∷ 115 ∷ 101 ∷ []) (boolean false) (eqb-true b 102 e) refl refl refl (omega arith) (within, refl))
    (λ n5. both (eqb b 110) _ _ _ _ P (λ e. word limit fs b 110 117 (108 ∷ 108 ∷ []) null (eqb-true b 110 e) refl refl refl (omega arith) (within, refl))
    (λ n6. number_leads limit at_value fs b (next_numeral Start b) stuck stuck (refl, refl) within (numeral_plain Start b) (λ k o r v. number_opens limit (length fs) (Behind limit fs) (b ∷ r) (number_goes Start k (Behind limit fs) b r o v)) refl)))))))
  where
    quote : (limit : ℕ) (fs : List Frame) (b : ℕ) → length fs ≤ limit → b ≡ 34 → Leads limit at_value fs b (in_text a_value (characters None)) fs
    quote limit fs b within e = subst (λ x. Leads limit at_value fs x (in_text a_value (characters None)) fs) (sym e) (record {
      sound = λ r v. text_opens limit (length fs) (Behind limit fs) r v;
      place = refl;
      utf8 = refl;
      within = (within, refl);
    })

    bracket : (limit : ℕ) (fs : List Frame) (b : ℕ) → b ≡ 91 → length fs < limit → Leads limit at_value fs b at_first_item fs
    bracket limit fs b e room = subst (λ x. Leads limit at_value fs x at_first_item fs) (sym e) (record {
      sound = λ r v. list_opens limit fs r room v;
      place = refl;
      utf8 = refl;
      within = (room, refl);
    })

    brace : (limit : ℕ) (fs : List Frame) (b : ℕ) → b ≡ 123 → length fs < limit → Leads limit at_value fs b at_first_name fs
    brace limit fs b e room = subst (λ x. Leads limit at_value fs x at_first_name fs) (sym e) (record {
      sound = λ r v. object_opens limit fs r room v;
      place = refl;
      utf8 = refl;
      within = (room, refl);
    })

    word : (limit : ℕ) (fs : List Frame) (b a c : ℕ) (cs : List ℕ) (t : Tree) → b ≡ a → IsValue t (a ∷ c ∷ cs) → levels t ≡ 0 → eqb a 34 ≡ false → a < 128 → Stands limit (in_word c cs) fs → LeadsTo limit at_value fs b (moves (in_word c cs) fs) (moves (in_word c cs) fs)
    word limit fs b a c cs t e is flat n low within = steps limit at_value fs b (in_word c cs) fs (subst (λ x. Leads limit at_value fs x (in_word c cs) fs) (sym e)
        (outside_leads limit at_value fs a (in_word c cs) fs (refl, refl) (refl, refl) n low within (λ r v. word_opens limit (length fs) (Behind limit fs) t a c cs r is flat v)))
