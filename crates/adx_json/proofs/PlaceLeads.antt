-- Where bytes lead outside strings.
use Rattle.std.proofs.Common.{◌≡◌, ℕ, suc, ◌<◌, ◌≤◌, List, [], ◌∷◌, ◌++◌, length, Bool, true, false, cond, None, refl, sym, ap, ◌∙◌, subst, arith, eqb, append_assoc}
use Rattle.std.proofs.lemmas.Bool.{eqb-true, and_parts}
use Rattle.std.proofs.lemmas.Bool.Decides.{nat_tests}
use Rattle.std.specs.List.{list_all, flat_map}
use Rattle.adx_json.specs.Tree.{no_items, no_members, member}
use Rattle.adx_json.specs.Grammar.{is_space, piece_bytes, decoded}
use Rattle.adx_json.specs.Machine.{Frame, in_list, in_object, characters, a_name, Mode, at_value, at_first_item, behind_value, at_first_name, at_name, behind_name, in_word, in_number, in_text, moves, stuck, value_step, behind_step, word_step, from_numeral, next_numeral, may_end}
use Rattle.adx_json.specs.declared.number.Numeral.{Numeral}
use Rattle.adx_json.proofs.Completions.{MoreMembersThen, Behind, ValueThen, ItemsThen, MembersThen, ColonThen, NameThen, PiecesThen}
use Rattle.adx_json.proofs.Leads.{Leads, LeadsTo, both, outside_leads, space_plain, steps, goes_as, value_leads, value_item, comma_item, items_spaced, members_spaced, colon_spaced, name_spaced, behind_spaced, number_leads, number_goes, numeral_plain, regroup_inside, string_text, is_letter}

-- nothing in a list's or an object's brackets, and nothing more
list_closes : (limit : ℕ) (fs : List Frame) (r : List ℕ) → Behind limit fs r → ItemsThen limit (length fs) (Behind limit fs) (93 ∷ r)
list_closes limit fs r v = record { list = no_items; items = []; behind = r; whole = refl; are = refl; shallow = omega arith; after = v }

items_close : (limit : ℕ) (fs : List Frame) (r : List ℕ) → Behind limit fs r → Behind limit (in_list ∷ fs) (93 ∷ r)
items_close limit fs r v = record { later = no_items; space = []; items = []; behind = r; whole = refl; spaced = refl; are = refl; shallow = omega arith; after = v }

object_closes : (limit : ℕ) (fs : List Frame) (r : List ℕ) → Behind limit fs r → MembersThen limit (length fs) (Behind limit fs) (125 ∷ r)
object_closes limit fs r v = record { object = no_members; members = []; behind = r; whole = refl; are = refl; shallow = omega arith; after = v }

members_close : (limit : ℕ) (fs : List Frame) (r : List ℕ) → Behind limit fs r → Behind limit (in_object ∷ fs) (125 ∷ r)
members_close limit fs r v = record { later = no_members; space = []; members = []; behind = r; whole = refl; spaced = refl; are = refl; shallow = omega arith; after = v }

regroup_member : (s n t v m b : List ℕ) → s ++ (n ++ (t ++ 58 ∷ (v ++ (m ++ 125 ∷ b)))) ≡ ((s ++ (n ++ t)) ++ 58 ∷ (v ++ m)) ++ 125 ∷ b
regroup_member s n t v m b = simp append_assoc

regroup_value : (s v t m b : List ℕ) → s ++ (v ++ (t ++ (m ++ 125 ∷ b))) ≡ (s ++ (v ++ t)) ++ (m ++ 125 ∷ b)
regroup_value s v t m b = simp append_assoc

name_whole : (limit depth : ℕ) (After : List ℕ → Type 0) (r : List ℕ) (v : NameThen limit depth After r) → r ≡ ((v.space ++ (v.name ++ v.colon.space)) ++ 58 ∷ (v.colon.value ++ v.colon.members)) ++ 125 ∷ v.colon.behind
name_whole limit depth After r v =
    let c = v.colon in
    v.whole ∙ ap (λ x. v.space ++ (v.name ++ x)) c.whole ∙ regroup_member v.space v.name c.space c.value c.members c.behind

-- a member from its name on, first or after a comma
name_member : (limit depth : ℕ) (After : List ℕ → Type 0) (r : List ℕ) → NameThen limit depth After r → MembersThen limit depth After r
name_member limit depth After r v =
    let c = v.colon in
    record {
      object = member v.text c.tree c.later;
      members = (v.space ++ (v.name ++ c.space)) ++ 58 ∷ (c.value ++ c.members);
      behind = c.behind;
      whole = name_whole limit depth After r v;
      are = (v.space ++ (v.name ++ c.space), c.value, c.members, refl, (v.space, v.name, c.space, refl, v.spaced, v.is, c.spaced), c.is, c.are);
      shallow = omega (arith, c.shallow, c.shallow_value);
      after = c.after;
    }

comma_member : (limit depth : ℕ) (After : List ℕ → Type 0) (r : List ℕ) → NameThen limit depth After r → MoreMembersThen limit depth After (44 ∷ r)
comma_member limit depth After r v =
    let c = v.colon in
    record {
      later = member v.text c.tree c.later;
      space = [];
      members = 44 ∷ ((v.space ++ (v.name ++ c.space)) ++ 58 ∷ (c.value ++ c.members));
      behind = c.behind;
      whole = ap (λ x. 44 ∷ x) (name_whole limit depth After r v);
      spaced = refl;
      are = (v.space ++ (v.name ++ c.space), c.value, c.members, refl, (v.space, v.name, c.space, refl, v.spaced, v.is, c.spaced), c.is, c.are);
      shallow = omega (arith, c.shallow, c.shallow_value);
      after = c.after;
    }

name_opens : (limit depth : ℕ) (After : List ℕ → Type 0) (r : List ℕ) → PiecesThen (ColonThen limit depth After) r → NameThen limit depth After (34 ∷ r)
name_opens limit depth After r q = record {
  text = decoded None q.pieces;
  space = [];
  name = 34 ∷ (flat_map piece_bytes q.pieces ++ 34 ∷ []);
  behind = q.behind;
  whole = ap (λ x. 34 ∷ x) q.whole ∙ regroup_inside (flat_map piece_bytes q.pieces) q.behind 34 34;
  spaced = refl;
  is = string_text (ColonThen limit depth After) r q;
  colon = q.after;
}

colon_value : (limit : ℕ) (fs : List Frame) (r : List ℕ) → ValueThen limit (suc (length fs)) (Behind limit (in_object ∷ fs)) r → ColonThen limit (length fs) (Behind limit fs) (58 ∷ r)
colon_value limit fs r v =
    let m = v.after in
    record {
      tree = v.tree;
      later = m.later;
      space = [];
      value = v.space ++ (v.value ++ m.space);
      members = m.members;
      behind = m.behind;
      whole = ap (λ x. 58 ∷ x) (v.whole ∙ ap (λ x. v.space ++ (v.value ++ x)) m.whole ∙ regroup_value v.space v.value m.space m.members m.behind);
      spaced = refl;
      is = (v.space, v.value, m.space, refl, v.spaced, v.is, m.spaced);
      are = m.are;
      shallow_value = v.shallow;
      shallow = m.shallow;
      after = m.after;
    }

-- one byte that is known, from outside to outside
known : (limit : ℕ) (m : Mode) (fs : List Frame) (b c : ℕ) (next : Mode) (around : List Frame) → eqb b c ≡ true → Leads limit m fs c next around → LeadsTo limit m fs b (moves next around) (moves next around)
known limit m fs b c next around e l = steps limit m fs b next around (subst (λ x. Leads limit m fs x next around) (sym (eqb-true b c e)) l)

pub first_item_leads : (limit : ℕ) (fs : List Frame) (b : ℕ) → suc (length fs) ≤ limit
    → LeadsTo limit at_first_item fs b
    (cond (is_space b) (moves at_first_item fs) (cond (eqb b 93) (moves behind_value fs) (value_step limit (in_list ∷ fs) b)))
    (cond (is_space b) (moves at_first_item fs) (cond (eqb b 93) (moves behind_value fs) (value_step (suc limit) (in_list ∷ fs) b)))
first_item_leads limit fs b within =
    let P = LeadsTo limit at_first_item fs b in
    both (is_space b) _ _ _ _ P (λ e.
    let k = space_plain b e in
    steps limit at_first_item fs b at_first_item fs (outside_leads limit at_first_item fs b at_first_item fs (refl, refl) (refl, refl) k.0 k.1 (within, refl) (λ r v. items_spaced limit (length fs) (Behind limit fs) b r e v)))
    (λ n0. both (eqb b 93) _ _ _ _ P (λ e. known limit at_first_item fs b 93 behind_value fs e (outside_leads limit at_first_item fs 93 behind_value fs (refl, refl) (refl, refl) refl (omega arith) (omega arith, refl) (λ r v. list_closes limit fs r v)))
    (λ n1. goes_as limit at_first_item at_value fs (in_list ∷ fs) b _ _ refl refl (λ r v. value_item limit fs (b ∷ r) v) (value_leads limit (in_list ∷ fs) b within)))

pub behind_leads : (limit : ℕ) (fs : List Frame) (b : ℕ) → length fs ≤ limit → LeadsTo limit behind_value fs b (behind_step fs b) (behind_step fs b)
behind_leads limit [] b within =
    let P = LeadsTo limit behind_value [] b in
    both (is_space b) _ _ _ _ P (λ e.
    let k = space_plain b e in
    steps limit behind_value [] b behind_value [] (outside_leads limit behind_value [] b behind_value [] (refl, refl) (refl, refl) k.0 k.1 (within, refl) (λ r v. behind_spaced limit [] b r e v)))
    (λ n. refl)
behind_leads limit (in_list ∷ fs) b within =
    let P = LeadsTo limit behind_value (in_list ∷ fs) b in
    both (is_space b) _ _ _ _ P (λ e.
    let k = space_plain b e in
    steps limit behind_value (in_list ∷ fs) b behind_value (in_list ∷ fs) (outside_leads limit behind_value (in_list ∷ fs) b behind_value (in_list ∷ fs) (refl, refl) (refl, refl) k.0 k.1 (within, refl) (λ r v. behind_spaced limit (in_list ∷ fs) b r e v)))
    (λ n0. both (eqb b 44) _ _ _ _ P (λ e. known limit behind_value (in_list ∷ fs) b 44 at_value (in_list ∷ fs) e (outside_leads limit behind_value (in_list ∷ fs) 44 at_value (in_list ∷ fs) (refl, refl) (refl, refl) refl (omega arith) (within, refl) (λ r v. comma_item limit fs r v)))
    (λ n1. both (eqb b 93) _ _ _ _ P (λ e. known limit behind_value (in_list ∷ fs) b 93 behind_value fs e (outside_leads limit behind_value (in_list ∷ fs) 93 behind_value fs (refl, refl) (refl, refl) refl (omega arith) (omega arith, refl) (λ r v. items_close limit fs r v)))
    (λ n2. refl)))
behind_leads limit (in_object ∷ fs) b within =
    let P = LeadsTo limit behind_value (in_object ∷ fs) b in
    both (is_space b) _ _ _ _ P (λ e.
    let k = space_plain b e in
    steps limit behind_value (in_object ∷ fs) b behind_value (in_object ∷ fs) (outside_leads limit behind_value (in_object ∷ fs) b behind_value (in_object ∷ fs) (refl, refl) (refl, refl) k.0 k.1 (within, refl) (λ r v. behind_spaced limit (in_object ∷ fs) b r e v)))
    (λ n0. both (eqb b 44) _ _ _ _ P (λ e. known limit behind_value (in_object ∷ fs) b 44 at_name fs e (outside_leads limit behind_value (in_object ∷ fs) 44 at_name fs (refl, refl) (refl, refl) refl (omega arith) (within, refl) (λ r v. comma_member limit (length fs) (Behind limit fs) r v)))
    (λ n1. both (eqb b 125) _ _ _ _ P (λ e. known limit behind_value (in_object ∷ fs) b 125 behind_value fs e (outside_leads limit behind_value (in_object ∷ fs) 125 behind_value fs (refl, refl) (refl, refl) refl (omega arith) (omega arith, refl) (λ r v. members_close limit fs r v)))
    (λ n2. refl)))

pub first_name_leads : (limit : ℕ) (fs : List Frame) (b : ℕ) → suc (length fs) ≤ limit
    → LeadsTo limit at_first_name fs b
    (cond (is_space b) (moves at_first_name fs) (cond (eqb b 34) (moves (in_text a_name (characters None)) fs) (cond (eqb b 125) (moves behind_value fs) stuck)))
    (cond (is_space b) (moves at_first_name fs) (cond (eqb b 34) (moves (in_text a_name (characters None)) fs) (cond (eqb b 125) (moves behind_value fs) stuck)))
first_name_leads limit fs b within =
    let P = LeadsTo limit at_first_name fs b in
    both (is_space b) _ _ _ _ P (λ e.
    let k = space_plain b e in
    steps limit at_first_name fs b at_first_name fs (outside_leads limit at_first_name fs b at_first_name fs (refl, refl) (refl, refl) k.0 k.1 (within, refl) (λ r v. members_spaced limit (length fs) (Behind limit fs) b r e v)))
    (λ n0. both (eqb b 34) _ _ _ _ P (λ e. known limit at_first_name fs b 34 (in_text a_name (characters None)) fs e (record {
      sound = λ r v. name_member limit (length fs) (Behind limit fs) (34 ∷ r) (name_opens limit (length fs) (Behind limit fs) r v);
      place = refl;
      utf8 = refl;
      within = (within, refl);
    }))
    (λ n1. both (eqb b 125) _ _ _ _ P (λ e. known limit at_first_name fs b 125 behind_value fs e (outside_leads limit at_first_name fs 125 behind_value fs (refl, refl) (refl, refl) refl (omega arith) (omega arith, refl) (λ r v. object_closes limit fs r v)))
    (λ n2. refl)))

pub name_leads : (limit : ℕ) (fs : List Frame) (b : ℕ) → suc (length fs) ≤ limit
    → LeadsTo limit at_name fs b
    (cond (is_space b) (moves at_name fs) (cond (eqb b 34) (moves (in_text a_name (characters None)) fs) stuck))
    (cond (is_space b) (moves at_name fs) (cond (eqb b 34) (moves (in_text a_name (characters None)) fs) stuck))
name_leads limit fs b within =
    let P = LeadsTo limit at_name fs b in
    both (is_space b) _ _ _ _ P (λ e.
    let k = space_plain b e in
    steps limit at_name fs b at_name fs (outside_leads limit at_name fs b at_name fs (refl, refl) (refl, refl) k.0 k.1 (within, refl) (λ r v. name_spaced limit (length fs) (Behind limit fs) b r e v)))
    (λ n0. both (eqb b 34) _ _ _ _ P (λ e. known limit at_name fs b 34 (in_text a_name (characters None)) fs e (record {
      sound = λ r v. name_opens limit (length fs) (Behind limit fs) r v;
      place = refl;
      utf8 = refl;
      within = (within, refl);
    }))
    (λ n1. refl))

pub behind_name_leads : (limit : ℕ) (fs : List Frame) (b : ℕ) → suc (length fs) ≤ limit
    → LeadsTo limit behind_name fs b
    (cond (is_space b) (moves behind_name fs) (cond (eqb b 58) (moves at_value (in_object ∷ fs)) stuck))
    (cond (is_space b) (moves behind_name fs) (cond (eqb b 58) (moves at_value (in_object ∷ fs)) stuck))
behind_name_leads limit fs b within =
    let P = LeadsTo limit behind_name fs b in
    both (is_space b) _ _ _ _ P (λ e.
    let k = space_plain b e in
    steps limit behind_name fs b behind_name fs (outside_leads limit behind_name fs b behind_name fs (refl, refl) (refl, refl) k.0 k.1 (within, refl) (λ r v. colon_spaced limit (length fs) (Behind limit fs) b r e v)))
    (λ n0. both (eqb b 58) _ _ _ _ P (λ e. known limit behind_name fs b 58 at_value (in_object ∷ fs) e (outside_leads limit behind_name fs 58 at_value (in_object ∷ fs) (refl, refl) (refl, refl) refl (omega arith) (within, refl) (λ r v. colon_value limit fs r v)))
    (λ n1. refl))

letter_plain : (c : ℕ) → is_letter c ≡ true → (eqb c 34 ≡ false) × (c < 128)
letter_plain c h = grind (arith, nat_tests)

pub word_leads : (limit : ℕ) (fs : List Frame) (c : ℕ) (cs : List ℕ) (b : ℕ) → length fs ≤ limit → list_all is_letter (c ∷ cs) ≡ true → LeadsTo limit (in_word c cs) fs b (word_step c cs fs b) (word_step c cs fs b)
word_leads limit fs c [] b within letters =
    let plain = letter_plain c (and_parts _ _ letters).0 in
    both (eqb b c) _ _ _ _ (LeadsTo limit (in_word c []) fs b) (λ e. known limit (in_word c []) fs b c behind_value fs e (outside_leads limit (in_word c []) fs c behind_value fs (refl, refl) (refl, refl) plain.0 plain.1 (within, refl) (λ r v. record { behind = r; whole = refl; after = v })))
    (λ n. refl)
word_leads limit fs c (d ∷ ds) b within letters =
    let parts = and_parts _ _ letters in
    let plain = letter_plain c parts.0 in
    both (eqb b c) _ _ _ _ (LeadsTo limit (in_word c (d ∷ ds)) fs b) (λ e. known limit (in_word c (d ∷ ds)) fs b c (in_word d ds) fs e (outside_leads limit (in_word c (d ∷ ds)) fs c (in_word d ds) fs (refl, refl) (refl, refl) plain.0 plain.1 (within, parts.1) (λ r v. record { behind = v.behind; whole = ap (λ x. c ∷ x) v.whole; after = v.after })))
    (λ n. refl)

number_ends : (limit : ℕ) (fs : List Frame) (n : Numeral) (b : ℕ) (t : Bool) → may_end n ≡ t → length fs ≤ limit → LeadsTo limit (in_number n) fs b (cond t (behind_step fs b) stuck) (cond t (behind_step fs b) stuck)
number_ends limit fs n b false e within = refl
number_ends limit fs n b true e within = goes_as limit (in_number n) behind_value fs fs b (behind_step fs b) (behind_step fs b) refl refl (λ r v. record { number = []; behind = b ∷ r; whole = refl; is = e; after = v }) (behind_leads limit fs b within)

pub numeral_leads : (limit : ℕ) (fs : List Frame) (n : Numeral) (b : ℕ) → length fs ≤ limit
    → LeadsTo limit (in_number n) fs b (from_numeral fs (cond (may_end n) (behind_step fs b) stuck) (next_numeral n b)) (from_numeral fs (cond (may_end n) (behind_step fs b) stuck) (next_numeral n b))
numeral_leads limit fs n b within =
    number_leads limit (in_number n) fs b (next_numeral n b) _ _ (refl, refl) within (numeral_plain n b) (λ k o r v. number_goes n k (Behind limit fs) b r o v) (number_ends limit fs n b (may_end n) refl within)
