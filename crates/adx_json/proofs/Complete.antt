-- A JSON text is read to its end.
use Rattle.std.proofs.Common.{◌≡◌, ℕ, suc, ◌-◌, ◌≤◌, List, [], ◌∷◌, ◌++◌, length, true, false, None, refl, sym, ap, ◌∙◌, subst, arith, eqb, append_assoc, append-nil}
use Rattle.std.proofs.lemmas.Bool.{and_parts, false≢true}
use Rattle.std.proofs.lemmas.Bool.Decides.{nat_tests}
use Rattle.std.specs.List.{list_all, flat_map}
use Rattle.adx_units.specs.Number.{is_number}
use Rattle.adx_json.specs.Tree.{Tree, null, boolean, number, text, list, object, Items, no_items, item, Members, no_members, member, levels, items_levels, members_levels}
use Rattle.adx_json.specs.Grammar.{is_space, IsSpace, IsPadded, IsString, IsValue, AreItems, AreMoreItems, AreMembers, AreMoreMembers, piece_bytes, IsJsonTo}
use Rattle.adx_json.specs.Machine.{Frame, in_list, in_object, characters, Role, a_name, a_value, Mode, at_value, at_first_item, behind_value, at_first_name, at_name, behind_name, in_word, in_text, moves, step, stop_of, at_end, behind_text}
use Rattle.adx_json.specs.declared.number.Numeral.TheVariants.{Start}
use Rattle.adx_json.proofs.NumberTexts.{number_is}
use Rattle.adx_json.proofs.Stops.{stop_step, stop_end, stop_spaces, list_step, object_step, quote_step, true_step, false_step, null_step, list_end_step, item_end_step, item_comma_step, object_end_step, first_name_step, name_step, member_end_step, member_comma_step, colon_step, first_item_as, stop_pieces, closing_step, stop_word, stop_number, Ended, ends_number, value_as_number, number_other, number_begins, MaySpace}

-- a string, from its opening quotation mark on
string_whole : (t bytes r : List ℕ) (s : IsString t bytes) → bytes ++ r ≡ 34 ∷ (flat_map piece_bytes s.pieces ++ 34 ∷ r)
string_whole t bytes r s = ap (λ x. x ++ r) s.spelled ∙ ap (λ x. 34 ∷ x) (append_assoc (flat_map piece_bytes s.pieces) (34 ∷ []) r)

pub stop_string : (limit : ℕ) (m : Mode) (role : Role) (fs : List Frame) (t bytes r : List ℕ) → step limit m fs 34 ≡ moves (in_text role (characters None)) fs → IsString t bytes → stop_of limit m fs (bytes ++ r) ≡ stop_of limit (behind_text role) fs r
stop_string limit m role fs t bytes r e s =
    ap (stop_of limit m fs) (string_whole t bytes r s)
    ∙ stop_step limit m fs 34 (flat_map piece_bytes s.pieces ++ 34 ∷ r) (moves (in_text role (characters None)) fs) e
    ∙ stop_pieces limit role fs s.pieces (34 ∷ r) s.each
    ∙ stop_step limit (in_text role (characters None)) fs 34 r (moves (behind_text role) fs) (closing_step limit role fs)

stop_numeral : (limit : ℕ) (fs : List Frame) (n r : List ℕ) → is_number n ≡ true → Ended r → stop_of limit at_value fs (n ++ r) ≡ stop_of limit behind_value fs r
stop_numeral limit fs [] r h e = absurd (false≢true (number_is [] ∙ h))
stop_numeral limit fs (b ∷ n) r h e =
    let accepted = number_is (b ∷ n) ∙ h in
    value_as_number limit fs b (n ++ r) (number_other b (number_begins b n accepted)).0 ∙ stop_number limit fs Start (b ∷ n) r accepted e

-- a value's first byte is no white space and no closing bracket
abbrev BeginsValue : List ℕ → Type 0
BeginsValue bytes = (b : ℕ) × (rest : List ℕ) × (bytes ≡ b ∷ rest) × (is_space b ≡ false) × (eqb b 93 ≡ false)

value_begins : (t : Tree) (v : List ℕ) → IsValue t v → BeginsValue v
value_begins null v h = (110, 117 ∷ 108 ∷ 108 ∷ [], h, refl, refl)
value_begins (boolean true) v h = (116, 114 ∷ 117 ∷ 101 ∷ [], h, refl, refl)
value_begins (boolean false) v h = (102, 97 ∷ 108 ∷ 115 ∷ 101 ∷ [], h, refl, refl)
value_begins (number []) v h = absurd (false≢true h.0)
value_begins (number (b ∷ n)) v h =
    let other = number_other b (number_begins b n (number_is (b ∷ n) ∙ h.0)) in
    (b, n, h.1, other.0.space, other.1)
value_begins (text t) v h = (34, flat_map piece_bytes h.pieces ++ 34 ∷ [], h.spelled, refl, refl)
value_begins (list ts) v h = (91, h.0 ++ 93 ∷ [], h.1, refl, refl)
value_begins (object ms) v h = (123, h.0 ++ 125 ∷ [], h.1, refl, refl)

first_item_value : (limit : ℕ) (fs : List Frame) (v r : List ℕ) → BeginsValue v → stop_of limit at_first_item fs (v ++ r) ≡ stop_of limit at_value (in_list ∷ fs) (v ++ r)
first_item_value limit fs v r h =
    ap (λ x. stop_of limit at_first_item fs (x ++ r)) h.2 ∙ first_item_as limit fs h.0 (h.1 ++ r) h.3 h.4 ∙ ap (λ x. stop_of limit at_value (in_list ∷ fs) (x ++ r)) (sym h.2)

-- what comes after a value in a list, an object or at the end
space_ends : (b : ℕ) → is_space b ≡ true → ends_number b ≡ true
space_ends b h = grind (arith, nat_tests)

pub ended_spaces : (space r : List ℕ) → IsSpace space → Ended r → Ended (space ++ r)
ended_spaces [] r h e = e
ended_spaces (b ∷ space) r h e = space_ends b (and_parts (is_space b) (list_all is_space space) h).0

pub ended_items : (ts : Items) (more r : List ℕ) → AreMoreItems ts more → Ended (more ++ 93 ∷ r)
ended_items no_items more r h = subst (λ x. Ended (x ++ 93 ∷ r)) (sym h) refl
ended_items (item t ts) more r h = subst (λ x. Ended (x ++ 93 ∷ r)) (sym h.2) refl

pub ended_members : (ms : Members) (more r : List ℕ) → AreMoreMembers ms more → Ended (more ++ 125 ∷ r)
ended_members no_members more r h = subst (λ x. Ended (x ++ 125 ∷ r)) (sym h) refl
ended_members (member n t ms) more r h = subst (λ x. Ended (x ++ 125 ∷ r)) (sym h.3) refl

-- regroupings
padded_then : (s v a r : List ℕ) → (s ++ (v ++ a)) ++ r ≡ s ++ (v ++ (a ++ r))
padded_then s v a r = simp append_assoc

-- a value with white space around it, at a place where one may come
padded_runs : (limit : ℕ) (fs : List Frame) (form : List ℕ → Type 0) (bytes r : List ℕ) → ((v rest : List ℕ) → form v → Ended rest → stop_of limit at_value fs (v ++ rest) ≡ stop_of limit behind_value fs rest) → IsPadded form bytes → Ended r
    → stop_of limit at_value fs (bytes ++ r) ≡ stop_of limit behind_value fs r
padded_runs limit fs form bytes r one p e =
    ap (λ x. stop_of limit at_value fs (x ++ r)) p.3
    ∙ ap (stop_of limit at_value fs) (padded_then p.0 p.1 p.2 r)
    ∙ stop_spaces limit at_value fs p.0 (p.1 ++ (p.2 ++ r)) tt p.4
    ∙ one p.1 (p.2 ++ r) p.5 (ended_spaces p.2 r p.6 e)
    ∙ stop_spaces limit behind_value fs p.2 r tt p.6

-- the same where a list's first item has to come
first_runs : (limit : ℕ) (fs : List Frame) (form : List ℕ → Type 0) (bytes r : List ℕ) → ((v rest : List ℕ) → form v → Ended rest → stop_of limit at_value (in_list ∷ fs) (v ++ rest) ≡ stop_of limit behind_value (in_list ∷ fs) rest) → ((v : List ℕ) → form v → BeginsValue v) → IsPadded form bytes → Ended r
    → stop_of limit at_first_item fs (bytes ++ r) ≡ stop_of limit behind_value (in_list ∷ fs) r
first_runs limit fs form bytes r one begins p e =
    ap (λ x. stop_of limit at_first_item fs (x ++ r)) p.3
    ∙ ap (stop_of limit at_first_item fs) (padded_then p.0 p.1 p.2 r)
    ∙ stop_spaces limit at_first_item fs p.0 (p.1 ++ (p.2 ++ r)) tt p.4
    ∙ first_item_value limit fs p.1 (p.2 ++ r) (begins p.1 p.5)
    ∙ one p.1 (p.2 ++ r) p.5 (ended_spaces p.2 r p.6 e)
    ∙ stop_spaces limit behind_value (in_list ∷ fs) p.2 r tt p.6

-- a name with white space around it
name_runs : (limit : ℕ) (m : Mode) (fs : List Frame) (n bytes r : List ℕ) → MaySpace m → step limit m fs 34 ≡ moves (in_text a_name (characters None)) fs → IsPadded (IsString n) bytes → stop_of limit m fs (bytes ++ r) ≡ stop_of limit behind_name fs r
name_runs limit m fs n bytes r may e p =
    ap (λ x. stop_of limit m fs (x ++ r)) p.3
    ∙ ap (stop_of limit m fs) (padded_then p.0 p.1 p.2 r)
    ∙ stop_spaces limit m fs p.0 (p.1 ++ (p.2 ++ r)) may p.4
    ∙ stop_string limit m a_name fs n p.1 (p.2 ++ r) e p.5
    ∙ stop_spaces limit behind_name fs p.2 r tt p.6

inside_then : (inside r : List ℕ) (first last : ℕ) → (first ∷ (inside ++ last ∷ [])) ++ r ≡ first ∷ (inside ++ last ∷ r)
inside_then inside r first last = ap (λ x. first ∷ x) (append_assoc inside (last ∷ []) r)

member_then : (name value more r : List ℕ) → (name ++ 58 ∷ (value ++ more)) ++ r ≡ name ++ 58 ∷ (value ++ (more ++ r))
member_then name value more r = simp append_assoc

mutual
  -- a value is read to its end
  pub stop_value : (t : Tree) (limit : ℕ) (fs : List Frame) (v r : List ℕ) → levels t ≤ limit - length fs → IsValue t v → Ended r → stop_of limit at_value fs (v ++ r) ≡ stop_of limit behind_value fs r
  stop_value null limit fs v r low h e =
      ap (λ x. stop_of limit at_value fs (x ++ r)) h
      ∙ stop_step limit at_value fs 110 (117 ∷ 108 ∷ 108 ∷ r) (moves (in_word 117 (108 ∷ 108 ∷ [])) fs) (null_step limit fs)
      ∙ stop_word limit fs 117 (108 ∷ 108 ∷ []) r
  stop_value (boolean true) limit fs v r low h e =
      ap (λ x. stop_of limit at_value fs (x ++ r)) h
      ∙ stop_step limit at_value fs 116 (114 ∷ 117 ∷ 101 ∷ r) (moves (in_word 114 (117 ∷ 101 ∷ [])) fs) (true_step limit fs)
      ∙ stop_word limit fs 114 (117 ∷ 101 ∷ []) r
  stop_value (boolean false) limit fs v r low h e =
      ap (λ x. stop_of limit at_value fs (x ++ r)) h
      ∙ stop_step limit at_value fs 102 (97 ∷ 108 ∷ 115 ∷ 101 ∷ r) (moves (in_word 97 (108 ∷ 115 ∷ 101 ∷ [])) fs) (false_step limit fs)
      ∙ stop_word limit fs 97 (108 ∷ 115 ∷ 101 ∷ []) r
  stop_value (number n) limit fs v r low h e =
      ap (λ x. stop_of limit at_value fs (x ++ r)) h.1 ∙ stop_numeral limit fs n r h.0 e
  stop_value (text t) limit fs v r low h e = stop_string limit at_value a_value fs t v r (quote_step limit fs) h
  stop_value (list ts) limit fs v r low h e =
      ap (λ x. stop_of limit at_value fs (x ++ r)) h.1
      ∙ ap (stop_of limit at_value fs) (inside_then h.0 r 91 93)
      ∙ stop_step limit at_value fs 91 (h.0 ++ 93 ∷ r) (moves at_first_item fs) (list_step limit fs (omega arith))
      ∙ stop_items ts limit fs h.0 r (omega arith) h.2
  stop_value (object ms) limit fs v r low h e =
      ap (λ x. stop_of limit at_value fs (x ++ r)) h.1
      ∙ ap (stop_of limit at_value fs) (inside_then h.0 r 123 125)
      ∙ stop_step limit at_value fs 123 (h.0 ++ 125 ∷ r) (moves at_first_name fs) (object_step limit fs (omega arith))
      ∙ stop_members ms limit fs h.0 r (omega arith) h.2

  stop_items : (ts : Items) (limit : ℕ) (fs : List Frame) (inside r : List ℕ) → items_levels ts ≤ limit - suc (length fs) → AreItems ts inside → stop_of limit at_first_item fs (inside ++ 93 ∷ r) ≡ stop_of limit behind_value fs r
  stop_items no_items limit fs inside r low h =
      stop_spaces limit at_first_item fs inside (93 ∷ r) tt h ∙ stop_step limit at_first_item fs 93 r (moves behind_value fs) (list_end_step limit fs)
  stop_items (item t ts) limit fs inside r low h =
      ap (λ x. stop_of limit at_first_item fs (x ++ 93 ∷ r)) h.2
      ∙ ap (stop_of limit at_first_item fs) (append_assoc h.0 h.1 (93 ∷ r))
      ∙ first_runs limit fs (IsValue t) h.0 (h.1 ++ 93 ∷ r) (λ v rest k e. stop_value t limit (in_list ∷ fs) v rest (omega arith) k e) (value_begins t) h.3 (ended_items ts h.1 r h.4)
      ∙ stop_more_items ts limit fs h.1 r (omega arith) h.4

  stop_more_items : (ts : Items) (limit : ℕ) (fs : List Frame) (more r : List ℕ) → items_levels ts ≤ limit - suc (length fs) → AreMoreItems ts more → stop_of limit behind_value (in_list ∷ fs) (more ++ 93 ∷ r) ≡ stop_of limit behind_value fs r
  stop_more_items no_items limit fs more r low h =
      ap (λ x. stop_of limit behind_value (in_list ∷ fs) (x ++ 93 ∷ r)) h ∙ stop_step limit behind_value (in_list ∷ fs) 93 r (moves behind_value fs) (item_end_step limit fs)
  stop_more_items (item t ts) limit fs more r low h =
      ap (λ x. stop_of limit behind_value (in_list ∷ fs) (x ++ 93 ∷ r)) h.2
      ∙ ap (λ x. stop_of limit behind_value (in_list ∷ fs) (44 ∷ x)) (append_assoc h.0 h.1 (93 ∷ r))
      ∙ stop_step limit behind_value (in_list ∷ fs) 44 (h.0 ++ (h.1 ++ 93 ∷ r)) (moves at_value (in_list ∷ fs)) (item_comma_step limit fs)
      ∙ padded_runs limit (in_list ∷ fs) (IsValue t) h.0 (h.1 ++ 93 ∷ r) (λ v rest k e. stop_value t limit (in_list ∷ fs) v rest (omega arith) k e) h.3 (ended_items ts h.1 r h.4)
      ∙ stop_more_items ts limit fs h.1 r (omega arith) h.4

  stop_members : (ms : Members) (limit : ℕ) (fs : List Frame) (inside r : List ℕ) → members_levels ms ≤ limit - suc (length fs) → AreMembers ms inside → stop_of limit at_first_name fs (inside ++ 125 ∷ r) ≡ stop_of limit behind_value fs r
  stop_members no_members limit fs inside r low h =
      stop_spaces limit at_first_name fs inside (125 ∷ r) tt h ∙ stop_step limit at_first_name fs 125 r (moves behind_value fs) (object_end_step limit fs)
  stop_members (member n t ms) limit fs inside r low h =
      ap (λ x. stop_of limit at_first_name fs (x ++ 125 ∷ r)) h.3
      ∙ ap (stop_of limit at_first_name fs) (member_then h.0 h.1 h.2 (125 ∷ r))
      ∙ name_runs limit at_first_name fs n h.0 (58 ∷ (h.1 ++ (h.2 ++ 125 ∷ r))) tt (first_name_step limit fs) h.4
      ∙ stop_step limit behind_name fs 58 (h.1 ++ (h.2 ++ 125 ∷ r)) (moves at_value (in_object ∷ fs)) (colon_step limit fs)
      ∙ padded_runs limit (in_object ∷ fs) (IsValue t) h.1 (h.2 ++ 125 ∷ r) (λ v rest k e. stop_value t limit (in_object ∷ fs) v rest (omega arith) k e) h.5 (ended_members ms h.2 r h.6)
      ∙ stop_more_members ms limit fs h.2 r (omega arith) h.6

  stop_more_members : (ms : Members) (limit : ℕ) (fs : List Frame) (more r : List ℕ) → members_levels ms ≤ limit - suc (length fs) → AreMoreMembers ms more → stop_of limit behind_value (in_object ∷ fs) (more ++ 125 ∷ r) ≡ stop_of limit behind_value fs r
  stop_more_members no_members limit fs more r low h =
      ap (λ x. stop_of limit behind_value (in_object ∷ fs) (x ++ 125 ∷ r)) h ∙ stop_step limit behind_value (in_object ∷ fs) 125 r (moves behind_value fs) (member_end_step limit fs)
  stop_more_members (member n t ms) limit fs more r low h =
      ap (λ x. stop_of limit behind_value (in_object ∷ fs) (x ++ 125 ∷ r)) h.3
      ∙ ap (λ x. stop_of limit behind_value (in_object ∷ fs) (44 ∷ x)) (member_then h.0 h.1 h.2 (125 ∷ r))
      ∙ stop_step limit behind_value (in_object ∷ fs) 44 (h.0 ++ 58 ∷ (h.1 ++ (h.2 ++ 125 ∷ r))) (moves at_name fs) (member_comma_step limit fs)
      ∙ name_runs limit at_name fs n h.0 (58 ∷ (h.1 ++ (h.2 ++ 125 ∷ r))) tt (name_step limit fs) h.4
      ∙ stop_step limit behind_name fs 58 (h.1 ++ (h.2 ++ 125 ∷ r)) (moves at_value (in_object ∷ fs)) (colon_step limit fs)
      ∙ padded_runs limit (in_object ∷ fs) (IsValue t) h.1 (h.2 ++ 125 ∷ r) (λ v rest k e. stop_value t limit (in_object ∷ fs) v rest (omega arith) k e) h.5 (ended_members ms h.2 r h.6)
      ∙ stop_more_members ms limit fs h.2 r (omega arith) h.6

behind_end : (limit : ℕ) → stop_of limit behind_value [] [] ≡ None
unfolding at_end
behind_end limit = stop_end limit behind_value []

-- a text doesn't stop
pub text_goes : (limit : ℕ) (bytes : List ℕ) (tree : Tree) → IsJsonTo limit bytes tree → stop_of limit at_value [] bytes ≡ None
text_goes limit bytes tree j =
    ap (stop_of limit at_value []) (sym (append-nil bytes))
    ∙ padded_runs limit [] (IsValue j.written) bytes [] (λ v rest k e. stop_value j.written limit [] v rest (omega (arith, j.shallow)) k e) j.value tt
    ∙ behind_end limit
