-- The parts of a value that is read.
use Rattle.std.proofs.Common.{◌≡◌, ◌≢◌, ℕ, zero, suc, ◌+◌, ◌-◌, ◌<◌, List, [], ◌∷◌, ◌++◌, length, take, drop, false, Some, None, refl, sym, ap, ◌∙◌, subst, arith, eqb, append_assoc, append-nil}
use Rattle.std.proofs.lemmas.Bool.{ne_eqb, le-ltb, cond-false}
use Rattle.std.specs.List.{flat_map, prefix_len}
use Rattle.adx_json.specs.Tree.{Tree, text, number, list, object, Items, Members, levels}
use Rattle.adx_units.specs.Scans.{Stops}
use Rattle.adx_json.specs.Grammar.{is_space, IsPadded, IsValue, piece_bytes, resolved, last_of_each, IsJson}
use Rattle.adx_json.specs.Machine.{Frame, in_object, characters, Role, a_name, a_value, Mode, at_value, at_first_item, behind_value, at_first_name, at_name, behind_name, in_word, in_number, in_text, moves, stuck, too_deep, step, stop_of, at_end, Tells}
use Rattle.adx_json.specs.declared.number.Numeral.TheVariants.{Start}
use Rattle.adx_json.specs.declared.fault.Stop.{Stop}
use Rattle.adx_json.specs.declared.fault.Stop.TheVariants.{Syntax, Depth}
use Rattle.adx_json.specs.Found.{StopsAt, StopsInside, StopsWord, FoundSpace, FoundNumber, FoundText, FoundValue, FoundElement, FoundItems, FoundName, FoundMember, FoundMembers}
use Rattle.adx_units.proofs.Bare.{run_passes, run_stops}
use Rattle.adx_json.proofs.TextParts.{tells_same}
use Rattle.adx_json.proofs.Stops.{stop_step, stop_end, stop_spaces, stop_word, list_step, object_step, quote_step, name_step, colon_step, deep_list, deep_object, OtherByte, value_as_number, MaySpace}

pub empty_of : (bytes : List ℕ) → length bytes ≡ 0 → bytes ≡ []
empty_of [] e = refl
empty_of (b ∷ bytes) e = absurd (omega arith)

-- white space
take_drop : (n : ℕ) (bytes : List ℕ) → bytes ≡ take n bytes ++ drop n bytes
take_drop zero bytes = refl
take_drop (suc n) [] = refl
take_drop (suc n) (b ∷ bytes) = ap (λ x. b ∷ x) (take_drop n bytes)

pub space_found : (bytes rest : List ℕ) (n : ℕ) → n ≡ prefix_len is_space bytes → rest ≡ drop n bytes → FoundSpace bytes rest
space_found bytes rest n e back =
    let cut : rest ≡ drop (prefix_len is_space bytes) bytes = back ∙ ap (λ k. drop k bytes) e in
    record {
      space = take (prefix_len is_space bytes) bytes;
      whole = take_drop (prefix_len is_space bytes) bytes ∙ ap (λ x. take (prefix_len is_space bytes) bytes ++ x) (sym cut);
      is = run_passes is_space bytes;
      ends = subst (Stops is_space) (sym cut) (run_stops is_space bytes);
    }

pub space_goes : (bytes rest : List ℕ) (m : Mode) (fs : List Frame) → MaySpace m → FoundSpace bytes rest → stop_of 64 m fs bytes ≡ stop_of 64 m fs rest
space_goes bytes rest m fs may s = ap (stop_of 64 m fs) s.whole ∙ stop_spaces 64 m fs s.space rest may s.is

-- modes at the end of the bytes
value_end : (fs : List Frame) → at_end at_value fs ≡ Some (Syntax 0)
unfolding at_end
value_end fs = refl

pub value_empty : (n : ℕ) (bytes : List ℕ) → length bytes ≡ 0 → (fs : List Frame) → length fs + n ≡ 64 → stop_of 64 at_value fs bytes ≡ Some (Syntax 0)
value_empty n bytes e fs low = ap (stop_of 64 at_value fs) (empty_of bytes e) ∙ stop_end 64 at_value fs ∙ value_end fs

-- a text
pub text_value : (n : ℕ) (bytes body t rest : List ℕ) → bytes ≡ 34 ∷ body → FoundText body t rest → FoundValue n bytes (text t) rest
text_value n bytes body t rest first f = record {
  written = text t;
  value = 34 ∷ (flat_map piece_bytes f.pieces ++ 34 ∷ []);
  whole = first ∙ ap (λ x. 34 ∷ x) (f.whole ∙ sym (append_assoc (flat_map piece_bytes f.pieces) (34 ∷ []) rest));
  is = record { pieces = f.pieces; each = f.each; spelled = refl; means = f.means };
  shallow = omega arith;
  means = refl;
  goes = λ fs low. quote_goes fs ∙ f.goes a_value fs;
}
  where
    quote_goes : (fs : List Frame) → stop_of 64 at_value fs bytes ≡ stop_of 64 (in_text a_value (characters None)) fs body
    quote_goes fs = ap (stop_of 64 at_value fs) first ∙ stop_step 64 at_value fs 34 body (moves (in_text a_value (characters None)) fs) (quote_step 64 fs)

pub text_refused : (n : ℕ) (bytes body : List ℕ) (e : Stop) → bytes ≡ 34 ∷ body → ((role : Role) (fs : List Frame) → Tells e (stop_of 64 (in_text role (characters None)) fs body)) → StopsAt e n at_value bytes
text_refused n bytes body e first h fs low =
    tells_same e (stop_of 64 at_value fs bytes) (stop_of 64 (in_text a_value (characters None)) fs body)
    (ap (stop_of 64 at_value fs) first ∙ stop_step 64 at_value fs 34 body (moves (in_text a_value (characters None)) fs) (quote_step 64 fs)) (h a_value fs)

-- a list and an object
list_goes : (bytes body : List ℕ) (fs : List Frame) → bytes ≡ 91 ∷ body → length fs < 64 → stop_of 64 at_value fs bytes ≡ stop_of 64 at_first_item fs body
list_goes bytes body fs first room = ap (stop_of 64 at_value fs) first ∙ stop_step 64 at_value fs 91 body (moves at_first_item fs) (list_step 64 fs room)

object_goes : (bytes body : List ℕ) (fs : List Frame) → bytes ≡ 123 ∷ body → length fs < 64 → stop_of 64 at_value fs bytes ≡ stop_of 64 at_first_name fs body
object_goes bytes body fs first room = ap (stop_of 64 at_value fs) first ∙ stop_step 64 at_value fs 123 body (moves at_first_name fs) (object_step 64 fs room)

pub list_value : (n : ℕ) (bytes body : List ℕ) (ts : Items) (rest : List ℕ) → bytes ≡ 91 ∷ body → 0 < n → FoundItems (n - 1) body ts rest → FoundValue n bytes (list ts) rest
list_value n bytes body ts rest first some f = record {
  written = list f.written;
  value = 91 ∷ (f.inside ++ 93 ∷ []);
  whole = first ∙ ap (λ x. 91 ∷ x) (f.whole ∙ sym (append_assoc f.inside (93 ∷ []) rest));
  is = (f.inside, refl, f.are);
  shallow = omega (arith, f.shallow);
  means = ap list f.means;
  goes = λ fs low. list_goes bytes body fs first (omega arith) ∙ f.goes fs (omega arith);
}

pub list_refused : (n : ℕ) (bytes body : List ℕ) (e : Stop) → bytes ≡ 91 ∷ body → 0 < n → StopsInside e (n - 1) at_first_item body → StopsAt e n at_value bytes
list_refused n bytes body e first some h fs low =
    tells_same e (stop_of 64 at_value fs bytes) (stop_of 64 at_first_item fs body) (list_goes bytes body fs first (omega arith)) (h fs (omega arith))

pub list_deep : (n : ℕ) (bytes body : List ℕ) → bytes ≡ 91 ∷ body → n ≡ 0 → (fs : List Frame) → length fs + n ≡ 64 → stop_of 64 at_value fs bytes ≡ Some (Depth (length bytes))
list_deep n bytes body first none fs low =
    ap (stop_of 64 at_value fs) first ∙ stop_step 64 at_value fs 91 body too_deep (deep_list 64 fs (le-ltb (length fs) 64 (omega arith))) ∙ ap (λ k. Some (Depth k)) (sym (ap length first))

pub object_value : (n : ℕ) (bytes body : List ℕ) (ms : Members) (rest : List ℕ) → bytes ≡ 123 ∷ body → 0 < n → FoundMembers (n - 1) body ms rest → FoundValue n bytes (object (last_of_each ms)) rest
object_value n bytes body ms rest first some f = record {
  written = object f.written;
  value = 123 ∷ (f.inside ++ 125 ∷ []);
  whole = first ∙ ap (λ x. 123 ∷ x) (f.whole ∙ sym (append_assoc f.inside (125 ∷ []) rest));
  is = (f.inside, refl, f.are);
  shallow = omega (arith, f.shallow);
  means = ap (λ m. object (last_of_each m)) f.means;
  goes = λ fs low. object_goes bytes body fs first (omega arith) ∙ f.goes fs (omega arith);
}

pub object_refused : (n : ℕ) (bytes body : List ℕ) (e : Stop) → bytes ≡ 123 ∷ body → 0 < n → StopsInside e (n - 1) at_first_name body → StopsAt e n at_value bytes
object_refused n bytes body e first some h fs low =
    tells_same e (stop_of 64 at_value fs bytes) (stop_of 64 at_first_name fs body) (object_goes bytes body fs first (omega arith)) (h fs (omega arith))

pub object_deep : (n : ℕ) (bytes body : List ℕ) → bytes ≡ 123 ∷ body → n ≡ 0 → (fs : List Frame) → length fs + n ≡ 64 → stop_of 64 at_value fs bytes ≡ Some (Depth (length bytes))
object_deep n bytes body first none fs low =
    ap (stop_of 64 at_value fs) first ∙ stop_step 64 at_value fs 123 body too_deep (deep_object 64 fs (le-ltb (length fs) 64 (omega arith))) ∙ ap (λ k. Some (Depth k)) (sym (ap length first))

-- a word
pub word_value : (n : ℕ) (t : Tree) (bytes body rest : List ℕ) (b c : ℕ) (cs : List ℕ) → ((fs : List Frame) → step 64 at_value fs b ≡ moves (in_word c cs) fs) → IsValue t (b ∷ c ∷ cs) → levels t ≡ 0 → t ≡ resolved t → bytes ≡ b ∷ body → body ≡ (c ∷ cs) ++ rest → FoundValue n bytes t rest
word_value n t bytes body rest b c cs steps is flat same first word = record {
  written = t;
  value = b ∷ c ∷ cs;
  whole = first ∙ ap (λ x. b ∷ x) word;
  is = is;
  shallow = omega arith;
  means = same;
  goes = λ fs low. ap (stop_of 64 at_value fs) first ∙ stop_step 64 at_value fs b body (moves (in_word c cs) fs) (steps fs) ∙ ap (stop_of 64 (in_word c cs) fs) word ∙ stop_word 64 fs c cs rest;
}

pub word_refused : (n : ℕ) (bytes body : List ℕ) (b c : ℕ) (cs : List ℕ) (e : Stop) → ((fs : List Frame) → step 64 at_value fs b ≡ moves (in_word c cs) fs) → bytes ≡ b ∷ body → StopsWord e body (c ∷ cs) → StopsAt e n at_value bytes
word_refused n bytes body b c cs e steps first h fs low =
    tells_same e (stop_of 64 at_value fs bytes) (stop_of 64 (in_word c cs) fs body) (ap (stop_of 64 at_value fs) first ∙ stop_step 64 at_value fs b body (moves (in_word c cs) fs) (steps fs)) (h c cs fs refl)

-- a number
pub other_byte : (bytes : List ℕ) (b : ℕ) (body : List ℕ) → bytes ≡ b ∷ body → Stops is_space bytes → (b ≡ 34 → ⊥) → (b ≡ 91 → ⊥) → (b ≡ 123 → ⊥) → (b ≡ 116 → ⊥) → (b ≡ 102 → ⊥) → (b ≡ 110 → ⊥) → OtherByte b
other_byte bytes b body first stops q l o t f n = record {
  space = subst (Stops is_space) first stops;
  quote = ne_eqb b 34 q;
  bracket = ne_eqb b 91 l;
  brace = ne_eqb b 123 o;
  t = ne_eqb b 116 t;
  f = ne_eqb b 102 f;
  n = ne_eqb b 110 n;
}

pub number_goes : (bytes : List ℕ) (b : ℕ) (body : List ℕ) (fs : List Frame) → bytes ≡ b ∷ body → OtherByte b → stop_of 64 at_value fs bytes ≡ stop_of 64 (in_number Start) fs bytes
number_goes bytes b body fs first o = ap (stop_of 64 at_value fs) first ∙ value_as_number 64 fs b body o ∙ ap (stop_of 64 (in_number Start) fs) (sym first)

pub number_value : (n : ℕ) (bytes : List ℕ) (b : ℕ) (body d rest : List ℕ) → bytes ≡ b ∷ body → OtherByte b → FoundNumber bytes d rest → FoundValue n bytes (number d) rest
number_value n bytes b body d rest first o f = record {
  written = number d;
  value = d;
  whole = f.whole;
  is = (f.is, refl);
  shallow = omega arith;
  means = refl;
  goes = λ fs low. number_goes bytes b body fs first o ∙ f.goes fs;
}

pub number_refused : (n : ℕ) (bytes : List ℕ) (b : ℕ) (body : List ℕ) (e : Stop) → bytes ≡ b ∷ body → OtherByte b → ((fs : List Frame) → Tells e (stop_of 64 (in_number Start) fs bytes)) → StopsAt e n at_value bytes
number_refused n bytes b body e first o h fs low =
    tells_same e (stop_of 64 at_value fs bytes) (stop_of 64 (in_number Start) fs bytes) (number_goes bytes b body fs first o) (h fs)

-- white space around a value
pub element_found : (n : ℕ) (bytes start : List ℕ) (t : Tree) (rest end : List ℕ) → FoundSpace bytes start → FoundValue n start t rest → FoundSpace rest end → FoundElement n bytes t end
element_found n bytes start t rest end s f after = record {
  written = f.written;
  value = s.space ++ (f.value ++ after.space);
  whole = s.whole ∙ ap (λ x. s.space ++ x) (f.whole ∙ ap (λ x. f.value ++ x) after.whole) ∙ regroup s.space f.value after.space end;
  is = (s.space, f.value, after.space, refl, s.is, f.is, after.is);
  shallow = f.shallow;
  means = f.means;
  ends = after.ends;
  goes = λ fs low. space_goes bytes start at_value fs tt s ∙ f.goes fs low ∙ space_goes rest end behind_value fs tt after;
}
  where
    regroup : (a b c d : List ℕ) → a ++ (b ++ (c ++ d)) ≡ (a ++ (b ++ c)) ++ d
    regroup a b c d = simp append_assoc

pub element_refused : (n : ℕ) (bytes start : List ℕ) (e : Stop) → FoundSpace bytes start → StopsAt e n at_value start → StopsAt e n at_value bytes
element_refused n bytes start e s h fs low = tells_same e (stop_of 64 at_value fs bytes) (stop_of 64 at_value fs start) (space_goes bytes start at_value fs tt s) (h fs low)

-- a member's name
name_end : (fs : List Frame) → at_end at_name fs ≡ Some (Syntax 0)
unfolding at_end
name_end fs = refl

colon_end : (fs : List Frame) → at_end behind_name fs ≡ Some (Syntax 0)
unfolding at_end
colon_end fs = refl

name_stuck : (fs : List Frame) (b : ℕ) → is_space b ≡ false → eqb b 34 ≡ false → step 64 at_name fs b ≡ stuck
unfolding step
name_stuck fs b s q = cond-false _ _ _ s ∙ cond-false _ _ _ q

colon_stuck : (fs : List Frame) (b : ℕ) → is_space b ≡ false → eqb b 58 ≡ false → step 64 behind_name fs b ≡ stuck
unfolding step
colon_stuck fs b s q = cond-false _ _ _ s ∙ cond-false _ _ _ q

no_quote : (fs : List Frame) (start : List ℕ) → Stops is_space start → ((rest : List ℕ) → start ≢ 34 ∷ rest) → stop_of 64 at_name fs start ≡ Some (Syntax (length start))
no_quote fs [] s n = stop_end 64 at_name fs ∙ name_end fs
no_quote fs (b ∷ rest) s n = stop_step 64 at_name fs b rest stuck (name_stuck fs b s (ne_eqb b 34 (λ e. n rest (ap (λ x. x ∷ rest) e))))

no_colon : (fs : List Frame) (start : List ℕ) → Stops is_space start → ((rest : List ℕ) → start ≢ 58 ∷ rest) → stop_of 64 behind_name fs start ≡ Some (Syntax (length start))
no_colon fs [] s n = stop_end 64 behind_name fs ∙ colon_end fs
no_colon fs (b ∷ rest) s n = stop_step 64 behind_name fs b rest stuck (colon_stuck fs b s (ne_eqb b 58 (λ e. n rest (ap (λ x. x ∷ rest) e))))

pub name_unquoted : (bytes start : List ℕ) → FoundSpace bytes start → ((rest : List ℕ) → start ≢ 34 ∷ rest) → (fs : List Frame) → stop_of 64 at_name fs bytes ≡ Some (Syntax (length start))
name_unquoted bytes start s n fs = space_goes bytes start at_name fs tt s ∙ no_quote fs start s.ends n

pub name_goes : (bytes start body : List ℕ) → FoundSpace bytes start → start ≡ 34 ∷ body → (fs : List Frame) → stop_of 64 at_name fs bytes ≡ stop_of 64 (in_text a_name (characters None)) fs body
name_goes bytes start body s first fs = space_goes bytes start at_name fs tt s ∙ ap (stop_of 64 at_name fs) first ∙ stop_step 64 at_name fs 34 body (moves (in_text a_name (characters None)) fs) (name_step 64 fs)

pub name_uncoloned : (bytes start body t rest behind : List ℕ) → FoundSpace bytes start → start ≡ 34 ∷ body → FoundText body t rest → FoundSpace rest behind → ((more : List ℕ) → behind ≢ 58 ∷ more) → (fs : List Frame) → stop_of 64 at_name fs bytes ≡ Some (Syntax (length behind))
name_uncoloned bytes start body t rest behind s first f after n fs =
    name_goes bytes start body s first fs ∙ f.goes a_name fs ∙ space_goes rest behind behind_name fs tt after ∙ no_colon fs behind after.ends n

pub name_found : (bytes start body t rest behind value : List ℕ) → FoundSpace bytes start → start ≡ 34 ∷ body → FoundText body t rest → FoundSpace rest behind → behind ≡ 58 ∷ value → FoundName bytes t value
name_found bytes start body t rest behind value s first f after colon = record {
  spelled = s.space ++ ((34 ∷ (flat_map piece_bytes f.pieces ++ 34 ∷ [])) ++ after.space);
  whole = s.whole ∙ ap (λ x. s.space ++ x) (first ∙ ap (λ x. 34 ∷ x) (f.whole ∙ ap (λ x. flat_map piece_bytes f.pieces ++ 34 ∷ x) (after.whole ∙ ap (λ x. after.space ++ x) colon))) ∙ regroup s.space (flat_map piece_bytes f.pieces) after.space value;
  is = (s.space, 34 ∷ (flat_map piece_bytes f.pieces ++ 34 ∷ []), after.space, refl, s.is, record { pieces = f.pieces; each = f.each; spelled = refl; means = f.means }, after.is);
  goes = λ fs. name_goes bytes start body s first fs ∙ f.goes a_name fs ∙ space_goes rest behind behind_name fs tt after ∙ colon_goes fs;
}
  where
    regroup : (a p b v : List ℕ) → a ++ 34 ∷ (p ++ 34 ∷ (b ++ 58 ∷ v)) ≡ (a ++ ((34 ∷ (p ++ 34 ∷ [])) ++ b)) ++ 58 ∷ v
    regroup a p b v = simp append_assoc

    colon_goes : (fs : List Frame) → stop_of 64 behind_name fs behind ≡ stop_of 64 at_value (in_object ∷ fs) value
    colon_goes fs = ap (stop_of 64 behind_name fs) colon ∙ stop_step 64 behind_name fs 58 value (moves at_value (in_object ∷ fs)) (colon_step 64 fs)

-- a member
pub member_found : (n : ℕ) (bytes t rest : List ℕ) (v : Tree) (end : List ℕ) → FoundName bytes t rest → FoundElement n rest v end → FoundMember n bytes t v end
member_found n bytes t rest v end f e = record {
  written = e.written;
  spelled = f.spelled;
  value = e.value;
  whole = f.whole ∙ ap (λ x. f.spelled ++ 58 ∷ x) e.whole;
  named = f.is;
  is = e.is;
  shallow = e.shallow;
  means = e.means;
  ends = e.ends;
  goes = λ fs low. f.goes fs ∙ e.goes (in_object ∷ fs) low;
}

-- bytes after the whole value
behind_stuck : (b : ℕ) → is_space b ≡ false → step 64 behind_value [] b ≡ stuck
unfolding step
behind_stuck b s = cond-false _ _ _ s

rest_stops : (rest : List ℕ) → Stops is_space rest → (length rest ≡ 0 → ⊥) → stop_of 64 behind_value [] rest ≡ Some (Syntax (length rest))
rest_stops [] s some = absurd (some refl)
rest_stops (b ∷ rest) s some = stop_step 64 behind_value [] b rest stuck (behind_stuck b s)

pub whole_refused : (bytes : List ℕ) (t : Tree) (rest : List ℕ) → FoundElement 64 bytes t rest → (length rest ≡ 0 → ⊥) → stop_of 64 at_value [] bytes ≡ Some (Syntax (length rest))
whole_refused bytes t rest f some = f.goes [] refl ∙ rest_stops rest f.ends some

pub whole_found : (bytes : List ℕ) (t : Tree) (rest : List ℕ) → FoundElement 64 bytes t rest → length rest ≡ 0 → IsJson bytes t
whole_found bytes t rest f none = record {
  written = f.written;
  value = subst (IsPadded (IsValue f.written)) (sym (f.whole ∙ ap (λ x. f.value ++ x) (empty_of rest none) ∙ append-nil f.value)) f.is;
  shallow = f.shallow;
  means = f.means;
}
