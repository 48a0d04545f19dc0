-- Items and words that are read one after another.
use Rattle.std.proofs.Common.{◌≡◌, ◌≢◌, ℕ, zero, suc, ◌+◌, ◌<◌, ◌≤◌, List, [], ◌∷◌, ◌++◌, length, take, drop, map, false, Some, refl, sym, ap, ap₂, ◌∙◌, subst, arith, eqb, append_assoc, append-nil, add-one}
use Rattle.std.proofs.lemmas.Bool.{ne_eqb, cond-false}
use Rattle.adx_json.specs.Tree.{Tree, Items, no_items, item, items_levels, items_of}
use Rattle.adx_units.specs.Scans.{Stops}
use Rattle.adx_json.specs.Grammar.{is_space, AreItems, resolved, resolved_items}
use Rattle.adx_json.specs.Machine.{Frame, in_list, at_value, at_first_item, behind_value, in_word, moves, stuck, step, stop_of, at_end, Tells}
use Rattle.adx_json.specs.declared.fault.Stop.{Stop}
use Rattle.adx_json.specs.declared.fault.Stop.TheVariants.{Syntax}
use Rattle.adx_json.specs.Found.{StopsAt, StopsInside, StopsWord, FoundSpace, FoundElement, FoundItems}
use Rattle.adx_json.proofs.TextParts.{tells_same}
use Rattle.adx_json.proofs.Stops.{stop_step, stop_end, next_letter, list_end_step, item_end_step, item_comma_step, first_item_as}
use Rattle.adx_json.proofs.ReaderParts.{empty_of, space_goes}

-- a word up to one of its bytes
pub record WordSoFar (bytes word left : List ℕ) (i : ℕ) : Type 0 where
  pub whole : bytes ≡ take i word ++ left
  pub stops : (e : Stop) → StopsWord e left (drop i word) → 0 < length (drop i word) → StopsWord e bytes word

take_one : (i : ℕ) (word : List ℕ) (c : ℕ) (cs : List ℕ) → drop i word ≡ c ∷ cs → take (suc i) word ≡ take i word ++ c ∷ []
take_one zero [] c cs e = cc
take_one zero (d ∷ word) c cs e = let same : d ≡ c = cc in ap (λ x. x ∷ []) same
take_one (suc i) [] c cs e = cc
take_one (suc i) (d ∷ word) c cs e = ap (λ x. d ∷ x) (take_one i word c cs e)

drop_one : (i : ℕ) (word : List ℕ) (c : ℕ) (cs : List ℕ) → drop i word ≡ c ∷ cs → drop (suc i) word ≡ cs
drop_one zero [] c cs e = cc
drop_one zero (d ∷ word) c cs e = cc
drop_one (suc i) [] c cs e = cc
drop_one (suc i) (d ∷ word) c cs e = drop_one i word c cs e

-- one byte more of it
letter_stops : (e : Stop) (b : ℕ) (rest cs : List ℕ) → 0 < length cs → StopsWord e rest cs → StopsWord e (b ∷ rest) (b ∷ cs)
letter_stops e b rest [] some h = absurd (omega arith)
letter_stops e b rest (d ∷ ds) some h = λ c cs fs is.
    let head : b ≡ c = cc in
    let tail : d ∷ ds ≡ cs = cc in
    subst (λ x. Tells e (stop_of 64 (in_word x cs) fs (b ∷ rest))) head
    (subst (λ x. Tells e (stop_of 64 (in_word b x) fs (b ∷ rest))) tail
    (tells_same e (stop_of 64 (in_word b (d ∷ ds)) fs (b ∷ rest)) (stop_of 64 (in_word d ds) fs rest) (stop_step 64 (in_word b (d ∷ ds)) fs b rest (moves (in_word d ds) fs) (next_letter 64 fs b d ds)) (h d ds fs refl)))

pub word_more : (bytes word left : List ℕ) (i c : ℕ) (cs rest : List ℕ) → WordSoFar bytes word left i → drop i word ≡ c ∷ cs → left ≡ c ∷ rest → WordSoFar bytes word rest (i + 1)
word_more bytes word left i c cs rest s is first = subst (WordSoFar bytes word rest) (sym (add-one i)) (record {
  whole = s.whole ∙ ap (λ x. take i word ++ x) first ∙ sym (append_assoc (take i word) (c ∷ []) rest) ∙ ap (λ x. x ++ rest) (sym (take_one i word c cs is));
  stops = λ e h some.
      let behind = drop_one i word c cs is in
      let later : 0 < length cs = subst (λ x. 0 < length x) behind some in
      let here : StopsWord e left (drop i word) = subst (λ x. StopsWord e x (drop i word)) (sym first) (subst (StopsWord e (c ∷ rest)) (sym is) (letter_stops e c rest cs later (subst (StopsWord e rest) behind h))) in
      s.stops e here (subst (λ x. 0 < length x) (sym is) (omega arith));
})

word_end : (fs : List Frame) (c : ℕ) (cs : List ℕ) → at_end (in_word c cs) fs ≡ Some (Syntax 0)
unfolding at_end
word_end fs c cs = refl

letter_stuck : (fs : List Frame) (c : ℕ) (cs : List ℕ) (b : ℕ) → eqb b c ≡ false → step 64 (in_word c cs) fs b ≡ stuck
unfolding step
letter_stuck fs c [] b n = cond-false _ _ _ n
letter_stuck fs c (d ∷ ds) b n = cond-false _ _ _ n

pub word_cut : (bytes word left : List ℕ) (i c : ℕ) (cs : List ℕ) → WordSoFar bytes word left i → drop i word ≡ c ∷ cs → length left ≡ 0 → StopsWord (Syntax 0) bytes word
word_cut bytes word left i c cs s is none =
    s.stops (Syntax 0) (λ d ds fs same. ap (stop_of 64 (in_word d ds) fs) (empty_of left none) ∙ stop_end 64 (in_word d ds) fs ∙ word_end fs d ds) (subst (λ x. 0 < length x) (sym is) (omega arith))

pub word_wrong : (bytes word left : List ℕ) (i c : ℕ) (cs : List ℕ) (b : ℕ) (rest : List ℕ) → WordSoFar bytes word left i → drop i word ≡ c ∷ cs → left ≡ b ∷ rest → (b ≡ c → ⊥) → StopsWord (Syntax (length left)) bytes word
word_wrong bytes word left i c cs b rest s is first n =
    s.stops (Syntax (length left)) (λ d ds fs same.
    let head : c ≡ d = (let both : c ∷ cs ≡ d ∷ ds = sym is ∙ same in cc) in
    ap (stop_of 64 (in_word d ds) fs) first ∙ stop_step 64 (in_word d ds) fs b rest stuck (letter_stuck fs d ds b (ne_eqb b d (λ e. n (e ∙ sym head)))) ∙ ap (λ k. Some (Syntax k)) (sym (ap length first)))
    (subst (λ x. 0 < length x) (sym is) (omega arith))

-- items that were read, before others
abbrev pub before_items : List Tree → Items → Items
before_items [] us = us
before_items (t ∷ ts) us = item t (before_items ts us)

before_more : (ts : List Tree) (t : Tree) (us : Items) → before_items (ts ++ t ∷ []) us ≡ before_items ts (item t us)
before_more [] t us = refl
before_more (x ∷ ts) t us = ap (item x) (before_more ts t us)

before_levels : (n : ℕ) (ts : List Tree) (us : Items) → items_levels (before_items ts no_items) ≤ n → items_levels us ≤ n → items_levels (before_items ts us) ≤ n
before_levels n [] us h k = k
before_levels n (t ∷ ts) us h k =
    let later : items_levels (before_items ts us) ≤ n = before_levels n ts us (omega arith) k in
    omega arith

before_resolved : (ts : List Tree) (us : Items) → resolved_items (before_items ts us) ≡ before_items (map resolved ts) (resolved_items us)
before_resolved [] us = refl
before_resolved (t ∷ ts) us = ap (item (resolved t)) (before_resolved ts us)

items_is : (ts : List Tree) (t : Tree) → items_of (ts ++ t ∷ []) ≡ before_items ts (item t no_items)
items_is [] t = refl
items_is (x ∷ ts) t = ap (item x) (items_is ts t)

-- the items so far, where a further one has to come
pub record ItemsSoFar (n : ℕ) (bytes : List ℕ) (ts : List Tree) (left : List ℕ) : Type 0 where
  pub written : List Tree
  pub inside : List ℕ
  pub whole : bytes ≡ inside ++ left
  pub joins : (t : Tree) (us : Items) (more : List ℕ) → AreItems (item t us) more → AreItems (before_items written (item t us)) (inside ++ more)
  pub shallow : items_levels (before_items written no_items) ≤ n
  pub means : ts ≡ map resolved written
  pub goes : (fs : List Frame) → suc (length fs) + n ≡ 64 → stop_of 64 at_first_item fs bytes ≡ stop_of 64 at_value (in_list ∷ fs) left

-- where no bracket closes the list at once, a first item has to come
first_end : (fs : List Frame) → at_end at_first_item fs ≡ at_end at_value (in_list ∷ fs)
unfolding at_end
first_end fs = refl

first_as : (fs : List Frame) (start : List ℕ) → Stops is_space start → ((rest : List ℕ) → start ≢ 93 ∷ rest) → stop_of 64 at_first_item fs start ≡ stop_of 64 at_value (in_list ∷ fs) start
first_as fs [] s n = stop_end 64 at_first_item fs ∙ first_end fs ∙ sym (stop_end 64 at_value (in_list ∷ fs))
first_as fs (b ∷ rest) s n = first_item_as 64 fs b rest s (ne_eqb b 93 (λ e. n rest (ap (λ x. x ∷ rest) e)))

pub items_start : (n : ℕ) (bytes start : List ℕ) → FoundSpace bytes start → ((rest : List ℕ) → start ≢ 93 ∷ rest) → ItemsSoFar n bytes [] bytes
items_start n bytes start s none = record {
  written = [];
  inside = [];
  whole = refl;
  joins = λ t us more h. h;
  shallow = omega arith;
  means = refl;
  goes = λ fs low. space_goes bytes start at_first_item fs tt s ∙ first_as fs start s.ends none ∙ sym (space_goes bytes start at_value (in_list ∷ fs) tt s);
}

pub items_none : (n : ℕ) (bytes start rest : List ℕ) → FoundSpace bytes start → start ≡ 93 ∷ rest → FoundItems n bytes no_items rest
items_none n bytes start rest s first = record {
  written = no_items;
  inside = s.space;
  whole = s.whole ∙ ap (λ x. s.space ++ x) first;
  are = s.is;
  shallow = omega arith;
  means = refl;
  goes = λ fs low. space_goes bytes start at_first_item fs tt s ∙ ap (stop_of 64 at_first_item fs) first ∙ stop_step 64 at_first_item fs 93 rest (moves behind_value fs) (list_end_step 64 fs);
}

-- a further item
item_goes : (n : ℕ) (left : List ℕ) (v : Tree) (rest : List ℕ) (fs : List Frame) → suc (length fs) + n ≡ 64 → FoundElement n left v rest → stop_of 64 at_value (in_list ∷ fs) left ≡ stop_of 64 behind_value (in_list ∷ fs) rest
item_goes n left v rest fs low e = e.goes (in_list ∷ fs) low

map_more : (ts : List Tree) (t : Tree) → map resolved (ts ++ t ∷ []) ≡ map resolved ts ++ resolved t ∷ []
map_more [] t = refl
map_more (x ∷ ts) t = ap (λ l. resolved x ∷ l) (map_more ts t)

pub items_more : (n : ℕ) (bytes : List ℕ) (ts : List Tree) (left : List ℕ) (v : Tree) (rest more : List ℕ) → ItemsSoFar n bytes ts left → FoundElement n left v rest → rest ≡ 44 ∷ more → ItemsSoFar n bytes (ts ++ v ∷ []) more
items_more n bytes ts left v rest more s e comma = record {
  written = s.written ++ e.written ∷ [];
  inside = s.inside ++ (e.value ++ 44 ∷ []);
  whole = s.whole ∙ ap (λ x. s.inside ++ x) (e.whole ∙ ap (λ x. e.value ++ x) comma) ∙ regroup s.inside e.value more;
  joins = λ t us m h.
      let joined = s.joins e.written (item t us) (e.value ++ 44 ∷ m) (e.value, 44 ∷ m, refl, e.is, (h.0, h.1, ap (λ x. 44 ∷ x) h.2, h.3, h.4)) in
      subst (λ x. AreItems x ((s.inside ++ (e.value ++ 44 ∷ [])) ++ m)) (sym (before_more s.written e.written (item t us)))
      (subst (AreItems (before_items s.written (item e.written (item t us)))) (regroup s.inside e.value m) joined);
  shallow = subst (λ x. items_levels x ≤ n) (sym (before_more s.written e.written no_items)) (before_levels n s.written (item e.written no_items) s.shallow (omega (arith, e.shallow)));
  means = ap₂ (λ l t. l ++ t ∷ []) s.means e.means ∙ sym (map_more s.written e.written);
  goes = λ fs low. s.goes fs low ∙ item_goes n left v rest fs low e ∙ ap (stop_of 64 behind_value (in_list ∷ fs)) comma ∙ stop_step 64 behind_value (in_list ∷ fs) 44 more (moves at_value (in_list ∷ fs)) (item_comma_step 64 fs);
}
  where
    regroup : (i v m : List ℕ) → i ++ (v ++ 44 ∷ m) ≡ (i ++ (v ++ 44 ∷ [])) ++ m
    regroup i v m = simp append_assoc

pub items_end : (n : ℕ) (bytes : List ℕ) (ts : List Tree) (left : List ℕ) (v : Tree) (rest end : List ℕ) → ItemsSoFar n bytes ts left → FoundElement n left v rest → rest ≡ 93 ∷ end → FoundItems n bytes (items_of (ts ++ v ∷ [])) end
items_end n bytes ts left v rest end s e close = record {
  written = before_items s.written (item e.written no_items);
  inside = s.inside ++ e.value;
  whole = s.whole ∙ ap (λ x. s.inside ++ x) (e.whole ∙ ap (λ x. e.value ++ x) close) ∙ sym (append_assoc s.inside e.value (93 ∷ end));
  are = s.joins e.written no_items e.value (e.value, [], sym (append-nil e.value), e.is, refl);
  shallow = before_levels n s.written (item e.written no_items) s.shallow (omega (arith, e.shallow));
  means = items_is ts v ∙ ap₂ (λ l t. before_items l (item t no_items)) s.means e.means ∙ sym (before_resolved s.written (item e.written no_items));
  goes = λ fs low. s.goes fs low ∙ item_goes n left v rest fs low e ∙ ap (stop_of 64 behind_value (in_list ∷ fs)) close ∙ stop_step 64 behind_value (in_list ∷ fs) 93 end (moves behind_value fs) (item_end_step 64 fs);
}

pub items_refused : (n : ℕ) (bytes : List ℕ) (ts : List Tree) (left : List ℕ) (e : Stop) → ItemsSoFar n bytes ts left → StopsAt e n at_value left → StopsInside e n at_first_item bytes
items_refused n bytes ts left e s h fs low = tells_same e (stop_of 64 at_first_item fs bytes) (stop_of 64 at_value (in_list ∷ fs) left) (s.goes fs low) (h (in_list ∷ fs) low)

-- neither a comma nor the closing bracket
behind_end : (fs : List Frame) → at_end behind_value (in_list ∷ fs) ≡ Some (Syntax 0)
unfolding at_end
behind_end fs = refl

behind_stuck : (fs : List Frame) (b : ℕ) → is_space b ≡ false → eqb b 44 ≡ false → eqb b 93 ≡ false → step 64 behind_value (in_list ∷ fs) b ≡ stuck
unfolding step
behind_stuck fs b s c e = cond-false _ _ _ s ∙ cond-false _ _ _ c ∙ cond-false _ _ _ e

unended : (fs : List Frame) (rest : List ℕ) → Stops is_space rest → ((more : List ℕ) → rest ≢ 44 ∷ more) → ((more : List ℕ) → rest ≢ 93 ∷ more) → stop_of 64 behind_value (in_list ∷ fs) rest ≡ Some (Syntax (length rest))
unended fs [] s c e = stop_end 64 behind_value (in_list ∷ fs) ∙ behind_end fs
unended fs (b ∷ rest) s c e = stop_step 64 behind_value (in_list ∷ fs) b rest stuck (behind_stuck fs b s (ne_eqb b 44 (λ h. c rest (ap (λ x. x ∷ rest) h))) (ne_eqb b 93 (λ h. e rest (ap (λ x. x ∷ rest) h))))

pub items_unended : (n : ℕ) (bytes : List ℕ) (ts : List Tree) (left : List ℕ) (v : Tree) (rest : List ℕ) → ItemsSoFar n bytes ts left → FoundElement n left v rest → ((more : List ℕ) → rest ≢ 44 ∷ more) → ((more : List ℕ) → rest ≢ 93 ∷ more) → (fs : List Frame) → suc (length fs) + n ≡ 64 → stop_of 64 at_first_item fs bytes ≡ Some (Syntax (length rest))
items_unended n bytes ts left v rest s e comma close fs low = s.goes fs low ∙ item_goes n left v rest fs low e ∙ unended fs rest e.ends comma close
