-- Members that are read one after another.
use Rattle.std.proofs.Common.{◌≡◌, ◌≢◌, ℕ, suc, ◌+◌, ◌≤◌, List, [], ◌∷◌, ◌++◌, length, map, false, Some, refl, sym, ap, ap₂, ◌∙◌, subst, arith, eqb, append_assoc, append-nil}
use Rattle.std.proofs.lemmas.Bool.{ne_eqb, cond-false}
use Rattle.adx_json.specs.Tree.{Tree, Members, no_members, member, members_levels, members_of}
use Rattle.adx_units.specs.Scans.{Stops}
use Rattle.adx_json.specs.Grammar.{is_space, AreMembers, resolved, resolved_members}
use Rattle.adx_json.specs.Machine.{Frame, in_object, at_first_name, at_name, behind_value, moves, stuck, step, stop_of, at_end}
use Rattle.adx_json.specs.declared.fault.Stop.{Stop}
use Rattle.adx_json.specs.declared.fault.Stop.TheVariants.{Syntax}
use Rattle.adx_json.specs.Found.{StopsInside, FoundSpace, FoundMember, FoundMembers}
use Rattle.adx_json.proofs.TextParts.{tells_same}
use Rattle.adx_json.proofs.Stops.{stop_step, stop_end, object_end_step, member_end_step, member_comma_step, first_name_as}
use Rattle.adx_json.proofs.ReaderParts.{space_goes}

abbrev pub Named : Type 0
Named = List ℕ × Tree

-- members that were read, before others
abbrev pub before_members : List Named → Members → Members
before_members [] us = us
before_members (m ∷ ms) us = member m.0 m.1 (before_members ms us)

abbrev pub resolved_of : Named → Named
resolved_of m = (m.0, resolved m.1)

before_more : (ms : List Named) (m : Named) (us : Members) → before_members (ms ++ m ∷ []) us ≡ before_members ms (member m.0 m.1 us)
before_more [] m us = refl
before_more (x ∷ ms) m us = ap (member x.0 x.1) (before_more ms m us)

before_levels : (n : ℕ) (ms : List Named) (us : Members) → members_levels (before_members ms no_members) ≤ n → members_levels us ≤ n → members_levels (before_members ms us) ≤ n
before_levels n [] us h k = k
before_levels n (m ∷ ms) us h k =
    let later : members_levels (before_members ms us) ≤ n = before_levels n ms us (omega arith) k in
    omega arith

before_resolved : (ms : List Named) (us : Members) → resolved_members (before_members ms us) ≡ before_members (map resolved_of ms) (resolved_members us)
before_resolved [] us = refl
before_resolved (m ∷ ms) us = ap (member m.0 (resolved m.1)) (before_resolved ms us)

members_is : (ms : List Named) (m : Named) → members_of (ms ++ m ∷ []) ≡ before_members ms (member m.0 m.1 no_members)
members_is [] m = refl
members_is (x ∷ ms) m = ap (member x.0 x.1) (members_is ms m)

map_more : (ms : List Named) (m : Named) → map resolved_of (ms ++ m ∷ []) ≡ map resolved_of ms ++ resolved_of m ∷ []
map_more [] m = refl
map_more (x ∷ ms) m = ap (λ l. resolved_of x ∷ l) (map_more ms m)

-- the members so far, where a further one has to come
pub record MembersSoFar (n : ℕ) (bytes : List ℕ) (ms : List Named) (left : List ℕ) : Type 0 where
  pub written : List Named
  pub inside : List ℕ
  pub whole : bytes ≡ inside ++ left
  pub joins : (k : List ℕ) (t : Tree) (us : Members) (more : List ℕ) → AreMembers (member k t us) more → AreMembers (before_members written (member k t us)) (inside ++ more)
  pub shallow : members_levels (before_members written no_members) ≤ n
  pub means : ms ≡ map resolved_of written
  pub goes : (fs : List Frame) → suc (length fs) + n ≡ 64 → stop_of 64 at_first_name fs bytes ≡ stop_of 64 at_name fs left

first_end : (fs : List Frame) → at_end at_first_name fs ≡ at_end at_name fs
unfolding at_end
first_end fs = refl

first_as : (fs : List Frame) (start : List ℕ) → Stops is_space start → ((rest : List ℕ) → start ≢ 125 ∷ rest) → stop_of 64 at_first_name fs start ≡ stop_of 64 at_name fs start
first_as fs [] s n = stop_end 64 at_first_name fs ∙ first_end fs ∙ sym (stop_end 64 at_name fs)
first_as fs (b ∷ rest) s n = first_name_as 64 fs b rest s (ne_eqb b 125 (λ e. n rest (ap (λ x. x ∷ rest) e)))

pub members_start : (n : ℕ) (bytes start : List ℕ) → FoundSpace bytes start → ((rest : List ℕ) → start ≢ 125 ∷ rest) → MembersSoFar n bytes [] bytes
members_start n bytes start s none = record {
  written = [];
  inside = [];
  whole = refl;
  joins = λ k t us more h. h;
  shallow = omega arith;
  means = refl;
  goes = λ fs low. space_goes bytes start at_first_name fs tt s ∙ first_as fs start s.ends none ∙ sym (space_goes bytes start at_name fs tt s);
}

pub members_none : (n : ℕ) (bytes start rest : List ℕ) → FoundSpace bytes start → start ≡ 125 ∷ rest → FoundMembers n bytes no_members rest
members_none n bytes start rest s first = record {
  written = no_members;
  inside = s.space;
  whole = s.whole ∙ ap (λ x. s.space ++ x) first;
  are = s.is;
  shallow = omega arith;
  means = refl;
  goes = λ fs low. space_goes bytes start at_first_name fs tt s ∙ ap (stop_of 64 at_first_name fs) first ∙ stop_step 64 at_first_name fs 125 rest (moves behind_value fs) (object_end_step 64 fs);
}

same_member : (n : List ℕ) (v t : Tree) → v ≡ resolved t → ◌≡◌ {A = Named} (n, v) (n, resolved t)
same_member n v t e = ap (λ x. (n, x)) e

pub members_more : (n : ℕ) (bytes : List ℕ) (ms : List Named) (left name : List ℕ) (v : Tree) (rest more : List ℕ) → MembersSoFar n bytes ms left → FoundMember n left name v rest → rest ≡ 44 ∷ more → MembersSoFar n bytes (ms ++ (name, v) ∷ []) more
members_more n bytes ms left name v rest more s e comma = record {
  written = s.written ++ (name, e.written) ∷ [];
  inside = s.inside ++ (e.spelled ++ 58 ∷ (e.value ++ 44 ∷ []));
  whole = s.whole ∙ ap (λ x. s.inside ++ x) (e.whole ∙ ap (λ x. e.spelled ++ 58 ∷ (e.value ++ x)) comma) ∙ regroup s.inside e.spelled e.value more;
  joins = λ k t us m h.
      let joined = s.joins name e.written (member k t us) (e.spelled ++ 58 ∷ (e.value ++ 44 ∷ m)) (e.spelled, e.value, 44 ∷ m, refl, e.named, e.is, (h.0, h.1, h.2, ap (λ x. 44 ∷ x) h.3, h.4, h.5, h.6)) in
      subst (λ x. AreMembers x ((s.inside ++ (e.spelled ++ 58 ∷ (e.value ++ 44 ∷ []))) ++ m)) (sym (before_more s.written (name, e.written) (member k t us)))
      (subst (AreMembers (before_members s.written (member name e.written (member k t us)))) (regroup s.inside e.spelled e.value m) joined);
  shallow = subst (λ x. members_levels x ≤ n) (sym (before_more s.written (name, e.written) no_members)) (before_levels n s.written (member name e.written no_members) s.shallow (omega (arith, e.shallow)));
  means = ap₂ (λ l x. l ++ x ∷ []) s.means (same_member name v e.written e.means) ∙ sym (map_more s.written (name, e.written));
  goes = λ fs low. s.goes fs low ∙ e.goes fs low ∙ ap (stop_of 64 behind_value (in_object ∷ fs)) comma ∙ stop_step 64 behind_value (in_object ∷ fs) 44 more (moves at_name fs) (member_comma_step 64 fs);
}
  where
    regroup : (i s v m : List ℕ) → i ++ (s ++ 58 ∷ (v ++ 44 ∷ m)) ≡ (i ++ (s ++ 58 ∷ (v ++ 44 ∷ []))) ++ m
    regroup i s v m = simp append_assoc

pub members_end : (n : ℕ) (bytes : List ℕ) (ms : List Named) (left name : List ℕ) (v : Tree) (rest end : List ℕ) → MembersSoFar n bytes ms left → FoundMember n left name v rest → rest ≡ 125 ∷ end → FoundMembers n bytes (members_of (ms ++ (name, v) ∷ [])) end
members_end n bytes ms left name v rest end s e close = record {
  written = before_members s.written (member name e.written no_members);
  inside = s.inside ++ (e.spelled ++ 58 ∷ e.value);
  whole = s.whole ∙ ap (λ x. s.inside ++ x) (e.whole ∙ ap (λ x. e.spelled ++ 58 ∷ (e.value ++ x)) close) ∙ regroup s.inside e.spelled e.value end;
  are = s.joins name e.written no_members (e.spelled ++ 58 ∷ e.value) (e.spelled, e.value, [], ap (λ x. e.spelled ++ 58 ∷ x) (sym (append-nil e.value)), e.named, e.is, refl);
  shallow = before_levels n s.written (member name e.written no_members) s.shallow (omega (arith, e.shallow));
  means = members_is ms (name, v) ∙ ap₂ (λ l x. before_members l (member name x no_members)) s.means e.means ∙ sym (before_resolved s.written (member name e.written no_members));
  goes = λ fs low. s.goes fs low ∙ e.goes fs low ∙ ap (stop_of 64 behind_value (in_object ∷ fs)) close ∙ stop_step 64 behind_value (in_object ∷ fs) 125 end (moves behind_value fs) (member_end_step 64 fs);
}
  where
    regroup : (i s v m : List ℕ) → i ++ (s ++ 58 ∷ (v ++ 125 ∷ m)) ≡ (i ++ (s ++ 58 ∷ v)) ++ 125 ∷ m
    regroup i s v m = simp append_assoc

pub members_refused : (n : ℕ) (bytes : List ℕ) (ms : List Named) (left : List ℕ) (e : Stop) → MembersSoFar n bytes ms left → StopsInside e n at_name left → StopsInside e n at_first_name bytes
members_refused n bytes ms left e s h fs low = tells_same e (stop_of 64 at_first_name fs bytes) (stop_of 64 at_name fs left) (s.goes fs low) (h fs low)

behind_end : (fs : List Frame) → at_end behind_value (in_object ∷ fs) ≡ Some (Syntax 0)
unfolding at_end
behind_end fs = refl

behind_stuck : (fs : List Frame) (b : ℕ) → is_space b ≡ false → eqb b 44 ≡ false → eqb b 125 ≡ false → step 64 behind_value (in_object ∷ fs) b ≡ stuck
unfolding step
behind_stuck fs b s c e = cond-false _ _ _ s ∙ cond-false _ _ _ c ∙ cond-false _ _ _ e

unended : (fs : List Frame) (rest : List ℕ) → Stops is_space rest → ((more : List ℕ) → rest ≢ 44 ∷ more) → ((more : List ℕ) → rest ≢ 125 ∷ more) → stop_of 64 behind_value (in_object ∷ fs) rest ≡ Some (Syntax (length rest))
unended fs [] s c e = stop_end 64 behind_value (in_object ∷ fs) ∙ behind_end fs
unended fs (b ∷ rest) s c e = stop_step 64 behind_value (in_object ∷ fs) b rest stuck (behind_stuck fs b s (ne_eqb b 44 (λ h. c rest (ap (λ x. x ∷ rest) h))) (ne_eqb b 125 (λ h. e rest (ap (λ x. x ∷ rest) h))))

pub members_unended : (n : ℕ) (bytes : List ℕ) (ms : List Named) (left name : List ℕ) (v : Tree) (rest : List ℕ) → MembersSoFar n bytes ms left → FoundMember n left name v rest → ((more : List ℕ) → rest ≢ 44 ∷ more) → ((more : List ℕ) → rest ≢ 125 ∷ more) → (fs : List Frame) → suc (length fs) + n ≡ 64 → stop_of 64 at_first_name fs bytes ≡ Some (Syntax (length rest))
members_unended n bytes ms left name v rest s e comma close fs low = s.goes fs low ∙ e.goes fs low ∙ unended fs rest e.ends comma close
