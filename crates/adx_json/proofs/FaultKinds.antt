-- What each kind of fault says.
use Rattle.std.proofs.Common.{◌≡◌, ◌≢◌, ℕ, suc, ◌-◌, ◌<◌, ◌≤◌, List, [], ◌∷◌, ◌++◌, length, Bool, true, false, cond, Some, None, refl, sym, ap, ◌∙◌, subst, arith, ◌⊎◌, inl, inr, leb, length-append}
use Rattle.std.proofs.lemmas.Bool.{leb-true, leb-false}
use Rattle.std.specs.Str.{IsUtf8}
use Rattle.adx_json.specs.Faults.{BeginsLevel65, outside, inside, behind_backslash, place_behind, IsWideInString, BreaksUtf8, IsFault}
use Rattle.adx_json.specs.Machine.{Frame, characters, escaped, digits, Mode, at_value, at_first_item, behind_value, at_first_name, at_name, behind_name, in_word, in_number, in_text, step, stuck, stop_of, at_end, fault_at, may_end}
use Rattle.adx_json.specs.declared.utf8.Tail.{Tail}
use Rattle.adx_json.specs.declared.fault.Stop.{Stop}
use Rattle.adx_json.specs.declared.fault.Stop.TheVariants.{Syntax, Utf8, Depth, OutOfMemory}
use Rattle.adx_json.specs.declared.fault.JsonFault.TheVariants as fault
use Rattle.adx_json.proofs.Leads.{place_of, tail_of}
use Rattle.adx_json.proofs.Reaches.{Reaches, Halts, stopped}
use Rattle.adx_json.proofs.Judged.{place_at, deep_at, not_deep, ends_within, ends_whole, reached_place, take_front, byte_at, no_next}

-- within a character, or not
abbrev Whole : Mode → Type 0
Whole m = tail_of m ≡ None

abbrev Broken : Mode → Type 0
Broken m = (u : Tail) × (tail_of m ≡ Some u)

-- the kind at the end of the bytes
abbrev EndKind : Mode → Stop → Type 0
EndKind m e = ((e ≡ Syntax 0) × Whole m) ⊎ ((e ≡ Utf8 0) × Broken m)

is_syntax : (e : Stop) → Some (Syntax 0) ≡ Some e → e ≡ Syntax 0
is_syntax e h = cc

is_utf8 : (e : Stop) → Some (Utf8 0) ≡ Some e → e ≡ Utf8 0
is_utf8 e h = cc

number_end : (t : Bool) (e : Stop) → cond t None (Some (Syntax 0)) ≡ Some e → e ≡ Syntax 0
number_end true e h = cc
number_end false e h = is_syntax e h

none_end : (e : Stop) → None ≡ Some e → ⊥
none_end e h = cc

end_kind : (m : Mode) (fs : List Frame) (e : Stop) → at_end m fs ≡ Some e → EndKind m e
unfolding at_end
end_kind at_value fs e h = inl (is_syntax e h, refl)
end_kind at_first_item fs e h = inl (is_syntax e h, refl)
end_kind behind_value [] e h = absurd (none_end e h)
end_kind behind_value (f ∷ fs) e h = inl (is_syntax e h, refl)
end_kind at_first_name fs e h = inl (is_syntax e h, refl)
end_kind at_name fs e h = inl (is_syntax e h, refl)
end_kind behind_name fs e h = inl (is_syntax e h, refl)
end_kind (in_word c cs) fs e h = inl (is_syntax e h, refl)
end_kind (in_number n) [] e h = inl (number_end (may_end n) e h, refl)
end_kind (in_number n) (f ∷ fs) e h = inl (is_syntax e h, refl)
end_kind (in_text role (characters None)) fs e h = inl (is_syntax e h, refl)
end_kind (in_text role (characters (Some t))) fs e h = inr (is_utf8 e h, (t, refl))
end_kind (in_text role escaped) fs e h = inl (is_syntax e h, refl)
end_kind (in_text role (digits k)) fs e h = inl (is_syntax e h, refl)

-- the kind at a byte
abbrev ByteKind : Mode → ℕ → ℕ → Stop → Type 0
ByteKind m left b e =
    ((e ≡ Syntax left) × Whole m × ((place_of m ≡ outside) ⊎ (b < 128)))
    ⊎ ((e ≡ Utf8 left) × (Broken m ⊎ ((place_of m ≢ outside) × (128 ≤ b))))

inside_kind : (m : Mode) (left b : ℕ) → Whole m → place_of m ≢ outside → (t : Bool) → leb 128 b ≡ t → ByteKind m left b (cond t (Utf8 left) (Syntax left))
inside_kind m left b whole n true h = inr (refl, inr (n, leb-true 128 b h))
inside_kind m left b whole n false h = inl (refl, whole, inr (leb-false 128 b h))

not_outside : inside ≢ outside
not_outside h = cc

not_outside_either : behind_backslash ≢ outside
not_outside_either h = cc

byte_kind : (m : Mode) (left b : ℕ) → ByteKind m left b (fault_at m left b)
byte_kind at_value left b = inl (refl, refl, inl refl)
byte_kind at_first_item left b = inl (refl, refl, inl refl)
byte_kind behind_value left b = inl (refl, refl, inl refl)
byte_kind at_first_name left b = inl (refl, refl, inl refl)
byte_kind at_name left b = inl (refl, refl, inl refl)
byte_kind behind_name left b = inl (refl, refl, inl refl)
byte_kind (in_word c cs) left b = inl (refl, refl, inl refl)
byte_kind (in_number n) left b = inl (refl, refl, inl refl)
byte_kind (in_text role (characters None)) left b = inside_kind (in_text role (characters None)) left b refl not_outside (leb 128 b) refl
byte_kind (in_text role (characters (Some t))) left b = inr (refl, inl (t, refl))
byte_kind (in_text role escaped) left b = inside_kind (in_text role escaped) left b refl not_outside_either (leb 128 b) refl
byte_kind (in_text role (digits k)) left b = inside_kind (in_text role (digits k)) left b refl not_outside (leb 128 b) refl

-- a fault that the bytes have
abbrev pub Judged : List ℕ → Stop → Type 0
Judged bytes (Syntax left) = (left ≤ length bytes) × IsFault bytes (fault.Syntax (length bytes - left))
Judged bytes (Utf8 left) = (left ≤ length bytes) × IsFault bytes (fault.Utf8 (length bytes - left))
Judged bytes (Depth left) = (left ≤ length bytes) × IsFault bytes (fault.Depth (length bytes - left))
Judged bytes OutOfMemory = Unit {0}

place_is : (front rest : List ℕ) → length (front ++ rest) - length rest ≡ length front
place_is front rest = omega (arith, length-append front rest)

at_place : (front rest : List ℕ) (P : ℕ → Type 0) → P (length front) → (length rest ≤ length (front ++ rest)) × P (length (front ++ rest) - length rest)
at_place front rest P p = (omega (arith, length-append front rest), subst P (sym (place_is front rest)) p)

-- the front isn't UTF-8
front_broken : (front rest : List ℕ) (m : Mode) (fs : List Frame) → Reaches 64 at_value [] front m fs → Broken m → BreaksUtf8 (front ++ rest) (length front)
front_broken front rest m fs h b = inr (λ u. ends_within front m fs b.0 h b.1 (subst IsUtf8 (take_front front rest) u))

front_whole : (front rest : List ℕ) (m : Mode) (fs : List Frame) → Reaches 64 at_value [] front m fs → Whole m → (IsWideInString (front ++ rest) (length front) → ⊥) → BreaksUtf8 (front ++ rest) (length front) → ⊥
front_whole front rest m fs h whole narrow (inl w) = narrow w
front_whole front rest m fs h whole narrow (inr broken) = broken (subst IsUtf8 (sym (take_front front rest)) (ends_whole front m fs h whole))

narrow_end : (front : List ℕ) → IsWideInString (front ++ []) (length front) → ⊥
narrow_end front w = no_next front w.within

no_level : (front : List ℕ) → BeginsLevel65 (front ++ []) (length front) → ⊥
no_level front d = no_next front d.within

narrow_byte : (front : List ℕ) (b : ℕ) (rest : List ℕ) (m : Mode) (fs : List Frame) → Reaches 64 at_value [] front m fs → (place_of m ≡ outside) ⊎ (b < 128) → IsWideInString (front ++ b ∷ rest) (length front) → ⊥
narrow_byte front b rest m fs h (inl out) w = w.inside (ap (place_behind outside) (take_front front (b ∷ rest)) ∙ reached_place front m fs h ∙ out)
narrow_byte front b rest m fs h (inr low) w =
    let wide : 128 ≤ b = subst (λ x. 128 ≤ x) (byte_at front b rest) w.wide in
    omega arith

wide_byte : (front : List ℕ) (b : ℕ) (rest : List ℕ) (m : Mode) (fs : List Frame) → Reaches 64 at_value [] front m fs → Broken m ⊎ ((place_of m ≢ outside) × (128 ≤ b)) → BreaksUtf8 (front ++ b ∷ rest) (length front)
wide_byte front b rest m fs h (inl broken) = front_broken front (b ∷ rest) m fs h broken
wide_byte front b rest m fs h (inr k) = inl (record {
  within = omega (arith, length-append front (b ∷ rest));
  inside = λ e. k.0 (sym (reached_place front m fs h) ∙ sym (ap (place_behind outside) (take_front front (b ∷ rest))) ∙ e);
  wide = subst (λ x. 128 ≤ x) (sym (byte_at front b rest)) k.1;
})

judged_end : (front : List ℕ) (m : Mode) (fs : List Frame) (e : Stop) → stop_of 64 at_value [] (front ++ []) ≡ Some e → Reaches 64 at_value [] front m fs → at_end m fs ≡ Some e → EndKind m e → Judged (front ++ []) e
judged_end front m fs e stops h halts (inl k) =
    subst (Judged (front ++ [])) (sym k.0) (at_place front [] (λ at. IsFault (front ++ []) (fault.Syntax at))
    (place_at front [] m fs e stops h halts, no_level front, front_whole front [] m fs h k.1 (narrow_end front)))
judged_end front m fs e stops h halts (inr k) =
    subst (Judged (front ++ [])) (sym k.0) (at_place front [] (λ at. IsFault (front ++ []) (fault.Utf8 at))
    (place_at front [] m fs e stops h halts, front_broken front [] m fs h k.1))

judged_stuck : (front : List ℕ) (b : ℕ) (rest : List ℕ) (m : Mode) (fs : List Frame) (e : Stop) → stop_of 64 at_value [] (front ++ b ∷ rest) ≡ Some e → Reaches 64 at_value [] front m fs → step 64 m fs b ≡ stuck → e ≡ fault_at m (suc (length rest)) b → ByteKind m (suc (length rest)) b e → Judged (front ++ b ∷ rest) e
judged_stuck front b rest m fs e stops h is kind (inl k) =
    subst (Judged (front ++ b ∷ rest)) (sym k.0) (at_place front (b ∷ rest) (λ at. IsFault (front ++ b ∷ rest) (fault.Syntax at))
    (place_at front (b ∷ rest) m fs e stops h (inl (is, kind)), not_deep front b rest m fs h is, front_whole front (b ∷ rest) m fs h k.1 (narrow_byte front b rest m fs h k.2)))
judged_stuck front b rest m fs e stops h is kind (inr k) =
    subst (Judged (front ++ b ∷ rest)) (sym k.0) (at_place front (b ∷ rest) (λ at. IsFault (front ++ b ∷ rest) (fault.Utf8 at))
    (place_at front (b ∷ rest) m fs e stops h (inl (is, kind)), wide_byte front b rest m fs h k.1))

judged_at : (front rest : List ℕ) (m : Mode) (fs : List Frame) (e : Stop) → stop_of 64 at_value [] (front ++ rest) ≡ Some e → Reaches 64 at_value [] front m fs → Halts 64 m fs rest e → Judged (front ++ rest) e
judged_at front [] m fs e stops h halts = judged_end front m fs e stops h halts (end_kind m fs e halts)
judged_at front (b ∷ rest) m fs e stops h (inl halts) =
    judged_stuck front b rest m fs e stops h halts.0 halts.1 (subst (ByteKind m (suc (length rest)) b) (sym halts.1) (byte_kind m (suc (length rest)) b))
judged_at front (b ∷ rest) m fs e stops h (inr halts) =
    subst (Judged (front ++ b ∷ rest)) (sym halts.1) (at_place front (b ∷ rest) (λ at. IsFault (front ++ b ∷ rest) (fault.Depth at))
    (place_at front (b ∷ rest) m fs e stops h (inr halts), deep_at front b rest m fs h halts.0))

-- where bytes stop there is a fault of that place and kind
pub judged : (bytes : List ℕ) (e : Stop) → stop_of 64 at_value [] bytes ≡ Some e → Judged bytes e
judged bytes e h =
    let s = stopped 64 at_value [] bytes e h in
    subst (λ x. Judged x e) (sym s.whole) (judged_at s.front s.rest s.last s.around e (ap (stop_of 64 at_value []) (sym s.whole) ∙ h) s.reaches s.halts)
