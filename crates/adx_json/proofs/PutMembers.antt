-- A well-formed object stays so with a member put into it.
use Rattle.std.proofs.Common.{◌≡◌, ◌≢◌, ℕ, suc, List, [], ◌∷◌, Bool, true, false, cond, refl, sym, arith}
use Rattle.std.proofs.lemmas.Bool.{or_parts, or_from, false_from_ne_true, iff_false}
use Rattle.std.proofs.lemmas.Slice.Eq.{bytes_eq-Decides}
use Rattle.std.specs.List.{AllPairs}
use Rattle.std.specs.Str.{IsUtf8, bytes_eq}
use Rattle.adx_json.specs.Tree.{Tree, null, boolean, number, text, list, object, Members, no_members, member, names_of}
use Rattle.adx_json.specs.Grammar.{has_name}
use Rattle.adx_json.specs.Named.{with_value, with_member}
use Rattle.adx_json.specs.WellFormed.{IsWellFormed, HaveWellFormed, HasUtf8, MembersHaveUtf8}
use Rattle.adx_json.proofs.WellFormedTrees.{differ_cons, no_name, no_pairs}
use Rattle.adx_json.proofs.Spelled.{differ_tail, differ_no_name}

abbrev Differ : Members → Type 0
Differ ms = AllPairs (λ a b. a ≢ b) (names_of ms)

swapped : (a b : List ℕ) → bytes_eq a b ≡ false → bytes_eq b a ≡ false
swapped a b h = false_from_ne_true (bytes_eq b a) (λ e. iff_false (bytes_eq-Decides a b) h (sym ((bytes_eq-Decides b a).0 e)))

-- a name that isn't there and isn't put in isn't there afterwards
put_name_at : (n k name : List ℕ) (t u : Tree) (ms : Members) (b : Bool) → bytes_eq k n ≡ false → has_name n ms ≡ false → has_name n (with_value name t ms) ≡ false → has_name n (cond b (member k t ms) (member k u (with_value name t ms))) ≡ false
put_name_at n k name t u ms true e h later = or_from _ _ e h
put_name_at n k name t u ms false e h later = or_from _ _ e later

put_name : (n name : List ℕ) (t : Tree) (ms : Members) → has_name n ms ≡ false → bytes_eq n name ≡ false → has_name n (with_value name t ms) ≡ false
put_name n name t no_members h e = or_from _ _ (swapped n name e) refl
put_name n name t (member k u ms) h e =
    let parts = or_parts (bytes_eq k n) (has_name n ms) h in
    put_name_at n k name t u ms (bytes_eq k name) parts.0 parts.1 (put_name n name t ms parts.1 e)

one_pair : (n : List ℕ) → AllPairs (λ a b. a ≢ b) (n ∷ [])
one_pair n = differ_cons n [] (λ j d low same. absurd (omega arith)) no_pairs

put_differ_at : (k name : List ℕ) (t u : Tree) (ms : Members) (b : Bool) → bytes_eq k name ≡ b → Differ (member k u ms) → has_name k ms ≡ false → Differ (with_value name t ms) → Differ (cond b (member k t ms) (member k u (with_value name t ms)))
put_differ_at k name t u ms true e h none later = h
put_differ_at k name t u ms false e h none later = differ_cons k (names_of (with_value name t ms)) (no_name k (with_value name t ms) (put_name k name t ms none e)) later

put_differ : (name : List ℕ) (t : Tree) (ms : Members) → Differ ms → Differ (with_value name t ms)
put_differ name t no_members h = one_pair name
put_differ name t (member k u ms) h =
    put_differ_at k name t u ms (bytes_eq k name) refl h (differ_no_name k ms (λ j d low. h 0 (suc j) d (omega arith) (omega arith))) (put_differ name t ms (differ_tail k (names_of ms) h))

put_have_at : (k name : List ℕ) (t u : Tree) (ms : Members) (b : Bool) → IsWellFormed t → HaveWellFormed (member k u ms) → HaveWellFormed (with_value name t ms) → HaveWellFormed (cond b (member k t ms) (member k u (with_value name t ms)))
put_have_at k name t u ms true w h later = (w, h.1)
put_have_at k name t u ms false w h later = (h.0, later)

put_have : (name : List ℕ) (t : Tree) (ms : Members) → IsWellFormed t → HaveWellFormed ms → HaveWellFormed (with_value name t ms)
put_have name t no_members w h = (w, tt)
put_have name t (member k u ms) w h = put_have_at k name t u ms (bytes_eq k name) w h (put_have name t ms w h.1)

put_utf8_at : (k name : List ℕ) (t u : Tree) (ms : Members) (b : Bool) → HasUtf8 t → MembersHaveUtf8 (member k u ms) → MembersHaveUtf8 (with_value name t ms) → MembersHaveUtf8 (cond b (member k t ms) (member k u (with_value name t ms)))
put_utf8_at k name t u ms true w h later = (h.0, w, h.2)
put_utf8_at k name t u ms false w h later = (h.0, h.1, later)

put_utf8 : (name : List ℕ) (t : Tree) (ms : Members) → IsUtf8 name → HasUtf8 t → MembersHaveUtf8 ms → MembersHaveUtf8 (with_value name t ms)
put_utf8 name t no_members n w h = (n, w, tt)
put_utf8 name t (member k u ms) n w h = put_utf8_at k name t u ms (bytes_eq k name) w h (put_utf8 name t ms n w h.2)

pub put_well_formed : (name : List ℕ) (t tree : Tree) → IsWellFormed tree → IsWellFormed t → IsWellFormed (with_member name t tree)
put_well_formed name t null h w = h
put_well_formed name t (boolean b) h w = h
put_well_formed name t (number n) h w = h
put_well_formed name t (text x) h w = h
put_well_formed name t (list ts) h w = h
put_well_formed name t (object ms) h w = (put_differ name t ms h.0, put_have name t ms w h.1)

pub put_texts : (name : List ℕ) (t tree : Tree) → IsUtf8 name → HasUtf8 tree → HasUtf8 t → HasUtf8 (with_member name t tree)
put_texts name t null n h w = h
put_texts name t (boolean b) n h w = h
put_texts name t (number d) n h w = h
put_texts name t (text x) n h w = h
put_texts name t (list ts) n h w = h
put_texts name t (object ms) n h w = put_utf8 name t ms n w h
