-- The trees of JSON texts are well formed, and no deeper than the texts.
use Rattle.std.proofs.Common.{◌≡◌, ◌≢◌, ℕ, zero, suc, ◌<◌, ◌≤◌, max, List, [], ◌∷◌, length, get_or, Bool, true, false, cond, refl, sym, ap, subst, arith}
use Rattle.std.proofs.lemmas.Bool.{or_parts, iff_false}
use Rattle.std.proofs.lemmas.Slice.Eq.{bytes_eq-Decides}
use Rattle.std.specs.List.{AllPairs}
use Rattle.std.specs.Str.{bytes_eq}
use Rattle.adx_json.specs.Tree.{Tree, null, boolean, number, text, list, object, Items, no_items, item, Members, no_members, member, names_of, levels, items_levels, members_levels}
use Rattle.adx_json.specs.Grammar.{IsValue, AreItems, AreMoreItems, AreMembers, AreMoreMembers, has_name, last_of_each, resolved, resolved_items, resolved_members, IsJson}
use Rattle.adx_json.specs.WellFormed.{IsWellFormed, AreWellFormed, HaveWellFormed}

-- names that differ from those after them
pub differ_cons : (n : List ℕ) (ns : List (List ℕ)) → ((j : ℕ) (d : List ℕ) → j < length ns → n ≢ get_or ns j d) → AllPairs (λ a b. a ≢ b) ns → AllPairs (λ a b. a ≢ b) (n ∷ ns)
differ_cons n ns new h zero zero d low high = absurd (omega arith)
differ_cons n ns new h zero (suc j) d low high = new j d (omega arith)
differ_cons n ns new h (suc i) zero d low high = absurd (omega arith)
differ_cons n ns new h (suc i) (suc j) d low high = h i j d (omega arith) (omega arith)

pub no_name : (n : List ℕ) (ms : Members) → has_name n ms ≡ false → (j : ℕ) (d : List ℕ) → j < length (names_of ms) → n ≢ get_or (names_of ms) j d
no_name n no_members h j d low e = absurd (omega arith)
no_name n (member k t ms) h zero d low e = iff_false (bytes_eq-Decides k n) (or_parts (bytes_eq k n) (has_name n ms) h).0 (sym e)
no_name n (member k t ms) h (suc j) d low e = no_name n ms (or_parts (bytes_eq k n) (has_name n ms) h).1 j d (omega arith) e

last_name_at : (n k : List ℕ) (t : Tree) (ms : Members) (b : Bool) → bytes_eq k n ≡ false → has_name n (last_of_each ms) ≡ false → has_name n (cond b (last_of_each ms) (member k t (last_of_each ms))) ≡ false
last_name_at n k t ms true e h = h
last_name_at n k t ms false e h = rw (e, h) refl

last_no_name : (n : List ℕ) (ms : Members) → has_name n ms ≡ false → has_name n (last_of_each ms) ≡ false
last_no_name n no_members h = refl
last_no_name n (member k t ms) h =
    let parts = or_parts (bytes_eq k n) (has_name n ms) h in
    last_name_at n k t ms (has_name k ms) parts.0 (last_no_name n ms parts.1)

last_differ_at : (n : List ℕ) (t : Tree) (ms : Members) (b : Bool) → has_name n ms ≡ b → AllPairs (λ a b. a ≢ b) (names_of (last_of_each ms)) → AllPairs (λ a b. a ≢ b) (names_of (cond b (last_of_each ms) (member n t (last_of_each ms))))
last_differ_at n t ms true e h = h
last_differ_at n t ms false e h = differ_cons n (names_of (last_of_each ms)) (no_name n (last_of_each ms) (last_no_name n ms e)) h

pub no_pairs : AllPairs {X = List ℕ} (λ a b. a ≢ b) []
no_pairs i j d low high = absurd (omega arith)

last_differ : (ms : Members) → AllPairs (λ a b. a ≢ b) (names_of (last_of_each ms))
last_differ no_members = no_pairs
last_differ (member n t ms) = last_differ_at n t ms (has_name n ms) refl (last_differ ms)

last_have_at : (n : List ℕ) (t : Tree) (ms : Members) (b : Bool) → IsWellFormed t → HaveWellFormed (last_of_each ms) → HaveWellFormed (cond b (last_of_each ms) (member n t (last_of_each ms)))
last_have_at n t ms true w h = h
last_have_at n t ms false w h = (w, h)

last_have : (ms : Members) → HaveWellFormed ms → HaveWellFormed (last_of_each ms)
last_have no_members h = tt
last_have (member n t ms) h = last_have_at n t ms (has_name n ms) h.0 (last_have ms h.1)

mutual
  pub value_well_formed : (t : Tree) (bytes : List ℕ) → IsValue t bytes → IsWellFormed (resolved t)
  value_well_formed null bytes h = tt
  value_well_formed (boolean b) bytes h = tt
  value_well_formed (number n) bytes h = h.0
  value_well_formed (text t) bytes h = tt
  value_well_formed (list ts) bytes h = items_well_formed ts h.0 h.2
  value_well_formed (object ms) bytes h = (last_differ (resolved_members ms), last_have (resolved_members ms) (members_well_formed ms h.0 h.2))

  items_well_formed : (ts : Items) (bytes : List ℕ) → AreItems ts bytes → AreWellFormed (resolved_items ts)
  items_well_formed no_items bytes h = tt
  items_well_formed (item t ts) bytes h = (value_well_formed t h.3.1 h.3.5, more_well_formed ts h.1 h.4)

  more_well_formed : (ts : Items) (bytes : List ℕ) → AreMoreItems ts bytes → AreWellFormed (resolved_items ts)
  more_well_formed no_items bytes h = tt
  more_well_formed (item t ts) bytes h = (value_well_formed t h.3.1 h.3.5, more_well_formed ts h.1 h.4)

  members_well_formed : (ms : Members) (bytes : List ℕ) → AreMembers ms bytes → HaveWellFormed (resolved_members ms)
  members_well_formed no_members bytes h = tt
  members_well_formed (member n t ms) bytes h = (value_well_formed t h.5.1 h.5.5, more_members_well_formed ms h.2 h.6)

  more_members_well_formed : (ms : Members) (bytes : List ℕ) → AreMoreMembers ms bytes → HaveWellFormed (resolved_members ms)
  more_members_well_formed no_members bytes h = tt
  more_members_well_formed (member n t ms) bytes h = (value_well_formed t h.5.1 h.5.5, more_members_well_formed ms h.2 h.6)

last_levels_at : (n : List ℕ) (t : Tree) (ms : Members) (b : Bool) → members_levels (last_of_each ms) ≤ members_levels ms → members_levels (cond b (last_of_each ms) (member n t (last_of_each ms))) ≤ max (levels t) (members_levels ms)
last_levels_at n t ms true h = omega arith
last_levels_at n t ms false h = omega arith

last_levels : (ms : Members) → members_levels (last_of_each ms) ≤ members_levels ms
last_levels no_members = omega arith
last_levels (member n t ms) = last_levels_at n t ms (has_name n ms) (last_levels ms)

mutual
  resolved_levels : (t : Tree) → levels (resolved t) ≤ levels t
  resolved_levels null = omega arith
  resolved_levels (boolean b) = omega arith
  resolved_levels (number n) = omega arith
  resolved_levels (text t) = omega arith
  resolved_levels (list ts) = let h = resolved_items_levels ts in omega arith
  resolved_levels (object ms) =
      let h = resolved_members_levels ms in
      let k = last_levels (resolved_members ms) in
      omega arith

  resolved_items_levels : (ts : Items) → items_levels (resolved_items ts) ≤ items_levels ts
  resolved_items_levels no_items = omega arith
  resolved_items_levels (item t ts) =
      let h = resolved_levels t in
      let k = resolved_items_levels ts in
      omega arith

  resolved_members_levels : (ms : Members) → members_levels (resolved_members ms) ≤ members_levels ms
  resolved_members_levels no_members = omega arith
  resolved_members_levels (member n t ms) =
      let h = resolved_levels t in
      let k = resolved_members_levels ms in
      omega arith

-- the tree of a JSON text
pub json_well_formed : (bytes : List ℕ) (tree : Tree) → IsJson bytes tree → IsWellFormed tree
json_well_formed bytes tree j = subst IsWellFormed (sym j.means) (value_well_formed j.written j.value.1 j.value.5)

pub json_levels : (bytes : List ℕ) (tree : Tree) → IsJson bytes tree → levels tree ≤ 64
json_levels bytes tree j =
    let same : levels tree ≡ levels (resolved j.written) = ap levels j.means in
    let low = resolved_levels j.written in
    omega (arith, j.shallow)
