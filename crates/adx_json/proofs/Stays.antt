-- What is said of each member from the end on, by the set of the names after it, and what is kept by that.
use Rattle.std.proofs.Common.{◌≡◌, ℕ, List, [], ◌∷◌, ◌++◌, append_assoc, append-nil, reverse, Bool, true, false, cond, not, ◌||◌, Ordering, Less, Equal, Greater, nat_cmp, is_eq, Bor, refl, sym, ap, ap₂, ◌∙◌}
use Rattle.std.proofs.lemmas.List.{reverse-append}
use Rattle.std.proofs.lemmas.Map.Text.{is_eq-slice_cmp}
use Rattle.std.proofs.lemmas.Slice.Eq.{bytes_eq-Decides}
use Rattle.std.proofs.lemmas.Cmp.{tied_itself}
use Rattle.std.specs.Cmp.{nat_cmp_total}
use Rattle.std.specs.Cmp.Lexicographic.{slice_cmp}
use Rattle.std.specs.BTreeSet.{BTreeSet, contains, Updates}
use Rattle.std.specs.List.{list_any}
use Rattle.std.specs.Ordering.{ordering_then}
use Rattle.std.specs.Str.{bytes_eq}
use Rattle.adx_json.specs.Tree.{member, members_of}
use Rattle.adx_json.specs.Grammar.{has_name, last_of_each}
use Rattle.adx_json.specs.View.{member_of, members_view}
use Rattle.adx_json.specs.Repeats.{stays, mark_from}
use Rattle.adx_json.specs.declared.tree.Member.{Member}
use Rattle.adx_json.proofs.KeptMembers.{last_at, before_view, before_none}
use Rattle.adx_json.proofs.ReadMembers.{before_members}

-- a set of names with their marks: names with one mark are distinguished by their bytes
abbrev pub marked_cmp : ℕ × Bor (List ℕ) → ℕ × Bor (List ℕ) → Ordering
marked_cmp x y = ordering_then (nat_cmp x.0 y.0) (slice_cmp nat_cmp x.1.now y.1.now)

abbrev pub has_met : BTreeSet (ℕ × Bor (List ℕ)) → List ℕ → Bool
has_met s q = contains marked_cmp s (mark_from 0 q, record { ref_ptr = (0, 0); now = q })

same_where_tied : (a b : Ordering) (t : Bool) → is_eq b ≡ t → (t ≡ true → a ≡ Equal) → is_eq (ordering_then a b) ≡ t
same_where_tied Equal b t e h = e
same_where_tied Less b true e h = ap is_eq (h refl)
same_where_tied Less b false e h = refl
same_where_tied Greater b true e h = ap is_eq (h refl)
same_where_tied Greater b false e h = refl

marked_same : (name q : List ℕ) → is_eq (ordering_then (nat_cmp (mark_from 0 name) (mark_from 0 q)) (slice_cmp nat_cmp name q)) ≡ bytes_eq name q
marked_same name q = same_where_tied (nat_cmp (mark_from 0 name) (mark_from 0 q)) (slice_cmp nat_cmp name q) (bytes_eq name q) (is_eq-slice_cmp name q)
    (λ e. ap (λ x. nat_cmp (mark_from 0 name) (mark_from 0 x)) (sym ((bytes_eq-Decides name q).0 e)) ∙ tied_itself nat_cmp_total (mark_from 0 name))

pub met_was : (s : BTreeSet (ℕ × Bor (List ℕ))) (mark : ℕ) (name : Bor (List ℕ)) → mark ≡ mark_from 0 name.now → contains marked_cmp s (mark, name) ≡ has_met s name.now
met_was s mark name e = ap (λ m. contains marked_cmp s (m, name)) e

pub met_more : (s n : BTreeSet (ℕ × Bor (List ℕ))) (mark : ℕ) (name : Bor (List ℕ)) → mark ≡ mark_from 0 name.now → Updates marked_cmp s n (mark, name) true → (q : List ℕ) → has_met n q ≡ cond (bytes_eq name.now q) true (has_met s q)
met_more s n mark name e u q =
    u.0 (mark_from 0 q, record { ref_ptr = (0, 0); now = q })
    ∙ ap (λ m. cond (is_eq (ordering_then (nat_cmp m (mark_from 0 q)) (slice_cmp nat_cmp name.now q))) true (has_met s q)) e
    ∙ ap (λ b. cond b true (has_met s q)) (marked_same name.now q)

-- what was said from the end on, and the names that were met
pub record ToldSoFar (all left : List Member) (told : List Bool) (seen : List ℕ → Bool) : Type 0 where
  pub later : List Member
  pub whole : all ≡ left ++ later
  pub same : reverse told ≡ stays later
  pub names : (q : List ℕ) → seen q ≡ has_name q (members_of (members_view later))

pub told_start : (all : List Member) (told : List Bool) (seen : List ℕ → Bool) → told ≡ [] → ((q : List ℕ) → seen q ≡ false) → ToldSoFar all all told seen
told_start all told seen e none = record { later = []; whole = sym (append-nil all); same = ap reverse e; names = none }

either_cond : (b x : Bool) → cond b true x ≡ b || x
either_cond true x = refl
either_cond false x = refl

pub told_more : (all left now : List Member) (m : Member) (told : List Bool) (is_new : Bool) (name : List ℕ) (seen after : List ℕ → Bool) → ToldSoFar all left told seen → left ≡ now ++ m ∷ [] → name ≡ (member_of m).0 → is_new ≡ not (seen name) → ((q : List ℕ) → after q ≡ cond (bytes_eq name q) true (seen q)) → ToldSoFar all now (told ++ is_new ∷ []) after
told_more all left now m told is_new name seen after s cut e new update = record {
  later = m ∷ s.later;
  whole = s.whole ∙ ap (λ x. x ++ s.later) cut ∙ append_assoc now (m ∷ []) s.later;
  same = reverse-append told (is_new ∷ []) ∙ ap₂ (λ (b : Bool) (bs : List Bool). b ∷ bs) (new ∙ ap not (ap seen e ∙ s.names (member_of m).0)) s.same;
  names = λ q. update q ∙ ap₂ (λ (n : List ℕ) (x : Bool). cond (bytes_eq n q) true x) e (s.names q) ∙ either_cond (bytes_eq (member_of m).0 q) (has_name q (members_of (members_view s.later)));
}

pub told_end : (all left : List Member) (told : List Bool) (seen : List ℕ → Bool) → ToldSoFar all left told seen → left ≡ [] → reverse told ≡ stays all
told_end all left told seen s none = s.same ∙ ap stays (sym (s.whole ∙ ap (λ x. x ++ s.later) none))

-- where each member stays they are what they were
stays_at : (b : Bool) (bs : List Bool) → list_any not (not b ∷ bs) ≡ false → (b ≡ false) × (list_any not bs ≡ false)
stays_at true bs h = (cc, cc)
stays_at false bs h = (refl, h)

pub all_stay : (ms : List Member) → list_any not (stays ms) ≡ false → members_of (members_view ms) ≡ last_of_each (members_of (members_view ms))
all_stay [] h = refl
all_stay (m ∷ later) h =
    let at = stays_at (has_name (member_of m).0 (members_of (members_view later))) (stays later) h in
    ap (member (member_of m).0 (member_of m).1) (all_stay later at.1) ∙ sym (last_at m later false at.0)

-- those kept so far, those that are left from the end on, and what is said of these
pub record KeptByFlags (all left kept : List Member) (told : List Bool) : Type 0 where
  pub same : before_members (members_view kept) (last_of_each (members_of (members_view (reverse left)))) ≡ last_of_each (members_of (members_view all))
  pub flags : told ≡ stays (reverse left)

pub turned : (left now : List Member) (m : Member) → left ≡ now ++ m ∷ [] → reverse left ≡ m ∷ reverse now
turned left now m cut = ap reverse cut ∙ reverse-append now (m ∷ [])

first_of : (b c : Bool) (bs cs : List Bool) → b ∷ bs ≡ c ∷ cs → (b ≡ c) × (bs ≡ cs)
first_of b c bs cs e = (cc, cc)

not_false : (b : Bool) → true ≡ not b → b ≡ false
not_false true e = cc
not_false false e = refl

not_true : (b : Bool) → false ≡ not b → b ≡ true
not_true true e = refl
not_true false e = cc

flag_told : (all left now kept : List Member) (m : Member) (told behind : List Bool) (b : Bool) → KeptByFlags all left kept told → left ≡ now ++ m ∷ [] → told ≡ b ∷ behind → (b ≡ not (has_name (member_of m).0 (members_of (members_view (reverse now))))) × (behind ≡ stays (reverse now))
flag_told all left now kept m told behind b s cut first = first_of b (not (has_name (member_of m).0 (members_of (members_view (reverse now))))) behind (stays (reverse now)) (sym first ∙ s.flags ∙ ap stays (turned left now m cut))

pub flag_kept : (all left now kept : List Member) (m : Member) (told behind : List Bool) (b : Bool) → KeptByFlags all left kept told → left ≡ now ++ m ∷ [] → told ≡ b ∷ behind → b ≡ true → KeptByFlags all now (kept ++ m ∷ []) behind
flag_kept all left now kept m told behind b s cut first e =
    let at = flag_told all left now kept m told behind b s cut first in
    record {
      same =
          before_view kept m (last_of_each (members_of (members_view (reverse now))))
          ∙ ap (before_members (members_view kept)) (sym (last_at m (reverse now) false (not_false _ (sym e ∙ at.0))))
          ∙ ap (λ x. before_members (members_view kept) (last_of_each (members_of (members_view x)))) (sym (turned left now m cut))
          ∙ s.same;
      flags = at.1;
    }

pub flags_end : (all left kept : List Member) (told : List Bool) → KeptByFlags all left kept told → left ≡ [] → members_of (members_view kept) ≡ last_of_each (members_of (members_view all))
flags_end all left kept told s none =
    sym (ap (λ l. before_members (members_view kept) (last_of_each (members_of (members_view (reverse l))))) none ∙ before_none kept) ∙ s.same
