-- Members whose names come again are left out one after another.
use Rattle.std.proofs.Common.{◌≡◌, ℕ, zero, suc, ◌+◌, ◌<◌, ◌≤◌, List, [], ◌∷◌, ◌++◌, length, take, drop, Bool, false, cond, ◌||◌, refl, sym, ap, ap₂, ◌∙◌, subst, arith, add-one}
use Rattle.std.specs.List.{list_any}
use Rattle.std.specs.Str.{bytes_eq}
use Rattle.adx_json.specs.Tree.{Members, no_members, member, members_of}
use Rattle.adx_json.specs.Grammar.{has_name, last_of_each}
use Rattle.adx_json.specs.View.{member_of, members_view}
use Rattle.adx_json.specs.Repeats.{ComesAgain}
use Rattle.adx_json.specs.declared.tree.Member.{Member}
use Rattle.adx_json.proofs.Names.{has_name_of, name_is}
use Rattle.adx_json.proofs.ReadMembers.{before_members}

pub has_name_list : (ms : List Member) (name : List ℕ) → list_any (has_name_of name) ms ≡ has_name name (members_of (members_view ms))
has_name_list [] name = refl
has_name_list (m ∷ ms) name = ap₂ (λ (k : List ℕ) (b : Bool). bytes_eq k name || b) (name_is m) (has_name_list ms name)

-- those kept so far, and those that are left
pub record KeptSoFar (all kept : List Member) (at : ℕ) : Type 0 where
  pub same : before_members (members_view (take at kept)) (last_of_each (members_of (members_view (drop at kept)))) ≡ last_of_each (members_of (members_view all))
  pub within : at ≤ length kept

drop_next : (at : ℕ) (ms : List Member) (m : Member) (later : List Member) → drop at ms ≡ m ∷ later → drop (suc at) ms ≡ later
drop_next zero [] m later e = cc
drop_next zero (x ∷ ms) m later e = cc
drop_next (suc at) [] m later e = cc
drop_next (suc at) (x ∷ ms) m later e = drop_next at ms m later e

take_next : (at : ℕ) (ms : List Member) (m : Member) (later : List Member) → drop at ms ≡ m ∷ later → take (suc at) ms ≡ take at ms ++ m ∷ []
take_next zero [] m later e = cc
take_next zero (x ∷ ms) m later e = let same : x ≡ m = cc in ap (λ y. y ∷ []) same
take_next (suc at) [] m later e = cc
take_next (suc at) (x ∷ ms) m later e = ap (λ y. x ∷ y) (take_next at ms m later e)

pub before_view : (ms : List Member) (m : Member) (us : Members) → before_members (members_view (ms ++ m ∷ [])) us ≡ before_members (members_view ms) (member (member_of m).0 (member_of m).1 us)
before_view [] m us = refl
before_view (x ∷ ms) m us = ap (member (member_of x).0 (member_of x).1) (before_view ms m us)

pub last_at : (m : Member) (later : List Member) (b : Bool) → has_name (member_of m).0 (members_of (members_view later)) ≡ b
    → last_of_each (members_of (members_view (m ∷ later))) ≡ cond b (last_of_each (members_of (members_view later))) (member (member_of m).0 (member_of m).1 (last_of_each (members_of (members_view later))))
last_at m later b e = ap (λ x. cond x (last_of_each (members_of (members_view later))) (member (member_of m).0 (member_of m).1 (last_of_each (members_of (members_view later))))) e

-- a member that isn't repeated is kept
pub kept_more : (all kept : List Member) (at : ℕ) (again : Bool) → KeptSoFar all kept at → ComesAgain kept at again → at < length kept → again ≡ false → KeptSoFar all kept (at + 1)
kept_more all kept at again s c low e = subst (KeptSoFar all kept) (sym (add-one at)) (record {
  same =
      ap₂ (λ (x y : List Member). before_members (members_view x) (last_of_each (members_of (members_view y)))) (take_next at kept c.member c.later c.whole) (drop_next at kept c.member c.later c.whole)
      ∙ before_view (take at kept) c.member (last_of_each (members_of (members_view c.later)))
      ∙ ap (before_members (members_view (take at kept))) (sym (last_at c.member c.later false (sym c.is ∙ e)))
      ∙ ap (λ x. before_members (members_view (take at kept)) (last_of_each (members_of (members_view x)))) (sym c.whole)
      ∙ s.same;
  within = low;
})

take_front : (front rest : List Member) → take (length front) (front ++ rest) ≡ front
take_front [] rest = refl
take_front (x ∷ front) rest = ap (λ y. x ∷ y) (take_front front rest)

drop_front : (front rest : List Member) → drop (length front) (front ++ rest) ≡ rest
drop_front [] rest = refl
drop_front (x ∷ front) rest = drop_front front rest

drop_past : (at : ℕ) (ms : List Member) → length ms ≤ at → drop at ms ≡ []
drop_past zero [] h = refl
drop_past zero (x ∷ ms) h = absurd (omega arith)
drop_past (suc at) [] h = refl
drop_past (suc at) (x ∷ ms) h = drop_past at ms (omega arith)

take_past : (at : ℕ) (ms : List Member) → length ms ≤ at → take at ms ≡ ms
take_past zero [] h = refl
take_past zero (x ∷ ms) h = absurd (omega arith)
take_past (suc at) [] h = refl
take_past (suc at) (x ∷ ms) h = ap (λ y. x ∷ y) (take_past at ms (omega arith))

pub before_none : (ms : List Member) → before_members (members_view ms) no_members ≡ members_of (members_view ms)
before_none [] = refl
before_none (m ∷ ms) = ap (member (member_of m).0 (member_of m).1) (before_none ms)

pub kept_end : (all kept : List Member) (at : ℕ) → KeptSoFar all kept at → length kept ≤ at → members_of (members_view kept) ≡ last_of_each (members_of (members_view all))
kept_end all kept at s past =
    sym (ap₂ (λ (x y : List Member). before_members (members_view x) (last_of_each (members_of (members_view y)))) (take_past at kept past) (drop_past at kept past) ∙ before_none kept)
    ∙ s.same
