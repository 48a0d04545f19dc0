-- Where bytes break UTF-8.
use Rattle.std.proofs.Common.{◌≡◌, ℕ, suc, ◌+◌, ◌<◌, ◌≤◌, List, [], ◌∷◌, ◌++◌, length, Bool, true, false, cond, Option, Some, None, refl, sym, ap, ◌∙◌, arith, ltb, append_assoc, append-nil, length-append, zero-add}
use Rattle.std.proofs.lemmas.Bool.{cond-true, and_parts, and_from, ltb-false, le-leb}
use Rattle.std.specs.List.{list_all}
use Rattle.std.specs.Str.{IsUtf8}
use Rattle.adx_units.specs.JsonTexts.{is_bare}
use Rattle.adx_units.specs.Scans.{Stops}
use Rattle.adx_json.specs.Machine.{Frame, characters, Role, in_text, stuck, step, stop_of, at_end, utf8_step, behind_lead, after_lead, from_tail, within_fault}
use Rattle.adx_json.specs.declared.utf8.Tail.{Tail}
use Rattle.adx_json.specs.declared.fault.Stop.TheVariants.{Utf8}
use Rattle.adx_json.specs.Found.{BreaksIn}
use Rattle.adx_units.proofs.Bare.{escaped_low}
use Rattle.adx_json.proofs.Utf8Steps.{utf8_run, runs_on, run_utf8}
use Rattle.adx_json.proofs.TextLeads.{tail_wide}
use Rattle.adx_json.proofs.Stops.{stop_step, stop_end, character_stuck, stop_characters, run_parts}

-- a run of bytes was gone over up to what is left
pub record BrokenSoFar (bytes : List ℕ) (tail : Option Tail) (left : List ℕ) : Type 0 where
  pub front : List ℕ
  pub whole : bytes ≡ front ++ left
  pub ran : utf8_run None front ≡ Some tail
  pub front_bare : list_all is_bare front ≡ true
  pub left_bare : list_all is_bare left ≡ true

bare_more : (xs : List ℕ) (b : ℕ) → list_all is_bare xs ≡ true → is_bare b ≡ true → list_all is_bare (xs ++ b ∷ []) ≡ true
bare_more [] b h k = and_from _ _ k refl
bare_more (x ∷ xs) b h k =
    let parts = and_parts (is_bare x) (list_all is_bare xs) h in
    and_from _ _ parts.0 (bare_more xs b parts.1 k)

run_more : (t o : Option Tail) (xs : List ℕ) (b : ℕ) (n : Option Tail) → utf8_run t xs ≡ Some o → utf8_step o b ≡ Some n → utf8_run t (xs ++ b ∷ []) ≡ Some n
run_more t o [] b n h e =
    let same : t ≡ o = cc in
    runs_on t n b [] (ap (λ x. utf8_step x b) same ∙ e)
run_more t o (x ∷ xs) b n h e =
    let k = run_parts t o x xs h in
    runs_on t k.0 x (xs ++ b ∷ []) k.1 ∙ run_more k.0 o xs b n k.2 e

pub broken_more : (bytes : List ℕ) (t n : Option Tail) (left : List ℕ) (b : ℕ) (rest : List ℕ) → BrokenSoFar bytes t left → left ≡ b ∷ rest → utf8_step t b ≡ Some n → BrokenSoFar bytes n rest
broken_more bytes t n left b rest s first e =
    let bare = and_parts (is_bare b) (list_all is_bare rest) (sym (ap (list_all is_bare) first) ∙ s.left_bare) in
    record {
      front = s.front ++ b ∷ [];
      whole = s.whole ∙ ap (λ x. s.front ++ x) first ∙ sym (append_assoc s.front (b ∷ []) rest);
      ran = run_more None t s.front b n s.ran e;
      front_bare = bare_more s.front b s.front_bare bare.0;
      left_bare = bare.1;
    }

goes_to : (bytes : List ℕ) (t : Option Tail) (left : List ℕ) → BrokenSoFar bytes t left → (role : Role) (fs : List Frame) (rest : List ℕ) → stop_of 64 (in_text role (characters None)) fs (bytes ++ rest) ≡ stop_of 64 (in_text role (characters t)) fs (left ++ rest)
goes_to bytes t left s role fs rest =
    ap (λ x. stop_of 64 (in_text role (characters None)) fs (x ++ rest)) s.whole
    ∙ ap (stop_of 64 (in_text role (characters None)) fs) (append_assoc s.front left rest)
    ∙ stop_characters 64 role fs None t s.front (left ++ rest) s.front_bare s.ran

-- a byte that can't come, within a character or as its first
no_lead : (b : ℕ) (t : Bool) → ltb b 128 ≡ t → cond t (Some None) (behind_lead (after_lead b)) ≡ None → 128 ≤ b
no_lead b true e h = cc
no_lead b false e h = ltb-false b 128 e

stuck_fault : (t : Option Tail) (b left : ℕ) → utf8_step t b ≡ None → within_fault (characters t) left b ≡ Utf8 left
stuck_fault None b left e = cond-true _ _ _ (le-leb 128 b (no_lead b (ltb b 128) refl e))
stuck_fault (Some t) b left e = refl

pub broken_at : (bytes : List ℕ) (t : Option Tail) (left : List ℕ) (b : ℕ) (behind : List ℕ) → BrokenSoFar bytes t left → left ≡ b ∷ behind → utf8_step t b ≡ None → BreaksIn bytes (length left)
broken_at bytes t left b behind s first e role fs rest stops =
    let bare = and_parts (is_bare b) (list_all is_bare behind) (sym (ap (list_all is_bare) first) ∙ s.left_bare) in
    let many : suc (length (behind ++ rest)) ≡ length left + length rest = (
    let k : length left ≡ suc (length behind) = ap length first in
    omega (arith, length-append behind rest)
    ) in
    goes_to bytes t left s role fs rest
    ∙ ap (λ x. stop_of 64 (in_text role (characters t)) fs (x ++ rest)) first
    ∙ stop_step 64 (in_text role (characters t)) fs b (behind ++ rest) stuck (character_stuck 64 role fs t b bare.0 e)
    ∙ ap (λ e. Some e) (stuck_fault t b (suc (length (behind ++ rest))) e)
    ∙ ap (λ n. Some (Utf8 n)) many

-- a character that lacks its end
tail_end : (role : Role) (fs : List Frame) (t : Tail) → at_end (in_text role (characters (Some t))) fs ≡ Some (Utf8 0)
unfolding at_end
tail_end role fs t = refl

no_step : (t : Tail) (b : ℕ) (o : Option (Option Tail)) → utf8_step (Some t) b ≡ o → b < 128 → o ≡ None
no_step t b None e low = refl
no_step t b (Some n) e low =
    let wide : 128 ≤ b = tail_wide t b n e in
    absurd (omega arith)

tail_stuck : (role : Role) (fs : List Frame) (t : Tail) (b : ℕ) → utf8_step (Some t) b ≡ None → step 64 (in_text role (characters (Some t))) fs b ≡ stuck
unfolding step
tail_stuck role fs t b e = ap (from_tail role fs) e

cut_stop : (role : Role) (fs : List Frame) (t : Tail) (rest : List ℕ) → Stops is_bare rest → stop_of 64 (in_text role (characters (Some t))) fs rest ≡ Some (Utf8 (length rest))
cut_stop role fs t [] h = stop_end 64 (in_text role (characters (Some t))) fs ∙ tail_end role fs t
cut_stop role fs t (b ∷ rest) h =
    stop_step 64 (in_text role (characters (Some t))) fs b rest stuck (tail_stuck role fs t b (no_step t b (utf8_step (Some t) b) refl (escaped_low b h)))

cut_at : (bytes : List ℕ) (t : Option Tail) → utf8_run None bytes ≡ Some t → list_all is_bare bytes ≡ true → (IsUtf8 bytes → ⊥) → BreaksIn bytes 0
cut_at bytes None ran bare broken = absurd (broken (run_utf8 None bytes ran))
cut_at bytes (Some t) ran bare broken = λ role fs rest stops.
    stop_characters 64 role fs None (Some t) bytes rest bare ran ∙ cut_stop role fs t rest stops ∙ ap (λ n. Some (Utf8 n)) (sym (zero-add (length rest)))

empty_of : (bytes : List ℕ) → length bytes ≡ 0 → bytes ≡ []
empty_of [] e = refl
empty_of (b ∷ bytes) e = absurd (omega arith)

pub broken_end : (bytes : List ℕ) (t : Option Tail) (left : List ℕ) → BrokenSoFar bytes t left → length left ≡ 0 → (IsUtf8 bytes → ⊥) → BreaksIn bytes 0
broken_end bytes t left s none broken =
    let all : bytes ≡ s.front = s.whole ∙ ap (λ x. s.front ++ x) (empty_of left none) ∙ append-nil s.front in
    cut_at bytes t (ap (utf8_run None) all ∙ s.ran) (ap (list_all is_bare) all ∙ s.front_bare) broken
