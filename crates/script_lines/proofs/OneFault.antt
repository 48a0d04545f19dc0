-- Bytes that are no JSON text have one fault.
use Rattle.std.proofs.Common.{◌≡◌, ◌≢◌, inl, inr, ◌⊎◌, ℕ, ◌+◌, ◌-◌, ◌<◌, List, [], ◌∷◌, ◌++◌, length, take, drop, Bool, true, false, nat_lt, Option, Some, None, refl, sym, ap, ◌∙◌, subst, append_assoc, arith}
use Rattle.std.proofs.lemmas.Bool.{ltb-true, ltb-false}
use Rattle.std.proofs.lemmas.List.{take_more}
use Rattle.std.proofs.Math.Seq.{take-add}
use Rattle.std.specs.Prelude.{slice_index, IsUtf8}
use Rattle.adx_json.specs.Grammar.{IsJsonTo}
use Rattle.adx_json.specs.Faults.{IsFault, IsFaultPlace, BeginsLevel65, BreaksUtf8}
use Rattle.adx_json.specs.Machine.{Within, characters, Mode, at_value, Frame, Step, moves, stuck, too_deep, step, stop_of, utf8_step}
use Rattle.adx_json.specs.declared.fault.JsonFault.{JsonFault}
use Rattle.adx_json.proofs.Complete.{text_goes}
use Rattle.adx_json.proofs.Leads.{Stands}
use Rattle.adx_json.proofs.Reaches.{Reaches, reach_utf8}
use Rattle.adx_json.proofs.Stops.{stop_step, goes_on}
use Rattle.adx_json.proofs.Utf8Steps.{utf8_run, runs_on, run_utf8}
use Rattle.adx_json.proofs.TextLeads.{tail_wide}

-- what doesn't stop reaches some mode behind each front
abbrev Reach : ℕ → Mode → List Frame → List ℕ → Type 0
Reach limit m fs bytes = (last : Mode) × (around : List Frame) × Reaches limit m fs bytes last around

reach_by : (limit : ℕ) (m : Mode) (fs : List Frame) (b : ℕ) (bytes more : List ℕ) (s : Step) → step limit m fs b ≡ s
    → ((next : Mode) (gs : List Frame) → stop_of limit next gs (bytes ++ more) ≡ None → Reach limit next gs bytes)
    → goes_on limit m b (bytes ++ more) s ≡ None → Reach limit m fs (b ∷ bytes)
reach_by limit m fs b bytes more (moves next gs) is later h =
    let r = later next gs h in
    (r.0, r.1, (next, gs, is, r.2))
reach_by limit m fs b bytes more stuck is later h = absurd (cc h)
reach_by limit m fs b bytes more too_deep is later h = absurd (cc h)

reach_front : (limit : ℕ) (m : Mode) (fs : List Frame) (bytes more : List ℕ) → stop_of limit m fs (bytes ++ more) ≡ None → Reach limit m fs bytes
reach_front limit m fs [] more h = (m, fs, (refl, refl))
reach_front limit m fs (b ∷ bytes) more h =
    reach_by limit m fs b bytes more (step limit m fs b) refl (λ next gs k. reach_front limit next gs bytes more k) (sym (stop_step limit m fs b (bytes ++ more) (step limit m fs b) refl) ∙ h)

start_stands : (limit : ℕ) → Stands limit at_value []
start_stands limit = (omega arith, refl)

-- the type of what is left of a character, which its crate doesn't name to others
abbrev left_of : {T : Type 0} → (Option T → Within) → Type 0
left_of {T} make = T

abbrev Tail : Type 0
Tail = left_of characters

-- no character goes on with an ASCII byte
runs_off : (t : Option Tail) (b : ℕ) (bs : List ℕ) → utf8_step t b ≡ None → utf8_run t (b ∷ bs) ≡ None
runs_off t b bs e = ap (λ (o : Option (Option Tail)). elim o as (λ _. Option (Option Tail)) [ Some n ↦ utf8_run n bs | None ↦ None ]) e

none_is_some : (o : Option (Option Tail)) (u : Option Tail) → o ≡ None → o ≡ Some u → ⊥
none_is_some o u a b = cc (sym a ∙ b)

no_tail : (t : Tail) (b : ℕ) (u : Option Tail) (s : Option (Option Tail)) → b < 128 → utf8_step (Some t) b ≡ s → utf8_run (Some t) (b ∷ []) ≡ Some u → ⊥
no_tail t b u (Some o) low e h =
    let wide = tail_wide t b o e in
    absurd (omega (arith, low, wide))
no_tail t b u None low e h = none_is_some (utf8_run (Some t) (b ∷ [])) u (runs_off (Some t) b [] e) h

split_by : (t : Option Tail) (a : ℕ) (front : List ℕ) (b : ℕ) (u : Option Tail) (s : Option (Option Tail)) → utf8_step t a ≡ s
    → ((next : Option Tail) → utf8_run next (front ++ b ∷ []) ≡ Some u → utf8_run next front ≡ Some None)
    → utf8_run t (a ∷ (front ++ b ∷ [])) ≡ Some u → utf8_run t (a ∷ front) ≡ Some None
split_by t a front b u (Some next) e later h = runs_on t next a front e ∙ later next (sym (runs_on t next a (front ++ b ∷ []) e) ∙ h)
split_by t a front b u None e later h = absurd (none_is_some (utf8_run t (a ∷ (front ++ b ∷ []))) u (runs_off t a (front ++ b ∷ []) e) h)

-- what stands before an ASCII byte ends with a character
run_split : (t : Option Tail) (front : List ℕ) (b : ℕ) (u : Option Tail) → b < 128 → utf8_run t (front ++ b ∷ []) ≡ Some u → utf8_run t front ≡ Some None
run_split None [] b u low h = refl
run_split (Some t) [] b u low h = absurd (no_tail t b u (utf8_step (Some t) b) low refl h)
run_split t (a ∷ front) b u low h =
    split_by t a front b u (utf8_step t a) refl (λ next k. run_split next front b u low k) h

front_utf8 : (bytes : List ℕ) (at : ℕ) → BeginsLevel65 bytes at → IsUtf8 (take at bytes)
front_utf8 bytes at d =
    let b = slice_index bytes at in
    let low : b < 128 = opened d.opens in
    let text = text_goes 65 (take (at + 1) bytes ++ d.deeper.0) d.deeper.1 d.deeper.2 in
    let reach = reach_front 65 at_value [] (take (at + 1) bytes) d.deeper.0 text in
    let runs = reach_utf8 65 at_value [] (take (at + 1) bytes) reach.0 reach.1 (start_stands 65) reach.2 in
    run_utf8 None (take at bytes) (run_split None (take at bytes) b _ low (ap (utf8_run None) (sym (take_more bytes at 0 d.within)) ∙ runs))
  where
    opened : (slice_index bytes at ≡ 91) ⊎ (slice_index bytes at ≡ 123) → slice_index bytes at < 128
    opened (inl e) = omega (arith, e)
    opened (inr e) = omega (arith, e)

-- a place has one kind of fault
one_kind : (bytes : List ℕ) (at : ℕ) → BreaksUtf8 bytes at → BeginsLevel65 bytes at → ⊥
one_kind bytes at (inl wide) d = by d.opens
  where
    by : (slice_index bytes at ≡ 91) ⊎ (slice_index bytes at ≡ 123) → ⊥
    by (inl e) = absurd (omega (arith, e, wide.wide))
    by (inr e) = absurd (omega (arith, e, wide.wide))
one_kind bytes at (inr broken) d = broken (front_utf8 bytes at d)

-- the place of a fault is one
not_later : (bytes : List ℕ) (a b : ℕ) → IsFaultPlace bytes a → IsFaultPlace bytes b → a < b → ⊥
not_later bytes a b x y later =
    let n = b - (a + 1) in
    let is : a + 1 + n ≡ b = omega (arith, later) in
    let cut : take b bytes ≡ take (a + 1) bytes ++ take n (drop (a + 1) bytes) = ap (λ k. take k bytes) (sym is) ∙ take-add (a + 1) n bytes in
    let begins = y.begins in
    let rest = take n (drop (a + 1) bytes) in
    let inside : a < length bytes = omega (arith, later, y.within) in
    x.longest inside (rest ++ begins.0, begins.1, subst (λ l. IsJsonTo 64 l begins.1) (ap (λ l. l ++ begins.0) cut ∙ append_assoc (take (a + 1) bytes) rest begins.0) begins.2)

place_one : (bytes : List ℕ) (a b : ℕ) → IsFaultPlace bytes a → IsFaultPlace bytes b → (p q : Bool) → nat_lt a b ≡ p → nat_lt b a ≡ q → a ≡ b
place_one bytes a b x y true q e f = absurd (not_later bytes a b x y (ltb-true a b e))
place_one bytes a b x y false true e f = absurd (not_later bytes b a y x (ltb-true b a f))
place_one bytes a b x y false false e f = omega (arith, ltb-false a b e, ltb-false b a f)

place_is : (bytes : List ℕ) (a b : ℕ) → IsFaultPlace bytes a → IsFaultPlace bytes b → a ≡ b
place_is bytes a b x y = place_one bytes a b x y (nat_lt a b) (nat_lt b a) refl refl

pub one_fault : (line : List ℕ) (f g : JsonFault) → f ≢ JsonFault.OutOfMemory → g ≢ JsonFault.OutOfMemory → IsFault line f → IsFault line g → f ≡ g
one_fault line (JsonFault.Syntax a) (JsonFault.Syntax b) ne ne' x y = ap (λ n. JsonFault.Syntax n) (place_is line a b x.0 y.0)
one_fault line (JsonFault.Syntax a) (JsonFault.Utf8 b) ne ne' x y = absurd (x.2 (subst (BreaksUtf8 line) (sym (place_is line a b x.0 y.0)) y.1))
one_fault line (JsonFault.Syntax a) (JsonFault.Depth b) ne ne' x y = absurd (x.1 (subst (BeginsLevel65 line) (sym (place_is line a b x.0 y.0)) y.1))
one_fault line (JsonFault.Utf8 a) (JsonFault.Syntax b) ne ne' x y = absurd (y.2 (subst (BreaksUtf8 line) (place_is line a b x.0 y.0) x.1))
one_fault line (JsonFault.Utf8 a) (JsonFault.Utf8 b) ne ne' x y = ap (λ n. JsonFault.Utf8 n) (place_is line a b x.0 y.0)
one_fault line (JsonFault.Utf8 a) (JsonFault.Depth b) ne ne' x y = absurd (one_kind line a x.1 (subst (BeginsLevel65 line) (sym (place_is line a b x.0 y.0)) y.1))
one_fault line (JsonFault.Depth a) (JsonFault.Syntax b) ne ne' x y = absurd (y.1 (subst (BeginsLevel65 line) (place_is line a b x.0 y.0) x.1))
one_fault line (JsonFault.Depth a) (JsonFault.Utf8 b) ne ne' x y = absurd (one_kind line b y.1 (subst (BeginsLevel65 line) (place_is line a b x.0 y.0) x.1))
one_fault line (JsonFault.Depth a) (JsonFault.Depth b) ne ne' x y = ap (λ n. JsonFault.Depth n) (place_is line a b x.0 y.0)
one_fault line JsonFault.OutOfMemory g ne ne' x y = absurd (ne refl)
one_fault line (JsonFault.Syntax a) JsonFault.OutOfMemory ne ne' x y = absurd (ne' refl)
one_fault line (JsonFault.Utf8 a) JsonFault.OutOfMemory ne ne' x y = absurd (ne' refl)
one_fault line (JsonFault.Depth a) JsonFault.OutOfMemory ne ne' x y = absurd (ne' refl)
