-- The place and the kind of a fault, by where bytes stop.
use Rattle.std.proofs.Common.{◌≡◌, ℕ, suc, ◌+◌, ◌<◌, List, [], ◌∷◌, ◌++◌, length, take, get_or, Option, Some, None, refl, sym, ap, ◌∙◌, subst, arith, ◌⊎◌, inl, inr, append_assoc, length-append, add-one}
use Rattle.std.specs.Str.{IsUtf8}
use Rattle.adx_json.specs.Grammar.{resolved}
use Rattle.adx_json.specs.Faults.{BeginsText, IsFaultPlace, BeginsLevel65, outside, place_behind}
use Rattle.adx_json.specs.Machine.{Frame, Mode, at_value, stuck, too_deep, step, stop_of}
use Rattle.adx_json.specs.declared.fault.Stop.{Stop}
use Rattle.adx_json.specs.declared.utf8.Tail.{Tail}
use Rattle.adx_json.proofs.Utf8Steps.{run_utf8, utf8_runs}
use Rattle.adx_json.proofs.Leads.{LeadsTo, Deeper, Stands, place_of, tail_of}
use Rattle.adx_json.proofs.StepLeads.{step_leads}
use Rattle.adx_json.proofs.Stops.{stop_step}
use Rattle.adx_json.proofs.Complete.{text_goes}
use Rattle.adx_json.proofs.Reaches.{Reaches, reach_stop, reach_sound, reach_stands, reach_place, reach_utf8, reach_deeper, reach_more, Halts, completes}

start_stands : (limit : ℕ) → Stands limit at_value []
start_stands limit = (omega arith, refl)

-- what is reached begins a text
pub reached_begins : (limit : ℕ) (bytes : List ℕ) (m : Mode) (fs : List Frame) → Reaches limit at_value [] bytes m fs → BeginsText limit bytes
reached_begins limit bytes m fs h =
    let k = completes limit m fs in
    let v = reach_sound limit at_value [] bytes k.0 m fs (start_stands limit) h k.1 in (
      k.0,
      resolved v.tree,
      record {
        written = v.tree;
        value = (v.space, v.value, v.behind, v.whole, v.spaced, v.is, v.after);
        shallow = omega (arith, v.shallow);
        means = refl;
      },
    )

some_none : (e : Stop) → Some e ≡ None → ⊥
some_none e h = cc

-- where the bytes stop, nothing that begins so is a text
stuck_ends : (limit : ℕ) (m : Mode) (fs : List Frame) (b : ℕ) (rest : List ℕ) → (step limit m fs b ≡ stuck) ⊎ (step limit m fs b ≡ too_deep) → stop_of limit m fs (b ∷ rest) ≡ None → ⊥
stuck_ends limit m fs b rest (inl e) h = some_none _ (sym (stop_step limit m fs b rest stuck e) ∙ h)
stuck_ends limit m fs b rest (inr e) h = some_none _ (sym (stop_step limit m fs b rest too_deep e) ∙ h)

never_begins : (limit : ℕ) (front : List ℕ) (b : ℕ) (m : Mode) (fs : List Frame) → Reaches limit at_value [] front m fs → (step limit m fs b ≡ stuck) ⊎ (step limit m fs b ≡ too_deep) → BeginsText limit (front ++ b ∷ []) → ⊥
never_begins limit front b m fs h e t =
    stuck_ends limit m fs b t.0 e (
    sym (reach_stop limit at_value [] front (b ∷ t.0) m fs h)
    ∙ ap (stop_of limit at_value []) (sym (append_assoc front (b ∷ []) t.0))
    ∙ text_goes limit ((front ++ b ∷ []) ++ t.0) t.1 t.2
    )

halts_step : (limit : ℕ) (m : Mode) (fs : List Frame) (b : ℕ) (rest : List ℕ) (e : Stop) → Halts limit m fs (b ∷ rest) e → (step limit m fs b ≡ stuck) ⊎ (step limit m fs b ≡ too_deep)
halts_step limit m fs b rest e (inl h) = inl h.0
halts_step limit m fs b rest e (inr h) = inr h.0

-- lists at a place
pub take_front : (front rest : List ℕ) → take (length front) (front ++ rest) ≡ front
take_front [] rest = refl
take_front (b ∷ front) rest = ap (λ x. b ∷ x) (take_front front rest)

take_one : (front : List ℕ) (b : ℕ) (rest : List ℕ) → take (suc (length front)) (front ++ b ∷ rest) ≡ front ++ b ∷ []
take_one [] b rest = refl
take_one (a ∷ front) b rest = ap (λ x. a ∷ x) (take_one front b rest)

pub take_next : (front : List ℕ) (b : ℕ) (rest : List ℕ) → take (length front + 1) (front ++ b ∷ rest) ≡ front ++ b ∷ []
take_next front b rest = ap (λ n. take n (front ++ b ∷ rest)) (add-one (length front)) ∙ take_one front b rest

pub byte_at : (front : List ℕ) (b : ℕ) (rest : List ℕ) → get_or (front ++ b ∷ rest) (length front) 0 ≡ b
byte_at [] b rest = refl
byte_at (a ∷ front) b rest = byte_at front b rest

-- the place
pub no_next : (front : List ℕ) → length front < length (front ++ []) → ⊥
no_next front h = omega (arith, length-append front [])

pub place_at : (front rest : List ℕ) (m : Mode) (fs : List Frame) (e : Stop) → stop_of 64 at_value [] (front ++ rest) ≡ Some e → Reaches 64 at_value [] front m fs → Halts 64 m fs rest e → IsFaultPlace (front ++ rest) (length front)
place_at front [] m fs e stops h halts = record {
  none = λ tree j. some_none e (sym stops ∙ text_goes 64 (front ++ []) tree j);
  within = omega (arith, length-append front []);
  begins = subst (BeginsText 64) (sym (take_front front [])) (reached_begins 64 front m fs h);
  longest = λ low t. no_next front low;
}
place_at front (b ∷ rest) m fs e stops h halts = record {
  none = λ tree j. some_none e (sym stops ∙ text_goes 64 (front ++ b ∷ rest) tree j);
  within = omega (arith, length-append front (b ∷ rest));
  begins = subst (BeginsText 64) (sym (take_front front (b ∷ rest))) (reached_begins 64 front m fs h);
  longest = λ low t. never_begins 64 front b m fs h (halts_step 64 m fs b rest e halts) (subst (BeginsText 64) (take_next front b rest) t);
}

stuck_deeper : (m : Mode) (fs : List Frame) (b : ℕ) → Stands 64 m fs → step 64 m fs b ≡ stuck → step 65 m fs b ≡ stuck
stuck_deeper m fs b stands e = subst (λ s. LeadsTo 64 m fs b s (step 65 m fs b)) e (step_leads 64 m fs b stands)

deep_deeper : (m : Mode) (fs : List Frame) (b : ℕ) → Stands 64 m fs → step 64 m fs b ≡ too_deep → Deeper b (step 65 m fs b)
deep_deeper m fs b stands e = subst (λ s. LeadsTo 64 m fs b s (step 65 m fs b)) e (step_leads 64 m fs b stands)

pub deep_at : (front : List ℕ) (b : ℕ) (rest : List ℕ) (m : Mode) (fs : List Frame) → Reaches 64 at_value [] front m fs → step 64 m fs b ≡ too_deep → BeginsLevel65 (front ++ b ∷ rest) (length front)
deep_at front b rest m fs h e =
    let stands = reach_stands 64 at_value [] front m fs (start_stands 64) h in
    let d = deep_deeper m fs b stands e in
    record {
      within = omega (arith, length-append front (b ∷ rest));
      opens = subst (λ x. (x ≡ 91) ⊎ (x ≡ 123)) (sym (byte_at front b rest)) d.opens;
      deeper = subst (BeginsText 65) (sym (take_next front b rest)) (reached_begins 65 (front ++ b ∷ []) d.next d.around (reach_more 65 at_value [] front b m fs d.next d.around (reach_deeper 64 at_value [] front m fs (start_stands 64) h) d.is));
    }

pub not_deep : (front : List ℕ) (b : ℕ) (rest : List ℕ) (m : Mode) (fs : List Frame) → Reaches 64 at_value [] front m fs → step 64 m fs b ≡ stuck → BeginsLevel65 (front ++ b ∷ rest) (length front) → ⊥
not_deep front b rest m fs h e d =
    let stands = reach_stands 64 at_value [] front m fs (start_stands 64) h in
    never_begins 65 front b m fs (reach_deeper 64 at_value [] front m fs (start_stands 64) h) (inl (stuck_deeper m fs b stands e)) (subst (BeginsText 65) (take_next front b rest) d.deeper)

-- UTF-8
none_some : (t : Option Tail) (u : Tail) → t ≡ Some u → Some t ≡ Some None → ⊥
none_some t u e h = cc

pub ends_within : (front : List ℕ) (m : Mode) (fs : List Frame) (u : Tail) → Reaches 64 at_value [] front m fs → tail_of m ≡ Some u → IsUtf8 front → ⊥
ends_within front m fs u h e text =
    none_some (tail_of m) u e (sym (reach_utf8 64 at_value [] front m fs (start_stands 64) h) ∙ utf8_runs front text)

pub ends_whole : (front : List ℕ) (m : Mode) (fs : List Frame) → Reaches 64 at_value [] front m fs → tail_of m ≡ None → IsUtf8 front
ends_whole front m fs h e = run_utf8 None front (reach_utf8 64 at_value [] front m fs (start_stands 64) h ∙ ap (λ t. Some t) e)

pub reached_place : (front : List ℕ) (m : Mode) (fs : List Frame) → Reaches 64 at_value [] front m fs → place_behind outside front ≡ place_of m
reached_place front m fs h = reach_place 64 at_value [] front m fs (start_stands 64) h
