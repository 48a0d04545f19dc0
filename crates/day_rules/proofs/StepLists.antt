-- The steps of a history grow by one with each entry.
use Rattle.std.proofs.Common.{◌≡◌, ℕ, ◌+◌, ◌<◌, ◌≤◌, List, [], ◌∷◌, ◌++◌, map, length, take, refl, ap, ◌∙◌, arith}
use Rattle.std.specs.List.{enumerate_from}
use Rattle.std.proofs.Math.Seq.{take-append_seam}
use Rattle.std.proofs.lemmas.List.{take-append-le}
use Rattle.std.proofs.lemmas.Option.{slice_get_within}
use Rattle.day_rules.specs.declared.entry.Entry.{Entry}
use Rattle.day_rules.proofs.Lists.{enumerate-append}
use Rattle.day_rules.proofs.Pushing.{map_same}
use Rattle.day_rules.specs.declared.step.MeterStep.{MeterStep}
use Rattle.day_rules.specs.DayMeters.{step_of, steps_of}

map_both : {X Y : Type 0} (f : X → Y) (xs ys : List X) → map f (xs ++ ys) ≡ map f xs ++ map f ys
map_both f [] ys = refl
map_both f (x ∷ xs) ys = ap (λ zs. f x ∷ zs) (map_both f xs ys)

abbrev at_place : List Entry → ℕ × Entry → MeterStep
at_place history p = step_of (take p.0 history) p.1

pub steps_push : (history : List Entry) (e : Entry) → steps_of (history ++ e ∷ []) ≡ steps_of history ++ step_of history e ∷ []
steps_push history e =
    let more : List Entry = history ++ e ∷ [] in
    let parts : map (at_place more) (enumerate_from 0 more) ≡ map (at_place more) (enumerate_from 0 history ++ enumerate_from (0 + length history) (e ∷ [])) =
    ap (map (at_place more)) (enumerate-append 0 history (e ∷ [])) in
    let split = map_both (at_place more) (enumerate_from 0 history) (enumerate_from (0 + length history) (e ∷ [])) in
    let old : map (at_place more) (enumerate_from 0 history) ≡ map (at_place history) (enumerate_from 0 history) =
    map_same (at_place more) (at_place history) 0 history (λ k x at.
    let below : k < length history = slice_get_within history k x at in
    let short : 0 + k ≤ length history = omega arith in
    ap (λ h. step_of h x) (take-append-le (0 + k) history (e ∷ []) short)) in
    let whole : take (0 + length history) more ≡ history = ap (λ (k : ℕ). take k more) (omega arith) ∙ take-append_seam history (e ∷ []) in
    parts ∙ (split ∙ (ap (λ l. l ++ map (at_place more) (enumerate_from (0 + length history) (e ∷ []))) old
    ∙ ap (λ h. map (at_place history) (enumerate_from 0 history) ++ step_of h e ∷ []) whole))
