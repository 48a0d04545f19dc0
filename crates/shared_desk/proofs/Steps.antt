-- The steps of a history: those of a beginning begin them, and the meters stay in their range whichever were taken.
use Rattle.std.proofs.Common.{◌≡◌, ℕ, ◌+◌, ◌≤◌, List, [], ◌∷◌, ◌++◌, length, take, drop, fold, refl, sym, ap, ◌∙◌, subst, arith, append_assoc, append-nil, length-append}
use Rattle.std.specs.Prelude.{Result, Ok, Err, IfOk, min}
use Rattle.std.proofs.Math.Nat.{min-eq_left, min-eq_right}
use Rattle.std.proofs.Math.Seq.{take-add, take-length}
use Rattle.std.proofs.lemmas.List.{drop_min, length-take, take-append-drop, take_all, take_at}
use mathlib.Core.Logic.{dite}
use native.Mathlib.Decide.{dec_le}
use mathlib.Core.List.{IsPrefix}
use Rattle.day_rules.specs.declared.entry.Entry.{Entry}
use Rattle.day_rules.specs.DayState.{IsDay}
use Rattle.day_rules.specs.Terms.{Terms}
use Rattle.day_rules.proofs.Histories.{legal_front}
use Rattle.day_rules.specs.declared.meters.Meters.{Meters}
use Rattle.day_rules.specs.declared.step.MeterStep.{MeterStep}
use Rattle.day_rules.specs.Steps.{after, meters_of, no_meters, InRange, StayInRange}
use Rattle.day_rules.specs.DayMeters.{step_of, steps_of}
use Rattle.day_rules.proofs.StepLists.{steps_push}
use Rattle.day_rules.proofs.Campaigns.{day_meters}

-- the steps of a beginning begin the steps
pub steps_more : (before rest : List Entry) → IsPrefix (steps_of before) (steps_of (before ++ rest))
steps_more before [] = ([], append-nil (steps_of before) ∙ ap (λ (l : List Entry). steps_of l) (sym (append-nil before)))
steps_more before (e ∷ rest) =
    let r = steps_more (before ++ e ∷ []) rest in
    let step : List MeterStep = step_of before e ∷ [] in (
      step ++ r.0,
      sym (append_assoc (steps_of before) step r.0) ∙ (ap (λ (l : List MeterStep). l ++ r.0) (sym (steps_push before e)) ∙ (r.1 ∙ ap (λ (l : List Entry). steps_of l) (append_assoc before (e ∷ []) rest))),
    )

-- the steps of what begins a history begin its steps
pub prefix_of_steps : (xs ys : List Entry) → IsPrefix xs ys → IsPrefix (steps_of xs) (steps_of ys)
prefix_of_steps xs ys p = subst (λ (l : List Entry). IsPrefix (steps_of xs) (steps_of l)) p.1 (steps_more xs p.0)

-- each entry has one step
pub steps_length : (before rest : List Entry) → length (steps_of before) ≡ length before → length (steps_of (before ++ rest)) ≡ length (before ++ rest)
steps_length before [] e = subst (λ (l : List Entry). length (steps_of l) ≡ length l) (sym (append-nil before)) e
steps_length before (x ∷ rest) e =
    let one : length (steps_of (before ++ x ∷ [])) ≡ length (before ++ x ∷ []) =
    omega (arith, ap (λ (l : List MeterStep). length l) (steps_push before x), length-append (steps_of before) (step_of before x ∷ []), length-append before (x ∷ []), e) in
    subst (λ (l : List Entry). length (steps_of l) ≡ length l) (append_assoc before (x ∷ []) rest) (steps_length (before ++ x ∷ []) rest one)

pub as_many : (history : List Entry) → length (steps_of history) ≡ length history
as_many history = steps_length [] history refl

-- a beginning of the steps is the steps of a beginning
pub steps_front : (n : ℕ) (history : List Entry) → n ≤ length history → take n (steps_of history) ≡ steps_of (take n history)
steps_front n history short =
    let p = prefix_of_steps (take n history) history (drop n history, take-append-drop n history) in
    let long : length (steps_of (take n history)) ≡ n = omega (arith, as_many (take n history), length-take n history, short) in
    ap (λ (l : List MeterStep). take n l) (sym p.1) ∙ take_at (steps_of (take n history)) p.0 n long

-- the fold of two lists is that of the second from the first's
fold_both : (m : Meters) (front more : List MeterStep) → fold after m (front ++ more) ≡ fold after (fold after m front) more
fold_both m [] more = refl
fold_both m (s ∷ front) more = fold_both (after m s) front more

front_in_range : (terms : Terms) (history : List Entry) → IsDay terms history → (n : ℕ) → n ≤ length history → InRange (meters_of (take n (steps_of history)))
front_in_range terms history day n short =
    let front : List Entry = take n history in
    let fine : IsDay terms front = record { terms_ok = day.terms_ok; legal = legal_front terms front (drop n history) (subst (λ (l : List Entry). IsDay terms l) (sym (take-append-drop n history)) day).legal } in
    let m = day_meters terms front fine in
    subst (λ (l : List MeterStep). InRange (meters_of l)) (sym (steps_front n history short)) (subst InRange (sym m.folded) m.in_range)

-- the meters stay in their range over the rest of the steps, from each place on
pub steps_stay : (terms : Terms) (history : List Entry) → IsDay terms history → (n : ℕ) → n ≤ length history → StayInRange (meters_of (take n (steps_of history))) (drop n (steps_of history))
steps_stay terms history day n short k less =
    let steps : List MeterStep = steps_of history in
    let many = as_many history in
    let parts : length steps ≡ length (take n steps) + length (drop n steps) = ap (λ (l : List MeterStep). length l) (sym (take-append-drop n steps)) ∙ length-append (take n steps) (drop n steps) in
    let front : length (take n steps) ≡ n = omega (arith, length-take n steps, many, short) in
    let within : n + (k + 1) ≤ length history = omega (arith, parts, front, many, less) in
    let both : take (n + (k + 1)) steps ≡ take n steps ++ take (k + 1) (drop n steps) = take-add n (k + 1) steps in
    subst InRange (ap (λ (l : List MeterStep). meters_of l) both ∙ fold_both no_meters (take n steps) (take (k + 1) (drop n steps))) (front_in_range terms history day (n + (k + 1)) within)

take_min : {X : Type 0} (n : ℕ) (xs : List X) → take (min n (length xs)) xs ≡ take n xs
take_min n xs = dite (dec_le n (length xs))
    (λ le. ap (λ (k : ℕ). take k xs) (min-eq_left le))
    (λ gt. let more : length xs ≤ n = omega arith in ap (λ (k : ℕ). take k xs) (min-eq_right more) ∙ (take-length xs ∙ sym (take_all n xs more)))

-- what was found from a place within the history on is what is asked for, where that may lie past the end
pub found_steps : {V E : Type 0} (items : V → List MeterStep) (history : List Entry) (n : ℕ) (r : Result V E)
    → IfOk r (λ v. items v ≡ drop (min n (length history)) (steps_of history))
    → IfOk r (λ v. StayInRange (meters_of (take (min n (length history)) (steps_of history))) (items v))
    → IfOk r (λ v. (items v ≡ drop n (steps_of history)) × StayInRange (meters_of (take n (steps_of history))) (items v))
found_steps items history n (Ok v) is stay =
    let steps : List MeterStep = steps_of history in
    let many = as_many history in
    let back : drop (min n (length history)) steps ≡ drop n steps = ap (λ (k : ℕ). drop (min n k) steps) (sym many) ∙ drop_min n steps in
    let front : take (min n (length history)) steps ≡ take n steps = ap (λ (k : ℕ). take (min n k) steps) (sym many) ∙ take_min n steps in
    (is ∙ back, subst (λ (l : List MeterStep). StayInRange (meters_of l) (items v)) front stay)
found_steps items history n (Err e) is stay = record {}

-- the same of what a pass has seen then, since a look adds nothing
pub steps_seen : {V E : Type 0} (items : V → List MeterStep) (before after : List Entry) (n : ℕ) (r : Result V E) → after ≡ before ++ []
    → IfOk r (λ v. (items v ≡ drop n (steps_of before)) × StayInRange (meters_of (take n (steps_of before))) (items v))
    → IfOk r (λ v. items v ≡ drop n (steps_of after)) × IfOk r (λ v. StayInRange (meters_of (take n (steps_of after))) (items v))
steps_seen items before after n (Ok v) same found =
    let here : before ≡ after = sym (same ∙ append-nil before) in (
      subst (λ (l : List Entry). items v ≡ drop n (steps_of l)) here found.0,
      subst (λ (l : List Entry). StayInRange (meters_of (take n (steps_of l))) (items v)) here found.1,
    )
steps_seen items before after n (Err e) same found = (record {}, record {})
