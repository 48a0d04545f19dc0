-- Beginnings of one list, and the meters of them.
use Rattle.std.proofs.Common.{◌≡◌, ℕ, ◌+◌, ◌≤◌, List, [], ◌∷◌, ◌++◌, length, take, drop, fold, refl, ap, sym, ◌∙◌, arith}
use mathlib.Core.List.{IsPrefix}
use Rattle.std.proofs.Math.Seq.{take-length}
use Rattle.std.proofs.lemmas.List.{length-take, take-append-le, take-append-drop}
use Rattle.day_rules.specs.declared.meters.Meters.{Meters}
use Rattle.day_rules.specs.declared.step.MeterStep.{MeterStep}
use Rattle.day_rules.specs.declared.step.StepKind.{StepKind}
use Rattle.day_rules.specs.Steps.{after, after_kind, no_meters, meters_of}

-- of two beginnings of one list the shorter begins the longer
pub prefix_shorter : {A : Type 0} (xs ys zs : List A) → IsPrefix xs zs → IsPrefix ys zs → length xs ≤ length ys → IsPrefix xs ys
prefix_shorter [] ys zs p q le = (ys, refl)
prefix_shorter (x ∷ xs) [] zs p q le = absurd (omega arith)
prefix_shorter (x ∷ xs) (y ∷ ys) [] p q le = absurd (cc (p.1))
prefix_shorter (x ∷ xs) (y ∷ ys) (z ∷ zs) p q le =
    let heads : x ≡ y = cc (p.1, q.1) in
    let rest = prefix_shorter xs ys zs (p.0, cc (p.1)) (q.0, cc (q.1)) (omega arith) in
    (rest.0, cc (heads, rest.1))

-- a beginning as long as the whole is the whole
pub prefix_whole : {A : Type 0} (xs ys : List A) → IsPrefix xs ys → length ys ≤ length xs → xs ≡ ys
prefix_whole [] [] p le = refl
prefix_whole [] (y ∷ ys) p le = absurd (omega arith)
prefix_whole (x ∷ xs) [] p le = absurd (cc (p.1))
prefix_whole (x ∷ xs) (y ∷ ys) p le =
    let rest = prefix_whole xs ys (p.0, cc (p.1)) (omega arith) in cc (p.1, rest)

entries_kind : (k : StepKind) (count money : ℕ) (m : Meters) → (after_kind k count money m).entries ≡ m.entries
entries_kind StepKind.Ask count money m = refl
entries_kind StepKind.Win count money m = refl
entries_kind StepKind.Bill count money m = refl
entries_kind StepKind.Loss count money m = refl
entries_kind StepKind.Expire count money m = refl
entries_kind StepKind.Budget count money m = refl

-- each step is one entry
pub entries_fold : (m : Meters) (steps : List MeterStep) → (fold after m steps).entries ≡ m.entries + length steps
entries_fold m [] = omega arith
entries_fold m (s ∷ steps) = omega (arith, entries_fold (after m s) steps, entries_kind s.kind s.count s.money (record m { entries = m.entries + 1 }))

pub entries_of : (steps : List MeterStep) → (meters_of steps).entries ≡ length steps
entries_of steps = omega (arith, entries_fold no_meters steps)

-- the fold of two lists is that of the second from the first's
pub fold_both : (m : Meters) (front more : List MeterStep) → fold after m (front ++ more) ≡ fold after (fold after m front) more
fold_both m [] more = refl
fold_both m (s ∷ front) more = fold_both (after m s) front more

-- a beginning that has as many entries is the whole
pub whole_shown : (first front : List MeterStep) (m n : Meters) → m ≡ meters_of first → n ≡ meters_of front → m.entries ≡ n.entries
    → take (length first) front ≡ first → first ≡ front
whole_shown first front m n mine whole same begins =
    let long : length first ≡ length front = omega (arith, same, ap (λ (k : Meters). k.entries) mine, ap (λ (k : Meters). k.entries) whole, entries_of first, entries_of front) in
    sym begins ∙ (ap (λ (k : ℕ). take k front) long ∙ take-length front)

-- what begins a list begins each longer one
pub still_begins : (first whole longer : List MeterStep) → take (length first) whole ≡ first → IsPrefix whole longer → take (length first) longer ≡ first
still_begins first whole longer begins p =
    let short : length first ≤ length whole = omega (arith, length-take (length first) whole, ap (λ (l : List MeterStep). length l) begins) in
    ap (λ (l : List MeterStep). take (length first) l) (sym p.1) ∙ (take-append-le (length first) whole p.0 short ∙ begins)

-- a beginning with the rest after it is the whole
pub with_rest : (first whole : List MeterStep) → take (length first) whole ≡ first → first ++ drop (length first) whole ≡ whole
with_rest first whole begins = ap (λ (l : List MeterStep). l ++ drop (length first) whole) (sym begins) ∙ take-append-drop (length first) whole
