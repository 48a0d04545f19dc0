-- Runs of bytes of one kind at the front.
use Rattle.std.proofs.Common.{◌≡◌, ℕ, suc, ◌+◌, List, [], ◌∷◌, ◌++◌, length, take, drop, Bool, true, false, cond, refl, subst, arith}
use Rattle.std.specs.List.{list_all, prefix_len}
use Rattle.std.proofs.lemmas.Bool.{and_parts, and_from}
use Rattle.formats.specs.Parts.{Stops}

passes_at : (p : ℕ → Bool) (x : ℕ) (xs : List ℕ) (n : ℕ) (b : Bool) → p x ≡ b → list_all p (take n xs) ≡ true → list_all p (take (cond b (1 + n) 0) (x ∷ xs)) ≡ true
passes_at p x xs n true e h =
    let one : suc n ≡ 1 + n = omega arith in
    subst (λ k. list_all p (take k (x ∷ xs)) ≡ true) one (and_from _ _ e h)
passes_at p x xs n false e h = refl

pub run_passes : (p : ℕ → Bool) (xs : List ℕ) → list_all p (take (prefix_len p xs) xs) ≡ true
run_passes p [] = refl
run_passes p (x ∷ xs) = passes_at p x xs (prefix_len p xs) (p x) refl (run_passes p xs)

stops_at : (p : ℕ → Bool) (x : ℕ) (xs : List ℕ) (n : ℕ) (b : Bool) → p x ≡ b → Stops p (drop n xs) → Stops p (drop (cond b (1 + n) 0) (x ∷ xs))
stops_at p x xs n true e h =
    let one : suc n ≡ 1 + n = omega arith in
    subst (λ k. Stops p (drop k (x ∷ xs))) one h
stops_at p x xs n false e h = e

pub run_stops : (p : ℕ → Bool) (xs : List ℕ) → Stops p (drop (prefix_len p xs) xs)
run_stops p [] = tt
run_stops p (x ∷ xs) = stops_at p x xs (prefix_len p xs) (p x) refl (run_stops p xs)

none_there : (p : ℕ → Bool) (xs : List ℕ) → Stops p xs → prefix_len p xs ≡ 0
none_there p [] h = refl
none_there p (x ∷ xs) h = rw h refl

-- a run of one kind before bytes that don't begin so
pub run_len : (p : ℕ → Bool) (run rest : List ℕ) → list_all p run ≡ true → Stops p rest → prefix_len p (run ++ rest) ≡ length run
run_len p [] rest h s = none_there p rest s
run_len p (x ∷ run) rest h s =
    let both = and_parts (p x) (list_all p run) h in
    let more = run_len p run rest both.1 s in
    rw both.0 (omega (arith, more))
