-- Runs of bytes of one kind, and the bytes that a text spells as themselves.
use Rattle.std.proofs.Common.{◌≡◌, ℕ, suc, ◌<◌, ◌≤◌, List, [], ◌∷◌, length, get_or, ◌||◌, ◌⊎◌, take, drop, Bool, true, false, refl, ap, ltb, eqb, cond, ◌+◌, subst, arith, inl, inr}
use Rattle.std.proofs.lemmas.Bool.{and_parts, and_from, or_parts, not-true, not-false, ne_eqb, ltb-false, cases_lt, or_cases, ltb-true, eqb-true}
use Rattle.std.proofs.lemmas.Bool.Decides.{nat_tests}
use Rattle.std.proofs.lemmas.List.Sums.{prefix_len-le-length, prefix_len_stops}
use Rattle.std.proofs.lemmas.Str.{IsCharBoundary-before_ascii, IsCharBoundary-end}
use Rattle.std.specs.Str.{IsCharBoundary}
use Rattle.std.specs.List.{list_all, flat_map, prefix_len}
use Rattle.adx_units.specs.JsonTexts.{escape, is_bare}
use Rattle.adx_units.specs.Scans.{Stops}
use Rattle.adx_units.specs.Unescaped.{is_unescaped}

-- where a run of bytes of one kind ends
passes_at : (p : ℕ → Bool) (x : ℕ) (xs : List ℕ) (n : ℕ) (b : Bool) → p x ≡ b → list_all p (take n xs) ≡ true → list_all p (take (cond b (1 + n) 0) (x ∷ xs)) ≡ true
passes_at p x xs n true e h =
    let one : suc n ≡ 1 + n = omega arith in
    subst (λ k. list_all p (take k (x ∷ xs)) ≡ true) one (and_from _ _ e h)
passes_at p x xs n false e h = refl

pub run_passes : (p : ℕ → Bool) (xs : List ℕ) → list_all p (take (prefix_len p xs) xs) ≡ true
run_passes p [] = refl
run_passes p (x ∷ xs) = passes_at p x xs (prefix_len p xs) (p x) refl (run_passes p xs)

stops_at : (p : ℕ → Bool) (x : ℕ) (xs : List ℕ) (n : ℕ) (b : Bool) → p x ≡ b → Stops p (drop n xs) → Stops p (drop (cond b (1 + n) 0) (x ∷ xs))
stops_at p x xs n true e h =
    let one : suc n ≡ 1 + n = omega arith in
    subst (λ k. Stops p (drop k (x ∷ xs))) one h
stops_at p x xs n false e h = e

pub run_stops : (p : ℕ → Bool) (xs : List ℕ) → Stops p (drop (prefix_len p xs) xs)
run_stops p [] = tt
run_stops p (x ∷ xs) = stops_at p x xs (prefix_len p xs) (p x) refl (run_stops p xs)

pub bare_escape : (b : ℕ) → is_bare b ≡ true → escape b ≡ b ∷ []
bare_escape b h =
    let control = (or_parts _ _ (not-true _ h)) in
    let marks = or_parts _ _ control.0 in
    let high : 32 ≤ b = ltb-false b 32 control.1 in
    let quote : eqb b 34 ≡ false = marks.0 in
    let backslash : eqb b 92 ≡ false = marks.1 in
    let e8 : eqb b 8 ≡ false = ne_eqb b 8 (λ e. omega arith) in
    let e9 : eqb b 9 ≡ false = ne_eqb b 9 (λ e. omega arith) in
    let e10 : eqb b 10 ≡ false = ne_eqb b 10 (λ e. omega arith) in
    let e12 : eqb b 12 ≡ false = ne_eqb b 12 (λ e. omega arith) in
    let e13 : eqb b 13 ≡ false = ne_eqb b 13 (λ e. omega arith) in
    let below : ltb b 32 ≡ false = control.1 in
    rw (quote, backslash, e8, e9, e10, e12, e13, below) refl

pub bare_text : (t : List ℕ) → list_all is_bare t ≡ true → flat_map escape t ≡ t
bare_text [] h = refl
bare_text (b ∷ t) h =
    let parts = and_parts _ _ h in
    rw (bare_escape b parts.0, bare_text t parts.1)

low_mark : (b : ℕ) → (eqb b 34 ≡ true) ⊎ (eqb b 92 ≡ true) → b < 128
low_mark b (inl quote) = omega (arith, eqb-true b 34 quote)
low_mark b (inr backslash) = omega (arith, eqb-true b 92 backslash)

low_of : (b : ℕ) → (eqb b 34 || eqb b 92 ≡ true) ⊎ (ltb b 32 ≡ true) → b < 128
low_of b (inl mark) = low_mark b (or_cases _ _ mark)
low_of b (inr control) = omega (arith, ltb-true b 32 control)

-- a byte that needs an escape is below 128
pub escaped_low : (b : ℕ) → is_bare b ≡ false → b < 128
escaped_low b h = low_of b (or_cases _ _ (not-false _ h))

boundary_at : (bs : List ℕ) (n : ℕ) → (n < length bs → is_bare (get_or bs n 0) ≡ false) → n ≤ length bs → (n < length bs) ⊎ (length bs ≤ n) → IsCharBoundary bs n
boundary_at bs n stops within (inl more) = IsCharBoundary-before_ascii bs n more (escaped_low (get_or bs n 0) (stops more))
boundary_at bs n stops within (inr none) = let all : length bs ≡ n = omega arith in subst (IsCharBoundary bs) all (IsCharBoundary-end bs)

-- a text may be cut behind its bare bytes
pub bare_boundary : (bs : List ℕ) → IsCharBoundary bs (prefix_len is_bare bs)
bare_boundary bs =
    boundary_at bs (prefix_len is_bare bs) (prefix_len_stops is_bare bs 0) (prefix_len-le-length is_bare bs) (cases_lt (prefix_len is_bare bs) (length bs))

is_bare_too : (b : ℕ) → is_unescaped b ≡ true → is_bare b ≡ true
is_bare_too b h = grind (arith, nat_tests)

pub are_bare : (bytes : List ℕ) → list_all is_unescaped bytes ≡ true → list_all is_bare bytes ≡ true
are_bare [] h = refl
are_bare (b ∷ bytes) h = let parts = and_parts _ _ h in and_from _ _ (is_bare_too b parts.0) (are_bare bytes parts.1)

bare_at : (b : ℕ) (bs : List ℕ) (n : ℕ) (u : Bool) → is_unescaped b ≡ u → n + prefix_len is_bare (drop n bs) ≡ prefix_len is_bare bs
    → cond u (1 + n) 0 + prefix_len is_bare (drop (cond u (1 + n) 0) (b ∷ bs)) ≡ prefix_len is_bare (b ∷ bs)
bare_at b bs n false e h = omega arith
bare_at b bs n true e h =
    let one : suc n ≡ 1 + n = omega arith in
    let whole : cond (is_bare b) (1 + prefix_len is_bare bs) 0 ≡ 1 + prefix_len is_bare bs = ap (λ c. cond c (1 + prefix_len is_bare bs) 0) (is_bare_too b e) in
    let next : suc n + prefix_len is_bare (drop n bs) ≡ cond (is_bare b) (1 + prefix_len is_bare bs) 0 = omega (arith, h, whole) in
    subst (λ k. k + prefix_len is_bare (drop k (b ∷ bs)) ≡ prefix_len is_bare (b ∷ bs)) one next

-- behind them the bytes may go on with bytes that stand for themselves
pub bare_goes_on : (bytes : List ℕ) → prefix_len is_unescaped bytes + prefix_len is_bare (drop (prefix_len is_unescaped bytes) bytes) ≡ prefix_len is_bare bytes
bare_goes_on [] = refl
bare_goes_on (b ∷ bs) = bare_at b bs (prefix_len is_unescaped bs) (is_unescaped b) refl (bare_goes_on bs)
