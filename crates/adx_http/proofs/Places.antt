-- The place of the first element that passes, and the length where none does.
use Rattle.std.proofs.Common.{◌≡◌, ℕ, ◌≤◌, Bool, true, false, cond, List, length, nat_lt, not, Option, Some, None, refl, arith}
use Rattle.std.specs.List.{position, position_or_len}
use Rattle.std.proofs.lemmas.Bool.Decides.{nat_tests}
use Rattle.std.proofs.lemmas.List.Sums.{prefix_len-le-length}
use Rattle.std.proofs.lemmas.Bool.{ltb-true}

some_case : (n m i : ℕ) → cond (nat_lt n m) (Some n) None ≡ Some i → (i ≡ n) × (i ≤ m)
some_case n m i = by_case (nat_lt n m) refl
  where
    by_case : (b : Bool) → nat_lt n m ≡ b → cond b (Some n) None ≡ Some i → (i ≡ n) × (i ≤ m)
    by_case true test e = let same : i ≡ n = cc in let less = ltb-true n m test in (same, omega (arith, same, less))
    by_case false test e = absurd (cc)

none_case : (n m : ℕ) → n ≤ m → ◌≡◌ {A = Option ℕ} (cond (nat_lt n m) (Some n) None) None → m ≡ n
none_case n m within = by_case (nat_lt n m) refl
  where
    by_case : (b : Bool) → nat_lt n m ≡ b → ◌≡◌ {A = Option ℕ} (cond b (Some n) None) None → m ≡ n
    by_case true test e = absurd (cc)
    by_case false test e = grind (arith, nat_tests)

pub place_some : {X : Type 0} (p : X → Bool) (xs : List X) (i : ℕ) → position p xs ≡ Some i → (i ≡ position_or_len p xs) × (i ≤ length xs)
place_some p xs i is = some_case (position_or_len p xs) (length xs) i is

pub place_none : {X : Type 0} (p : X → Bool) (xs : List X) → position p xs ≡ None → length xs ≡ position_or_len p xs
place_none p xs is = none_case (position_or_len p xs) (length xs) (prefix_len-le-length (λ x. not (p x)) xs) is
