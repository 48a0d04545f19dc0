-- How long a number in groups is at most.
use Rattle.std.proofs.Common.{◌≡◌, ℕ, zero, suc, ◌+◌, ◌/◌, ◌%◌, ◌^◌, ◌<◌, ◌≤◌, [], ◌∷◌, Bool, true, false, cond, ltb, length, inl, inr, refl, ap, arith}
use Rattle.std.proofs.lemmas.Bool.{cases_lt, lt-ltb, le-ltb}
use Rattle.formats.specs.Numbers.{groups_bytes}
use Rattle.formats.proofs.Numbers.{room}

one_long : (k n : ℕ) → n < 128 → length (groups_bytes (suc k) n) ≡ 1
unfolding groups_bytes
one_long k n small = let one : ltb n 128 ≡ true = lt-ltb n 128 small in rw one refl

more_long : (k n : ℕ) → 128 ≤ n → length (groups_bytes (suc k) n) ≡ suc (length (groups_bytes k (n / 128)))
unfolding groups_bytes
more_long k n large = let many : ltb n 128 ≡ false = le-ltb n 128 large in rw many refl

-- a number that has room in so many groups and one more has no more
pub groups_few : (left extra n : ℕ) → n < room left → length (groups_bytes (suc (left + extra)) n) ≤ left + 1
groups_few zero extra n fits = omega (arith, one_long (0 + extra) n fits)
groups_few (suc left) extra n fits =
    elim (cases_lt n 128) [
      | inl small ↦ omega (arith, one_long (suc left + extra) n small)
      | inr large ↦
          let more = groups_few left extra (n / 128) (omega arith) in
          let same : suc left + extra ≡ suc (left + extra) = omega arith in
          let long = ap (λ (k : ℕ). length (groups_bytes k (n / 128))) same in
          omega (arith, more_long (suc left + extra) n large, long, more)
    ]

pub few_small : (n : ℕ) → n < 2 ^ 8 → length (groups_bytes 10 n) ≤ 2
few_small n fits = groups_few 1 8 n (omega (arith, fits))

pub few_long : (n : ℕ) → n < 2 ^ 32 → length (groups_bytes 10 n) ≤ 5
few_long n fits = groups_few 4 5 n (omega (arith, fits))

pub few_wide : (n : ℕ) → n < 2 ^ 64 → length (groups_bytes 10 n) ≤ 10
few_wide n fits = groups_few 9 0 n (omega (arith, fits))

-- whatever the number, there are no more groups than it may have
pub groups_most : (k n : ℕ) → length (groups_bytes k n) ≤ k
unfolding groups_bytes
groups_most zero n = omega arith
groups_most (suc k) n = by (ltb n 128) (groups_most k (n / 128))
  where
    by : (b : Bool) → length (groups_bytes k (n / 128)) ≤ k → length (cond b (n ∷ []) ((128 + n % 128) ∷ groups_bytes k (n / 128))) ≤ suc k
    by true most = omega arith
    by false most = omega (arith, most)
