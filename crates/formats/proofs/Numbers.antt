-- The formats of numbers are exact.
use Rattle.std.proofs.Common.{◌≡◌, ℕ, zero, suc, ◌+◌, ◌-◌, ◌*◌, ◌/◌, ◌%◌, ◌^◌, ◌<◌, ◌≤◌, Bool, true, false, cond, ltb, eqb, List, [], ◌∷◌, ◌++◌, length, get_or, Option, Some, None, inl, inr, refl, sym, ap, ◌∙◌, subst, arith}
use Rattle.std.specs.Int.{Width, w16, w32, w64, byte_len, byte_at, bytes_low_first, from_le_bytes, to_le_bytes}
use Rattle.std.specs.List.{list_all}
use Rattle.std.proofs.lemmas.Bool.{and_parts, and_from, cases_lt, ne_eqb, ltb-true, ltb-false, lt-ltb, le-ltb}
use Rattle.std.proofs.lemmas.Option.{none-some, same_Some}
use Rattle.std.proofs.lemmas.Nat.{le_bytes_2, le_bytes_4, le_bytes_8, from_le_bytes-to_le_bytes_2, from_le_bytes-to_le_bytes_4, from_le_bytes-to_le_bytes_8}
use Rattle.formats.specs.Parts.{◌>>=◌}
use Rattle.formats.proofs.PartLaws.{bind_some, tested_some, number_takes, number_again}
use Rattle.formats.specs.Formats.{IsExact, bytes_reads}
use Rattle.formats.specs.Numbers.{is_byte, byte_reads, byte, fixed_reads, fixed, whole, groups_bytes, groups_reads, with_group, below, grouped}
use Rattle.formats.proofs.Lists.{bytes-exact, guard_some}

-- ---- bytes

abbrev found : ℕ → List ℕ → Option (ℕ × List ℕ)
found n rest = Some (n, rest)

byte_case : (b : ℕ) (bytes : List ℕ) (n : ℕ) (rest : List ℕ) (t : Bool) → is_byte b ≡ t → cond t (found b bytes) None ≡ found n rest → (b ∷ bytes ≡ n ∷ rest) × (n < 256)
byte_case b bytes n rest true is e =
    let first : ℕ × List ℕ = (b, bytes) in
    let second : ℕ × List ℕ = (n, rest) in
    let small : b < 256 = ltb-true b 256 is in
    subst (λ (p : ℕ × List ℕ). (b ∷ bytes ≡ p.0 ∷ p.1) × (p.0 < 256)) (same_Some first second e) (refl, small)
byte_case b bytes n rest false is e = absurd (none-some (n, rest) e)

byte_take : (bytes : List ℕ) (n : ℕ) (rest : List ℕ) → byte_reads bytes ≡ Some (n, rest) → (bytes ≡ n ∷ rest) × (n < 256)
byte_take [] n rest e = absurd (none-some (n, rest) e)
byte_take (b ∷ bytes) n rest e = byte_case b bytes n rest (is_byte b) refl e

pub byte-exact : IsExact byte
byte-exact = record { takes = byte_take; again = λ n rest fits ends. rw (lt-ltb n 256 fits) refl }

-- ---- numbers of a width

pub all_bytes : (l : List ℕ) → list_all is_byte l ≡ true → (i : ℕ) → get_or l i 0 < 256
all_bytes [] h i = omega arith
all_bytes (b ∷ l) h zero = ltb-true b 256 (and_parts (is_byte b) (list_all is_byte l) h).0
all_bytes (b ∷ l) h (suc i) = all_bytes l (and_parts (is_byte b) (list_all is_byte l) h).1 i

pub record IsWide (w : Width) (limit : ℕ) : Type 0 where
  pub len : (n : ℕ) → length (to_le_bytes w n) ≡ byte_len w
  pub back : (bytes : List ℕ) → length bytes ≡ byte_len w → ((i : ℕ) → get_or bytes i 0 < 256) → to_le_bytes w (from_le_bytes w bytes) ≡ bytes
  pub again : (n : ℕ) → n < limit → from_le_bytes w (to_le_bytes w n) ≡ n
  pub below : (bytes : List ℕ) → ((i : ℕ) → get_or bytes i 0 < 256) → from_le_bytes w bytes < limit

low_bytes : (i k n : ℕ) → list_all is_byte (bytes_low_first i k n) ≡ true
low_bytes i zero n = refl
low_bytes i (suc k) n = and_from (is_byte (byte_at i n)) (list_all is_byte (bytes_low_first (suc i) k n)) (lt-ltb (byte_at i n) 256 (small i)) (low_bytes (suc i) k n)
  where
    small : (i : ℕ) → byte_at i n < 256
    small zero = omega arith
    small (suc i) = omega arith

pub wide16 : IsWide w16 (2 ^ 16)
wide16 = record {
  len = λ n. refl;
  back = λ bytes len fits. le_bytes_2 bytes _ len fits refl;
  again = λ n lt. from_le_bytes-to_le_bytes_2 n lt;
  below = λ bytes fits. omega (arith, fits 0, fits 1);
}

pub wide32 : IsWide w32 (2 ^ 32)
wide32 = record {
  len = λ n. refl;
  back = λ bytes len fits. le_bytes_4 bytes _ len fits refl;
  again = λ n lt. from_le_bytes-to_le_bytes_4 n lt;
  below = λ bytes fits. omega (arith, fits 0, fits 1, fits 2, fits 3);
}

pub wide64 : IsWide w64 (2 ^ 64)
wide64 = record {
  len = λ n. refl;
  back = λ bytes len fits. le_bytes_8 bytes _ len fits refl;
  again = λ n lt. from_le_bytes-to_le_bytes_8 n lt;
  below = λ bytes fits. omega (arith, fits 0, fits 1, fits 2, fits 3, fits 4, fits 5, fits 6, fits 7);
}

pub fixed-exact : (w : Width) (limit : ℕ) → IsWide w limit → IsExact (fixed w limit)
fixed-exact w limit wide = record { takes = fixed_take; again = fixed_again }
  where
    fixed_take : (bytes : List ℕ) (n : ℕ) (rest : List ℕ) → fixed_reads w bytes ≡ Some (n, rest) → (bytes ≡ to_le_bytes w n ++ rest) × (n < limit)
    fixed_take bytes n rest e =
        let a = bind_some (bytes_reads (byte_len w) bytes) (λ front. cond (list_all is_byte front.0) (Some (from_le_bytes w front.0, front.1)) None) (n, rest) e in
        let b = tested_some (list_all is_byte a.0.0) (Some (from_le_bytes w a.0.0, a.0.1)) (n, rest) a.2 in
        let t = (bytes-exact (byte_len w)).takes bytes a.0.0 a.0.1 a.1 in
        let fits = all_bytes a.0.0 b.0 in
        subst (λ (p : ℕ × List ℕ). (bytes ≡ to_le_bytes w p.0 ++ p.1) × (p.0 < limit)) (same_Some (from_le_bytes w a.0.0, a.0.1) (n, rest) b.1)
        (t.0 ∙ ap (λ (l : List ℕ). l ++ a.0.1) (sym (wide.back a.0.0 t.1 fits)), wide.below a.0.0 fits)

    fixed_again : (n : ℕ) (rest : List ℕ) → n < limit → Unit {0} → fixed_reads w (to_le_bytes w n ++ rest) ≡ Some (n, rest)
    fixed_again n rest fits ends = rw ((bytes-exact (byte_len w)).again (to_le_bytes w n) rest (wide.len n) tt, low_bytes 0 (byte_len w) n, wide.again n fits) refl

-- ---- numbers in decimal

pub whole-exact : (limit : ℕ) → limit ≤ 10 ^ 64 → IsExact (whole limit)
whole-exact limit small = record {
  takes = λ bytes n rest e. number_takes limit bytes n rest small e;
  again = λ n rest fits ends. number_again limit n rest small fits ends;
}

-- ---- numbers in groups of 7 bits

-- what so many groups and one more are below
abbrev pub room : ℕ → ℕ
room zero = 128
room (suc k) = 128 * room k

nonzero : (h : ℕ) → eqb h 0 ≡ false → 1 ≤ h
nonzero zero e = absurd cc
nonzero (suc h) e = omega arith

one_group : (k b : ℕ) (bytes : List ℕ) (n : ℕ) (rest : List ℕ) → ltb b 128 ≡ true → found b bytes ≡ found n rest → b ∷ bytes ≡ groups_bytes (suc k) n ++ rest
unfolding groups_bytes
one_group k b bytes n rest small e =
    let first : ℕ × List ℕ = (b, bytes) in
    let second : ℕ × List ℕ = (n, rest) in
    subst (λ (p : ℕ × List ℕ). b ∷ bytes ≡ groups_bytes (suc k) p.0 ++ p.1) (same_Some first second e) (rw small refl)

more_groups : (k b high : ℕ) → b < 256 → 128 ≤ b → 1 ≤ high → groups_bytes (suc k) ((b - 128) + 128 * high) ≡ b ∷ groups_bytes k high
unfolding groups_bytes
more_groups k b high byte top some =
    let large : ltb ((b - 128) + 128 * high) 128 ≡ false = le-ltb _ _ (omega arith) in
    let low : 128 + ((b - 128) + 128 * high) % 128 ≡ b = omega arith in
    let back : ((b - 128) + 128 * high) / 128 ≡ high = omega arith in
    rw (large, low, back) refl

take_cases : (k b : ℕ) (bytes : List ℕ) (n : ℕ) (rest : List ℕ) (one eight : Bool) → ltb b 128 ≡ one → is_byte b ≡ eight
    → ((high : ℕ) (after : List ℕ) → groups_reads k bytes ≡ found high after → bytes ≡ groups_bytes k high ++ after)
    → cond one (Some (b, bytes)) (cond eight (groups_reads k bytes >>= with_group b) None) ≡ found n rest → b ∷ bytes ≡ groups_bytes (suc k) n ++ rest
take_cases k b bytes n rest true eight small is more e = one_group k b bytes n rest small e
take_cases k b bytes n rest false false large is more e = absurd (none-some (n, rest) e)
take_cases k b bytes n rest false true large is more e =
    let a = bind_some (groups_reads k bytes) (with_group b) (n, rest) e in
    let g = guard_some (eqb a.0.0 0) ((b - 128) + 128 * a.0.0, a.0.1) (n, rest) a.2 in
    let spelled = more_groups k b a.0.0 (ltb-true b 256 is) (ltb-false b 128 large) (nonzero a.0.0 g.0) in
    subst (λ (p : ℕ × List ℕ). b ∷ bytes ≡ groups_bytes (suc k) p.0 ++ p.1) g.1
    (ap (λ (l : List ℕ). b ∷ l) (more a.0.0 a.0.1 a.1) ∙ ap (λ (l : List ℕ). l ++ a.0.1) (sym spelled))

groups_take : (k : ℕ) (bytes : List ℕ) (n : ℕ) (rest : List ℕ) → groups_reads k bytes ≡ found n rest → bytes ≡ groups_bytes k n ++ rest
unfolding groups_reads
groups_take zero bytes n rest e = absurd (none-some (n, rest) e)
groups_take (suc k) [] n rest e = absurd (none-some (n, rest) e)
groups_take (suc k) (b ∷ bytes) n rest e = take_cases k b bytes n rest (ltb b 128) (is_byte b) refl refl (groups_take k bytes) e

small_again : (k n : ℕ) (rest : List ℕ) → n < 128 → groups_reads (suc k) (groups_bytes (suc k) n ++ rest) ≡ found n rest
unfolding groups_reads groups_bytes
small_again k n rest small = let one : ltb n 128 ≡ true = lt-ltb n 128 small in rw (one, one) refl

large_again : (k n : ℕ) (rest : List ℕ) → 128 ≤ n → groups_reads k (groups_bytes k (n / 128) ++ rest) ≡ found (n / 128) rest → groups_reads (suc k) (groups_bytes (suc k) n ++ rest) ≡ found n rest
unfolding groups_reads groups_bytes
large_again k n rest large more =
    let most : ltb n 128 ≡ false = le-ltb n 128 large in
    let top : ltb (128 + n % 128) 128 ≡ false = le-ltb _ _ (omega arith) in
    let byte : ltb (128 + n % 128) 256 ≡ true = lt-ltb _ _ (omega arith) in
    let some : eqb (n / 128) 0 ≡ false = ne_eqb (n / 128) 0 (λ none. absurd (omega arith)) in
    let whole : ((128 + n % 128) - 128) + 128 * (n / 128) ≡ n = omega arith in
    rw (most, top, byte, more, some, whole) refl

groups_again : (k n : ℕ) (rest : List ℕ) → n < room k → groups_reads (suc k) (groups_bytes (suc k) n ++ rest) ≡ found n rest
groups_again zero n rest fits = small_again zero n rest fits
groups_again (suc k) n rest fits =
    elim (cases_lt n 128) [
      | inl small ↦ small_again (suc k) n rest small
      | inr large ↦ large_again (suc k) n rest large (groups_again k (n / 128) rest (omega arith))
    ]

pub grouped-exact : (limit : ℕ) → limit ≤ room 9 → IsExact (grouped limit)
grouped-exact limit small = record {
  takes = λ bytes n rest e.
      let a = bind_some (groups_reads 10 bytes) (below limit) (n, rest) e in
      let b = tested_some (ltb a.0.0 limit) (Some a.0) (n, rest) a.2 in
      let same = same_Some a.0 (n, rest) b.1 in
      (groups_take 10 bytes n rest (a.1 ∙ ap (λ (p : ℕ × List ℕ). Some p) same), subst (λ (p : ℕ × List ℕ). p.0 < limit) same (ltb-true a.0.0 limit b.0));
  again = λ n rest fits ends.
      let below : ltb n limit ≡ true = lt-ltb n limit fits in
      rw (groups_again 9 n rest (omega (arith, fits, small)), below) refl;
}
