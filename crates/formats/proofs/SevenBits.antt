-- The steps of reading and writing groups.
use Rattle.std.proofs.Common.{◌≡◌, ℕ, zero, suc, ◌+◌, ◌-◌, ◌*◌, ◌/◌, ◌%◌, ◌^◌, ◌<◌, ◌≤◌, Bool, true, false, cond, ltb, eqb, List, [], ◌∷◌, ◌++◌, length, Option, Some, None, inl, inr, refl, sym, ap, ◌∙◌, append-nil, append_assoc, arith}
use Rattle.std.proofs.lemmas.Bool.{cases_lt, ne_eqb, lt-ltb, le-ltb, ltb-false}
use Rattle.std.proofs.lemmas.List.{length-append}
use Rattle.formats.specs.Parts.{◌>>=◌}
use Rattle.formats.specs.Numbers.{groups_bytes, groups_reads, with_group, below, groups_below}
use Rattle.formats.proofs.Numbers.{room}

pub none_left : (limit : ℕ) (bytes : List ℕ) → groups_below 0 limit bytes ≡ None
unfolding groups_reads
none_left limit bytes = refl

pub none_there : (k limit : ℕ) → groups_below k limit [] ≡ None
unfolding groups_reads
none_there zero limit = refl
none_there (suc k) limit = refl

-- a last group
pub last_group : (k b limit : ℕ) (bytes : List ℕ) → 1 ≤ k → b < 128 → b < limit → groups_below k limit (b ∷ bytes) ≡ Some (b, bytes)
unfolding groups_reads
last_group zero b limit bytes some small fits = absurd (omega arith)
last_group (suc k) b limit bytes some small fits =
    let one : ltb b 128 ≡ true = lt-ltb b 128 small in
    let within : ltb b limit ≡ true = lt-ltb b limit fits in
    rw (one, within) refl

-- what follows is no number below the limit, or is 0, or the whole isn't below the limit
after_cases : (b limit : ℕ) (o : Option (ℕ × List ℕ)) → 128 ≤ b → (o >>= below limit) ≡ None → ((o >>= with_group b) >>= below limit) ≡ None
after_cases b limit None top none = refl
after_cases b limit (Some x) top none = high_cases (eqb x.0 0) refl
  where
    past : (t : Bool) → ltb x.0 limit ≡ t → cond t (Some x) None ≡ None → limit ≤ x.0
    past true is e = absurd cc
    past false is e = ltb-false x.0 limit is

    high_cases : (t : Bool) → eqb x.0 0 ≡ t → (cond t None (Some ((b - 128) + 128 * x.0, x.1)) >>= below limit) ≡ None
    high_cases true is = refl
    high_cases false is =
        let more = past (ltb x.0 limit) refl none in
        let large : ltb ((b - 128) + 128 * x.0) limit ≡ false = le-ltb _ _ (omega (arith, more)) in
        rw large refl

pub no_high : (k less b limit : ℕ) (bytes : List ℕ) → k ≡ less + 1 → 128 ≤ b → b < 256 → groups_below less limit bytes ≡ None → groups_below k limit (b ∷ bytes) ≡ None
unfolding groups_reads
no_high zero less b limit bytes some top byte none = absurd (omega arith)
no_high (suc k) less b limit bytes some top byte none =
    let same : less ≡ k = omega arith in
    let many : ltb b 128 ≡ false = le-ltb b 128 top in
    let eight : ltb b 256 ≡ true = lt-ltb b 256 byte in
    let after = after_cases b limit (groups_reads k bytes) top (ap (λ (j : ℕ). groups_below j limit bytes) (sym same) ∙ none) in
    rw (many, eight) after

high_is : (limit : ℕ) (o : Option (ℕ × List ℕ)) (high : ℕ) (rest : List ℕ) → (o >>= below limit) ≡ Some (high, rest) → o ≡ Some (high, rest)
high_is limit None high rest e = absurd cc
high_is limit (Some x) high rest e = test (ltb x.0 limit) e
  where
    test : (t : Bool) → cond t (Some x) None ≡ Some (high, rest) → Some x ≡ Some (high, rest)
    test true e = e
    test false e = absurd cc

-- a group before a higher part
pub one_more : (k less b limit high : ℕ) (bytes rest : List ℕ) → k ≡ less + 1 → 128 ≤ b → b < 256 → groups_below less limit bytes ≡ Some (high, rest) → groups_below k limit (b ∷ bytes) ≡ (with_group b (high, rest) >>= below limit)
unfolding groups_reads
one_more zero less b limit high bytes rest some top byte is = absurd (omega arith)
one_more (suc k) less b limit high bytes rest some top byte is =
    let same : less ≡ k = omega arith in
    let many : ltb b 128 ≡ false = le-ltb b 128 top in
    let eight : ltb b 256 ≡ true = lt-ltb b 256 byte in
    let found = high_is limit (groups_reads k bytes) high rest (ap (λ (j : ℕ). groups_below j limit bytes) (sym same) ∙ is) in
    rw (many, eight, found) refl

pub one_more_some : (k less b limit high value : ℕ) (bytes rest : List ℕ) → k ≡ less + 1 → 128 ≤ b → b < 256 → groups_below less limit bytes ≡ Some (high, rest) → 1 ≤ high → value ≡ (b - 128) + 128 * high → value < limit → groups_below k limit (b ∷ bytes) ≡ Some (value, rest)
one_more_some k less b limit high value bytes rest some top byte is positive same fits =
    let least : eqb high 0 ≡ false = ne_eqb high 0 (λ e. absurd (omega arith)) in
    let within : ltb ((b - 128) + 128 * high) limit ≡ true = lt-ltb _ _ (omega arith) in
    one_more k less b limit high bytes rest some top byte is ∙ rw (least, within) (ap (λ (n : ℕ). Some (n, rest)) (sym same))

pub one_more_none : (k less b limit high : ℕ) (bytes rest : List ℕ) → k ≡ less + 1 → 128 ≤ b → b < 256 → groups_below less limit bytes ≡ Some (high, rest) → ((1 ≤ high) × ((b - 128) + 128 * high < limit) → ⊥) → groups_below k limit (b ∷ bytes) ≡ None
one_more_none k less b limit high bytes rest some top byte is not = one_more k less b limit high bytes rest some top byte is ∙ high_cases high not
  where
    high_cases : (h : ℕ) → ((1 ≤ h) × ((b - 128) + 128 * h < limit) → ⊥) → (with_group b (h, rest) >>= below limit) ≡ None
    high_cases zero not = refl
    high_cases (suc h) not =
        let large : ltb ((b - 128) + 128 * suc h) limit ≡ false = le-ltb _ _ (elim (cases_lt ((b - 128) + 128 * suc h) limit) [ inl lt ↦ absurd (not (omega arith, lt)) | inr le ↦ le ]) in
        rw (ne_eqb (suc h) 0 (λ e. absurd (omega arith))) (ap (λ (t : Bool). cond t (Some ((b - 128) + 128 * suc h, rest)) None) large)

-- ---- writing

-- the groups so far and those of the rest spell the number, and there is room for the rest
pub record IsSpelt (n : ℕ) (bytes : List ℕ) (rest : ℕ) : Type 0 where
  pub left : ℕ
  pub few : length bytes + left ≡ 9
  pub small : rest < room left
  pub spelled : bytes ++ groups_bytes (suc left) rest ≡ groups_bytes 10 n

pub spelt_start : (n : ℕ) → n < 2 ^ 64 → IsSpelt n [] n
spelt_start n small = record { left = 9; few = refl; small = omega arith; spelled = refl }

pub spelt_more : (n rest : ℕ) (bytes : List ℕ) → 128 ≤ rest → IsSpelt n bytes rest → IsSpelt n (bytes ++ (128 + rest % 128) ∷ []) (rest / 128)
unfolding groups_bytes
spelt_more n rest bytes large s = by_left s.left s.few s.small s.spelled
  where
    many : (k : ℕ) → 128 ≤ rest → groups_bytes (suc k) rest ≡ (128 + rest % 128) ∷ groups_bytes k (rest / 128)
    many k large = let most : ltb rest 128 ≡ false = le-ltb rest 128 large in rw most refl

    by_left : (left : ℕ) → length bytes + left ≡ 9 → rest < room left → bytes ++ groups_bytes (suc left) rest ≡ groups_bytes 10 n → IsSpelt n (bytes ++ (128 + rest % 128) ∷ []) (rest / 128)
    by_left zero few small e = absurd (omega arith)
    by_left (suc left) few small e = record {
      left = left;
      few = omega (arith, few, length-append bytes ((128 + rest % 128) ∷ []));
      small = omega arith;
      spelled = append_assoc bytes ((128 + rest % 128) ∷ []) (groups_bytes (suc left) (rest / 128)) ∙ ap (λ (l : List ℕ). bytes ++ l) (sym (many (suc left) large)) ∙ e;
    }

pub spelt_end : (n rest : ℕ) (bytes : List ℕ) → rest < 128 → IsSpelt n bytes rest → bytes ++ rest ∷ [] ≡ groups_bytes 10 n
unfolding groups_bytes
spelt_end n rest bytes small s = let one : ltb rest 128 ≡ true = lt-ltb rest 128 small in ap (λ (l : List ℕ). bytes ++ l) (sym (rw one refl)) ∙ s.spelled

-- the same after bytes that were there before
pub record IsSpeltBehind (start : List ℕ) (n : ℕ) (bytes : List ℕ) (rest : ℕ) : Type 0 where
  pub groups : List ℕ
  pub behind : bytes ≡ start ++ groups
  pub spelt : IsSpelt n groups rest

pub behind_start : (start : List ℕ) (n : ℕ) → n < 2 ^ 64 → IsSpeltBehind start n start n
behind_start start n small = record { groups = []; behind = sym (append-nil start); spelt = spelt_start n small }

pub behind_more : (start : List ℕ) (n rest : ℕ) (bytes : List ℕ) → 128 ≤ rest → IsSpeltBehind start n bytes rest → IsSpeltBehind start n (bytes ++ (128 + rest % 128) ∷ []) (rest / 128)
behind_more start n rest bytes large s = record {
  groups = s.groups ++ (128 + rest % 128) ∷ [];
  behind = ap (λ (l : List ℕ). l ++ (128 + rest % 128) ∷ []) s.behind ∙ append_assoc start s.groups ((128 + rest % 128) ∷ []);
  spelt = spelt_more n rest s.groups large s.spelt;
}

pub behind_end : (start : List ℕ) (n rest : ℕ) (bytes : List ℕ) → rest < 128 → IsSpeltBehind start n bytes rest → bytes ++ rest ∷ [] ≡ start ++ groups_bytes 10 n
behind_end start n rest bytes small s =
    ap (λ (l : List ℕ). l ++ rest ∷ []) s.behind ∙ append_assoc start s.groups (rest ∷ []) ∙ ap (λ (l : List ℕ). start ++ l) (spelt_end n rest s.groups small s.spelt)
