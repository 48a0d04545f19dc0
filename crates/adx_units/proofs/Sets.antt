-- The names of a set, and names that are looked up in one that has the same.
use Rattle.std.proofs.Common.{◌≡◌, ℕ, List, [], ◌∷◌, map, Bool, true, false, cond, length, ◌||◌, nat_cmp, is_eq, Ordering, Bor, bytes_eq, refl, sym, ap, ap₂, ◌∙◌, arith}
use Rattle.std.proofs.lemmas.Map.Text.{is_eq-slice_cmp}
use Rattle.std.proofs.lemmas.Slice.Eq.{bytes_eq-Decides}
use Rattle.std.specs.BTreeSet.{BTreeSet, Updates}
use Rattle.std.specs.Cmp.Lexicographic.{slice_cmp}
use Rattle.std.specs.List.{list_any}
use Rattle.adx_units.specs.Among.{is_among}

-- the order of a set's names
abbrev pub name_cmp : Bor (List ℕ) → Bor (List ℕ) → Ordering
name_cmp x y = slice_cmp nat_cmp x.now y.now

both_ways : (a b : Bool) → (a ≡ true → b ≡ true) → (b ≡ true → a ≡ true) → a ≡ b
both_ways true b f g = sym (f refl)
both_ways false true f g = g refl
both_ways false false f g = refl

same_both : (xs ys : List ℕ) → bytes_eq xs ys ≡ bytes_eq ys xs
same_both xs ys = both_ways (bytes_eq xs ys) (bytes_eq ys xs)
    (λ h. (bytes_eq-Decides ys xs).1 (sym ((bytes_eq-Decides xs ys).0 h)))
    (λ h. (bytes_eq-Decides xs ys).1 (sym ((bytes_eq-Decides ys xs).0 h)))

pub found : (name : List ℕ) (ks : List (Bor (List ℕ))) → list_any (λ (k : Bor (List ℕ)). is_eq (slice_cmp nat_cmp name k.now)) ks ≡ is_among (map (λ (k : Bor (List ℕ)). k.now) ks) name
found name [] = refl
found name (k ∷ ks) = ap₂ (λ a b. a || b) (is_eq-slice_cmp name k.now ∙ same_both name k.now) (found name ks)

either_cond : (b x : Bool) → cond b true x ≡ (b || x)
either_cond true x = refl
either_cond false x = refl

pub put_in : (s n : BTreeSet (Bor (List ℕ))) (name : Bor (List ℕ)) → Updates name_cmp s n name true → (other : List ℕ) → is_among (map (λ (k : Bor (List ℕ)). k.now) n.keys) other ≡ (bytes_eq name.now other || is_among (map (λ (k : Bor (List ℕ)). k.now) s.keys) other)
put_in s n name u other =
    sym (found other n.keys)
    ∙ u.0 (record { ref_ptr = (0, 0); now = other })
    ∙ ap₂ (λ b x. cond b true x) (is_eq-slice_cmp name.now other) (found other s.keys)
    ∙ either_cond (bytes_eq name.now other) (is_among (map (λ (k : Bor (List ℕ)). k.now) s.keys) other)

swap : (a b c : Bool) → (b || (a || c)) ≡ ((a || b) || c)
swap true true c = refl
swap true false c = refl
swap false b c = refl

-- one more name was put in
pub one_more : (all left behind set after : List (List ℕ)) (name : List ℕ) → ((q : List ℕ) → (is_among left q || is_among set q) ≡ is_among all q) → left ≡ name ∷ behind → ((q : List ℕ) → is_among after q ≡ (bytes_eq name q || is_among set q)) → (q : List ℕ) → (is_among behind q || is_among after q) ≡ is_among all q
one_more all left behind set after name h e put q =
    ap (λ x. is_among behind q || x) (put q)
    ∙ swap (bytes_eq name q) (is_among behind q) (is_among set q)
    ∙ ap (λ l. is_among l q || is_among set q) (sym e)
    ∙ h q

-- nothing is left
pub all_in : (all left set : List (List ℕ)) → ((q : List ℕ) → (is_among left q || is_among set q) ≡ is_among all q) → length left ≡ 0 → (q : List ℕ) → is_among set q ≡ is_among all q
all_in all [] set h e q = h q
all_in all (n ∷ left) set h e q = absurd (omega (arith, e))

pub any_same : (f g : List ℕ → Bool) → ((q : List ℕ) → f q ≡ g q) → (ns : List (List ℕ)) → list_any f ns ≡ list_any g ns
any_same f g h [] = refl
any_same f g h (n ∷ ns) = ap₂ (λ a b. a || b) (h n) (any_same f g h ns)

none_any : (ys : List (List ℕ)) → list_any (is_among []) ys ≡ false
none_any [] = refl
none_any (y ∷ ys) = none_any ys

or_swap : (a b c d : Bool) → ((a || b) || (c || d)) ≡ ((a || c) || (b || d))
or_swap true b c d = refl
or_swap false true true d = refl
or_swap false true false d = refl
or_swap false false c d = refl

any_or : (f g : List ℕ → Bool) (ys : List (List ℕ)) → list_any (λ y. f y || g y) ys ≡ (list_any f ys || list_any g ys)
any_or f g [] = refl
any_or f g (y ∷ ys) = ap (λ x. (f y || g y) || x) (any_or f g ys) ∙ or_swap (f y) (g y) (list_any f ys) (list_any g ys)

-- one of the first is among the others where one of the others is among the first
pub any_either_way : (xs ys : List (List ℕ)) → list_any (is_among ys) xs ≡ list_any (is_among xs) ys
any_either_way [] ys = sym (none_any ys)
any_either_way (x ∷ xs) ys =
    ap₂ (λ a b. a || b) (any_same (λ n. bytes_eq n x) (λ n. bytes_eq x n) (λ n. same_both n x) ys) (any_either_way xs ys)
    ∙ sym (any_or (λ y. bytes_eq x y) (is_among xs) ys)
