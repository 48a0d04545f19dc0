-- On lists alone: the only item that passes a test, and lists cut at an item.
use Rattle.std.proofs.Common.{◌≡◌, ℕ, zero, suc, ◌<◌, ◌≤◌, List, [], ◌∷◌, ◌++◌, map, length, get_or, Bool, true, false, cond, ◌&&◌, ltb, refl, sym, ap, ◌∙◌, arith, ap₂, is_some, Option, Some, None, option_and_then}
use Rattle.std.specs.List.{All, cons_option, filter, find, position, position_or_len, slice_get}
use Rattle.std.proofs.lemmas.Bool.{ltb-false, ltb-true}
use Rattle.std.proofs.lemmas.List.Folds.{find_at}

-- no item passes
pub filter_none : {X : Type 0} (p : X → Bool) (xs : List X) → ((i : ℕ) (x : X) → slice_get xs i ≡ Some x → p x ≡ true → ⊥) → filter p xs ≡ []
filter_none p [] none = refl
filter_none {X} p (x ∷ xs) none = by (p x) refl (filter_none p xs (λ i y at passes. none (suc i) y at passes))
  where
    by : (b : Bool) → p x ≡ b → filter p xs ≡ [] → filter p (x ∷ xs) ≡ []
    by true is rest = absurd (none 0 x refl is)
    by false is rest = ap (λ (c : Bool). cond c (x ∷ filter p xs) (filter p xs)) is ∙ rest

-- where at most one place passes, what passes is what is found first
pub filter_one : {X : Type 0} (p : X → Bool) (xs : List X) → ((i j : ℕ) (x y : X) → slice_get xs i ≡ Some x → slice_get xs j ≡ Some y → p x ≡ true → p y ≡ true → i ≡ j) → filter p xs ≡ cons_option (find p xs) []
filter_one p [] one = refl
filter_one {X} p (x ∷ xs) one =
    by (p x) refl (filter_one p xs (λ i j y z at also first second. let h : suc i ≡ suc j = one (suc i) (suc j) y z at also first second in omega arith))
  where
    by : (b : Bool) → p x ≡ b → filter p xs ≡ cons_option (find p xs) [] → filter p (x ∷ xs) ≡ cons_option (find p (x ∷ xs)) []
    by true is rest =
        ap (λ (c : Bool). cond c (x ∷ filter p xs) (filter p xs)) is
        ∙ (ap (λ (ys : List X). x ∷ ys) (filter_none p xs (λ i y at passes. absurd (let h : 0 ≡ suc i = one 0 (suc i) x y refl at is passes in omega arith)))
        ∙ sym (ap (λ (c : Bool). cons_option (cond c (Some x) (find p xs)) []) is))
    by false is rest =
        ap (λ (c : Bool). cond c (x ∷ filter p xs) (filter p xs)) is
        ∙ (rest
        ∙ sym (ap (λ (c : Bool). cons_option (cond c (Some x) (find p xs)) []) is))

-- the first that passes among those that pass another test
pub find_filter : {X : Type 0} (p q r : X → Bool) (xs : List X) → ((x : X) → (q x && p x) ≡ r x) → find p (filter q xs) ≡ find r xs
find_filter p q r [] same = refl
find_filter {X} p q r (x ∷ xs) same =
    by (q x) refl (find_filter p q r xs same)
  where
    by : (b : Bool) → q x ≡ b → find p (filter q xs) ≡ find r xs → find p (filter q (x ∷ xs)) ≡ find r (x ∷ xs)
    by false is_q rest =
        ap (λ (b : Bool). find p (cond b (x ∷ filter q xs) (filter q xs))) is_q
        ∙ (rest ∙ sym (ap (λ (b : Bool). cond b (Some x) (find r xs)) (sym (same x) ∙ ap (λ (b : Bool). b && p x) is_q)))
    by true is_q rest =
        ap (λ (b : Bool). find p (cond b (x ∷ filter q xs) (filter q xs))) is_q
        ∙ (ap (λ (t : Option X). cond (p x) (Some x) t) rest
        ∙ ap (λ (b : Bool). cond b (Some x) (find r xs)) (sym (ap (λ (b : Bool). b && p x) is_q) ∙ same x))

get_past : {X : Type 0} (xs : List X) (k : ℕ) → length xs ≤ k → slice_get xs k ≡ None
get_past [] k past = refl
get_past (x ∷ xs) zero past = absurd (omega arith)
get_past (x ∷ xs) (suc k) past = get_past xs k (omega arith)

get_within : {X : Type 0} (xs : List X) (k : ℕ) → k < length xs → is_some (slice_get xs k) ≡ true
get_within [] k within = absurd (omega arith)
get_within (x ∷ xs) zero within = refl
get_within (x ∷ xs) (suc k) within = get_within xs k (omega arith)

-- what is found is at the position
pub found_at : {X : Type 0} (p : X → Bool) (xs : List X) → find p xs ≡ option_and_then (slice_get xs) (position p xs)
found_at {X} p xs = find_at p xs ∙ by (ltb (position_or_len p xs) (length xs)) refl
  where
    by : (b : Bool) → ltb (position_or_len p xs) (length xs) ≡ b → slice_get xs (position_or_len p xs) ≡ option_and_then (slice_get xs) (cond (ltb (position_or_len p xs) (length xs)) (Some (position_or_len p xs)) None)
    by true is = sym (ap (λ (b : Bool). option_and_then (slice_get xs) (cond b (Some (position_or_len p xs)) None)) is)
    by false is =
        get_past xs (position_or_len p xs) (ltb-false _ _ is)
        ∙ sym (ap (λ (b : Bool). option_and_then (slice_get xs) (cond b (Some (position_or_len p xs)) None)) is)

pub placed_found : {X : Type 0} (p : X → Bool) (xs : List X) → is_some (position p xs) ≡ is_some (find p xs)
placed_found {X} p xs = by (ltb (position_or_len p xs) (length xs)) refl ∙ ap is_some (sym (find_at p xs))
  where
    by : (b : Bool) → ltb (position_or_len p xs) (length xs) ≡ b → is_some (cond (ltb (position_or_len p xs) (length xs)) (Some (position_or_len p xs)) None) ≡ is_some (slice_get xs (position_or_len p xs))
    by true is =
        ap (λ (b : Bool). is_some (cond b (Some (position_or_len p xs)) None)) is
        ∙ sym (get_within xs (position_or_len p xs) (ltb-true _ _ is))
    by false is =
        ap (λ (b : Bool). is_some (cond b (Some (position_or_len p xs)) None)) is
        ∙ ap is_some (sym (get_past xs (position_or_len p xs) (ltb-false _ _ is)))

-- two lists in one, cut where what they show is cut
pub record Cut {X Y : Type 0} (f : X → Y) (xs : List X) (front rest : List Y) : Type 0 where
  pub one : List X
  pub two : List X
  pub is : xs ≡ one ++ two
  pub first : map f one ≡ front
  pub second : map f two ≡ rest

pub cut : {X Y : Type 0} (f : X → Y) (xs : List X) (front rest : List Y) → map f xs ≡ front ++ rest → Cut f xs front rest
cut f xs [] rest h = record { one = []; two = xs; is = refl; first = refl; second = h }
cut f [] (y ∷ front) rest h = absurd (let l : 0 ≡ length (y ∷ front ++ rest) = ap length h in omega arith)
cut {X} {Y} f (x ∷ xs) (y ∷ front) rest h =
    let tail : map f xs ≡ front ++ rest = ap rest_of h in
    let c = cut f xs front rest tail in
    record {
      one = x ∷ c.one;
      two = c.two;
      is = ap (λ (t : List X). x ∷ t) c.is;
      first = ap₂ (λ (a : Y) (t : List Y). a ∷ t) (ap (first_or y) h) c.first;
      second = c.second;
    }
  where
    rest_of : List Y → List Y
    rest_of [] = []
    rest_of (z ∷ zs) = zs

    first_or : Y → List Y → Y
    first_or d [] = d
    first_or d (z ∷ zs) = z

-- what holds of each by three
pub all_three : {X : Type 0} (P Q R S : X → Type 0) (xs : List X) → ((x : X) → P x → Q x → R x → S x) → All P xs → All Q xs → All R xs → All S xs
all_three P Q R S xs step p q r k d below = step (get_or xs k d) (p k d below) (q k d below) (r k d below)
