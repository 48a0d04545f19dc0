-- What is computed of each row of the table at once, and then holds of each of them.
use Rattle.std.proofs.Common.{◌≡◌, ◌∙◌, sym, ap, ap₂, subst, refl, not, nat_lt, length, ℕ, ◌+◌, ◌||◌, cond, Bool, true, false, List, [], ◌∷◌, map, Option, Some, None, true≢false, zero, suc, arith}
use Rattle.std.specs.Prelude.{position, slice_get}
use Rattle.std.specs.List.{All, find, list_any, prefix_len}
use Rattle.std.specs.Option.{unwrap_or}
use Rattle.std.specs.Str.{bytes_eq}
use Rattle.std.proofs.lemmas.List.Elements.{All-cons, All-head, All-nil, All-tail}
use Rattle.command_words.specs.Spelling.{Choice}
use Rattle.command_words.specs.declared.command.Topic.{Topic}

-- ---- lists

abbrev head_or : {X : Type 0} → X → List X → X
head_or x [] = x
head_or x (y ∷ ys) = y

abbrev tail_of : {X : Type 0} → List X → List X
tail_of [] = []
tail_of (y ∷ ys) = ys

-- two functions that give the same lists give the same of each element
pub each_same : {X Y : Type 0} (f g : X → Y) (xs : List X) → map f xs ≡ map g xs → All (λ x. f x ≡ g x) xs
each_same f g [] same = All-nil (λ x. f x ≡ g x)
each_same f g (x ∷ xs) same = All-cons (λ y. f y ≡ g y) x xs (ap (head_or (f x)) same) (each_same f g xs (ap tail_of same))

-- what is found is one of the list, and passes the test
pub found_one : {X : Type 0} (P : X → Type 0) (test : X → Bool) (xs : List X) (x : X) → All P xs → find test xs ≡ Some x → P x
found_one P test [] x all is = absurd (cc is)
found_one {X} P test (y ∷ ys) x all is = go (test y) is (found_one P test ys x (All-tail P y ys all))
  where
    go : (b : Bool) → cond b (Some y) (find test ys) ≡ Some x → (find test ys ≡ Some x → P x) → P x
    go true found later = subst P (ap (λ (o : Option X). unwrap_or o y) found) (All-head P y ys all)
    go false found later = later found

-- what stands at a place is one of the list
pub one_at : {X : Type 0} (P : X → Type 0) (xs : List X) (place : ℕ) (x : X) → All P xs → slice_get xs place ≡ Some x → P x
one_at P [] place x all is = absurd (cc is)
one_at {X} P (y ∷ ys) zero x all is = subst P (ap (λ (o : Option X). unwrap_or o y) is) (All-head P y ys all)
one_at P (y ∷ ys) (suc place) x all is = one_at P ys place x (All-tail P y ys all) is

-- each element's topic, by its place
abbrev pub numbered : {X : Type 0} → ℕ → List X → List Topic
numbered place [] = []
numbered place (x ∷ xs) = Topic.Command place ∷ numbered (place + 1) xs

pub numbered_at : {X : Type 0} (f : X → Topic) (from : ℕ) (xs : List X) (place : ℕ) (x : X) → map f xs ≡ numbered from xs → slice_get xs place ≡ Some x
    → f x ≡ Topic.Command (from + place)
numbered_at f from [] place x same is = absurd (cc is)
numbered_at {X} f from (y ∷ ys) zero x same is =
    ap f (sym (ap (λ (o : Option X). unwrap_or o y) is)) ∙ ap (head_or (f y)) same ∙ ap (λ n. Topic.Command n) (the_same from)
  where
    the_same : (n : ℕ) → n ≡ n + 0
    the_same n = omega arith
numbered_at f from (y ∷ ys) (suc place) x same is = numbered_at f (from + 1) ys place x (ap tail_of same) is ∙ ap (λ n. Topic.Command n) (one_more from place)
  where
    one_more : (n k : ℕ) → n + 1 + k ≡ n + suc k
    one_more n k = omega arith

-- a name that one of these options has
pub option_named : (P : List ℕ → Type 0) (name : List ℕ) (options : List Choice) → ((name other : List ℕ) → bytes_eq other name ≡ true → P other → P name)
    → All (λ choice. P choice.name) options → list_any (λ choice. bytes_eq choice.name name) options ≡ true → P name
option_named P name [] along all is = absurd (true≢false (sym is))
option_named P name (one ∷ options) along all is =
    go (bytes_eq one.name name) refl is (option_named P name options along (All-tail (λ choice. P choice.name) one options all))
  where
    go : (b : Bool) → bytes_eq one.name name ≡ b → (b || list_any (λ choice. bytes_eq choice.name name) options) ≡ true
        → (list_any (λ choice. bytes_eq choice.name name) options ≡ true → P name) → P name
    go true same any later = along name one.name same (All-head (λ choice. P choice.name) one options all)
    go false differ any later = later any

-- ---- places

-- the first of a list that passes is that of the list that it is made of
pub prefix_of_map : {X Y : Type 0} (p : Y → Bool) (f : X → Y) (xs : List X) → prefix_len p (map f xs) ≡ prefix_len (λ x. p (f x)) xs
prefix_of_map p f [] = refl
prefix_of_map p f (x ∷ xs) = ap (λ n. cond (p (f x)) (1 + n) 0) (prefix_of_map p f xs)

length_of_map : {X Y : Type 0} (f : X → Y) (xs : List X) → length (map f xs) ≡ length xs
length_of_map f [] = refl
length_of_map f (x ∷ xs) = ap suc (length_of_map f xs)

pub position_of_map : {X Y : Type 0} (p : Y → Bool) (f : X → Y) (xs : List X) → position p (map f xs) ≡ position (λ x. p (f x)) xs
position_of_map p f xs =
    ap₂ (λ (n m : ℕ). cond (nat_lt n m) (Some n) None) (prefix_of_map (λ y. not (p y)) f xs) (length_of_map f xs)
