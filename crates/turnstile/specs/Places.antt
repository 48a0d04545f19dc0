-- Lists of places, and which of two lists is the longer. This project's own.
use Rattle.std.specs.Prelude.{◌≡◌, ℕ, ◌+◌, ◌≤◌, Bool, true, false, eqb, leb, ltb, ◌&&◌, List, [], ◌∷◌, length, if◌then◌else◌, max}
use mathlib.Core.List.{IsPrefix}

-- f of each, added up
abbrev pub total : {A : Type 0} → (A → ℕ) → List A → ℕ
total f [] = 0
total f (x ∷ xs) = f x + total f xs

-- 1 for yes, 0 for no
abbrev pub one_where : Bool → ℕ
one_where true = 1
one_where false = 0

-- how often the place p is in the list
abbrev pub times : ℕ → List ℕ → ℕ
times p ps = total (λ q. one_where (eqb q p)) ps

-- 1 for the places from a on and below b, and else 0
abbrev pub within : ℕ → ℕ → ℕ → ℕ
within a b p = one_where (leb a p && ltb p b)

-- no place is in the list twice
abbrev pub AreDifferent : List ℕ → Type 0
AreDifferent ps = (p : ℕ) → times p ps ≤ 1

-- the places from a on and below b are in the list, each once, and no other
abbrev pub AreAllOnce : ℕ → ℕ → List ℕ → Type 0
AreAllOnce a b ps = (p : ℕ) → times p ps ≡ within a b p

-- the longer of two lists
abbrev pub longer : {I : Type 0} → List I → List I → List I
longer xs ys = if leb (length xs) (length ys) then ys else xs

-- the greater of two numbers
abbrev pub greater : ℕ → ℕ → ℕ
greater a b = max a b

-- the longer of two lists begins with each of them
abbrev pub AreOneList : {I : Type 0} → List I → List I → Type 0
AreOneList xs ys = IsPrefix xs (longer xs ys) × IsPrefix ys (longer xs ys)
