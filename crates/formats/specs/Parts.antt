-- A part of a line as it is read from the front of bytes: the part and the bytes after it, or None where
-- none is there. And how a part is spelled. This project's own.
use Rattle.std.specs.Prelude.{◌≡◌, ◌≢◌, ℕ, List, [], ◌∷◌, ◌++◌, length, take, drop, Option, Some, None, option_and_then, ◌&&◌, nat_lt, ◌==◌, if◌then◌else◌, Bool, false}
use Rattle.std.specs.List.{prefix_len, All}
use Rattle.std.specs.Str.{bytes_eq}
use Rattle.adx_units.specs.Number.{is_digit, is_whole, digits_value}

-- a line with its newline
abbrev pub ended : List ℕ → List ℕ
ended line = line ++ 10 ∷ []

-- a line has no newline within
abbrev pub IsOneLine : List ℕ → Type 0
IsOneLine line = All (λ b. b ≢ 10) line

-- a part after a space
abbrev pub part : List ℕ → List ℕ
part bytes = 32 ∷ bytes

-- a step of reading, and the next one where it found something
infixl 10 ◌>>=◌
-- what is made of a value, if there is one
abbrev pub ◌>>=◌ : {A B : Type 0} → Option A → (A → Option B) → Option B
o >>= f = option_and_then f o

-- the bytes after a word
unfoldable pub behind_word : List ℕ → List ℕ → Option (List ℕ)
behind_word word bytes = if bytes_eq (take (length word) bytes) word then Some (drop (length word) bytes) else None

-- the bytes after one byte
abbrev pub behind_byte : ℕ → List ℕ → Option (List ℕ)
behind_byte byte [] = None
behind_byte byte (b ∷ bs) = if b == byte then Some bs else None

-- nothing is left
abbrev pub none_left : List ℕ → Option (Unit {0})
none_left [] = Some tt
none_left (b ∷ bs) = None

-- all the digits at the front
abbrev pub front_digits : List ℕ → List ℕ
front_digits bytes = take (prefix_len is_digit bytes) bytes

-- bytes that don't begin with one of a kind
abbrev pub Stops : (ℕ → Bool) → List ℕ → Type 0
Stops p [] = Unit {0}
Stops p (b ∷ bs) = p b ≡ false

-- a whole number below a limit, of all the digits at the front, without a leading zero
unfoldable pub number_at : ℕ → List ℕ → Option (ℕ × List ℕ)
number_at limit bytes =
    if is_whole (front_digits bytes) && nat_lt (digits_value (front_digits bytes)) limit
    then Some (digits_value (front_digits bytes), drop (prefix_len is_digit bytes) bytes)
    else None

-- what a function found, seen by view, is what reading gives
abbrev pub Finds : {X Y : Type 0} → (X → Y) → Option X → Option Y → Type 0
Finds view None read = read ≡ None
Finds view (Some x) read = read ≡ Some (view x)
