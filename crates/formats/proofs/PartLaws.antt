-- What is read from the front of bytes is what is there, and what is written is read again.
use Rattle.std.proofs.Common.{◌≡◌, ℕ, ◌^◌, ◌<◌, ◌≤◌, ◌&&◌, List, [], ◌∷◌, ◌++◌, length, take, drop, Bool, true, false, cond, eqb, ltb, Option, Some, None, refl, sym, ap, ◌∙◌, arith}
use Rattle.std.specs.List.{prefix_len}
use Rattle.std.specs.Fmt.{decimal}
use Rattle.std.specs.Str.{bytes_eq}
use Rattle.std.proofs.lemmas.Bool.{and_parts, ltb-true, lt-ltb, eqb-true, eq-eqb}
use Rattle.std.proofs.lemmas.Option.{none-some, same_Some}
use Rattle.std.proofs.lemmas.List.{take-append-drop, take_at, drop_at}
use Rattle.std.proofs.lemmas.Slice.Eq.{bytes_eq-Decides}
use Rattle.adx_units.specs.Number.{is_digit, is_whole, digits_value}
use Rattle.formats.specs.Parts.{◌>>=◌, behind_word, behind_byte, none_left, front_digits, number_at, Stops}
use Rattle.formats.proofs.Runs.{run_len}
use Rattle.formats.proofs.Decimals.{decimal_is_whole, decimal_is_digits, decimal_value, decimal_of_whole}

-- a step that found something, and the next one
pub bind_some : {A B : Type 0} (o : Option A) (f : A → Option B) (y : B) → (o >>= f) ≡ Some y → (x : A) × (o ≡ Some x) × (f x ≡ Some y)
bind_some None f y h = absurd (none-some y h)
bind_some (Some x) f y h = (x, refl, h)

-- an answer under a test
pub tested_some : {A : Type 0} (b : Bool) (o : Option A) (y : A) → cond b o None ≡ Some y → (b ≡ true) × (o ≡ Some y)
tested_some true o y h = (refl, h)
tested_some false o y h = absurd (none-some y h)

pub word_takes : (word bytes rest : List ℕ) → behind_word word bytes ≡ Some rest → bytes ≡ word ++ rest
unfolding behind_word
word_takes word bytes rest h =
    let t = tested_some (bytes_eq (take (length word) bytes) word) (Some (drop (length word) bytes)) rest h in
    let front : take (length word) bytes ≡ word = (bytes_eq-Decides (take (length word) bytes) word).0 t.0 in
    let back : drop (length word) bytes ≡ rest = same_Some (drop (length word) bytes) rest t.1 in
    sym (take-append-drop (length word) bytes) ∙ ap (λ (w : List ℕ). w ++ drop (length word) bytes) front ∙ ap (λ (r : List ℕ). word ++ r) back

pub word_again : (word rest : List ℕ) → behind_word word (word ++ rest) ≡ Some rest
unfolding behind_word
word_again word rest =
    let front : take (length word) (word ++ rest) ≡ word = take_at word rest (length word) refl in
    let back : drop (length word) (word ++ rest) ≡ rest = drop_at word rest (length word) refl in
    let same : bytes_eq word word ≡ true = (bytes_eq-Decides word word).1 refl in
    rw (front, back, same) refl

byte_at : (byte b : ℕ) (bs rest : List ℕ) (t : Bool) → eqb b byte ≡ t → cond t (Some bs) None ≡ Some rest → b ∷ bs ≡ byte ∷ rest
byte_at byte b bs rest true e h = let same : b ≡ byte = eqb-true b byte e in let tails : bs ≡ rest = same_Some bs rest h in cc
byte_at byte b bs rest false e h = absurd (none-some rest h)

pub byte_takes : (byte : ℕ) (bytes rest : List ℕ) → behind_byte byte bytes ≡ Some rest → bytes ≡ byte ∷ rest
byte_takes byte [] rest h = absurd (none-some rest h)
byte_takes byte (b ∷ bs) rest h = byte_at byte b bs rest (eqb b byte) refl h

pub byte_again : (byte : ℕ) (rest : List ℕ) → behind_byte byte (byte ∷ rest) ≡ Some rest
byte_again byte rest = let same : eqb byte byte ≡ true = eq-eqb byte byte refl in rw same refl

pub none_left_is : (bytes : List ℕ) (u : Unit {0}) → none_left bytes ≡ Some u → bytes ≡ []
none_left_is [] u h = refl
none_left_is (b ∷ bs) u h = absurd (none-some u h)

pub number_takes : (limit : ℕ) (bytes : List ℕ) (n : ℕ) (rest : List ℕ) → limit ≤ 10 ^ 64 → number_at limit bytes ≡ Some (n, rest) → (bytes ≡ decimal n ++ rest) × (n < limit)
unfolding number_at
number_takes limit bytes n rest small h =
    let ds = front_digits bytes in
    let t = tested_some (is_whole ds && ltb (digits_value ds) limit) (Some (digits_value ds, drop (prefix_len is_digit bytes) bytes)) (n, rest) h in
    let tests = and_parts (is_whole ds) (ltb (digits_value ds) limit) t.0 in
    let found : (digits_value ds, drop (prefix_len is_digit bytes) bytes) ≡ (n, rest) = same_Some (digits_value ds, drop (prefix_len is_digit bytes) bytes) (n, rest) t.1 in
    let value : digits_value ds ≡ n = ap (λ (p : ℕ × List ℕ). p.0) found in
    let back : drop (prefix_len is_digit bytes) bytes ≡ rest = ap (λ (p : ℕ × List ℕ). p.1) found in
    let below : digits_value ds < limit = ltb-true (digits_value ds) limit tests.1 in
    let spelled : decimal (digits_value ds) ≡ ds = decimal_of_whole ds tests.0 (omega (arith, below, small)) in
    let front : ds ≡ decimal n = sym spelled ∙ ap decimal value in
    (sym (take-append-drop (prefix_len is_digit bytes) bytes) ∙ ap (λ (w : List ℕ). w ++ drop (prefix_len is_digit bytes) bytes) front ∙ ap (λ (r : List ℕ). decimal n ++ r) back, omega (arith, below, value))

pub number_again : (limit n : ℕ) (rest : List ℕ) → limit ≤ 10 ^ 64 → n < limit → Stops is_digit rest → number_at limit (decimal n ++ rest) ≡ Some (n, rest)
unfolding number_at
number_again limit n rest small below stops =
    let within : n < 10 ^ 64 = omega (arith, below, small) in
    let len : prefix_len is_digit (decimal n ++ rest) ≡ length (decimal n) = run_len is_digit (decimal n) rest (decimal_is_digits n within) stops in
    let front : take (length (decimal n)) (decimal n ++ rest) ≡ decimal n = take_at (decimal n) rest (length (decimal n)) refl in
    let back : drop (length (decimal n)) (decimal n ++ rest) ≡ rest = drop_at (decimal n) rest (length (decimal n)) refl in
    let whole : is_whole (decimal n) ≡ true = decimal_is_whole n within in
    let value : digits_value (decimal n) ≡ n = decimal_value n within in
    let less : ltb n limit ≡ true = lt-ltb n limit below in
    rw (len, front, back, whole, value, less) refl
