-- What a JSON text's bytes lead to, one after another: the places in the grammar where a reader can be.
-- Only the crate's private clauses cite it.
use Rattle.std.specs.Prelude.{◌≡◌, ℕ, zero, suc, List, [], ◌∷◌, length, Bool, true, false, ◌&&◌, ◌||◌, nat_lt, nat_le, ◌==◌, if◌then◌else◌, Option, Some, None, codes}
use Rattle.adx_units.specs.Number.{is_digit, is_exponent_mark}
use Rattle.adx_json.specs.Grammar.{is_space, is_short, is_hex}
use Rattle.adx_json.specs.declared.number.Numeral.{Numeral}
use Rattle.adx_json.specs.declared.number.Numeral.TheVariants.{Start, Minus, Zero, Whole, Point, Fraction, Mark, Sign, Exponent}
use Rattle.adx_json.specs.declared.utf8.Tail.{Tail}
use Rattle.adx_json.specs.declared.utf8.Tail.TheVariants.{One, Two, Three, BehindE0, BehindEd, BehindF0, BehindF4}
use Rattle.adx_json.specs.declared.fault.Stop.{Stop}
use Rattle.adx_json.specs.declared.fault.Stop.TheVariants.{Syntax, Utf8, Depth, OutOfMemory}

-- a list or an object that is open
pub data Frame : Type 0 where
  in_list in_object : Frame

-- within a string: between characters or within a character's bytes, after a backslash, or where so many further
-- hexadecimal digits follow the next one
pub data Within : Type 0 where
  characters : Option Tail → Within
  escaped : Within
  digits : ℕ → Within

-- a string is a member's name or a value
pub data Role : Type 0 where
  a_name a_value : Role

-- where a value, a list's first item or its end, what follows a value, an object's first name or its end, a further
-- name, or a colon has to come; within a literal, a number or a string
pub data Mode : Type 0 where
  at_value at_first_item behind_value at_first_name at_name behind_name : Mode
  in_word : ℕ → List ℕ → Mode
  in_number : Numeral → Mode
  in_text : Role → Within → Mode

-- one byte leads on, or can't come there, or would begin a level too many
pub data Step : Type 0 where
  moves : Mode → List Frame → Step
  stuck too_deep : Step

-- the number's next place (section 6)
abbrev pub next_numeral : Numeral → ℕ → Option Numeral
next_numeral Start b =
    if b == 45 then Some Minus else (if b == 48 then Some Zero else (if is_digit b then Some Whole else None))
next_numeral Minus b = if b == 48 then Some Zero else (if is_digit b then Some Whole else None)
next_numeral Zero b = if b == 46 then Some Point else (if is_exponent_mark b then Some Mark else None)
next_numeral Whole b =
    if is_digit b then Some Whole else (if b == 46 then Some Point else (if is_exponent_mark b then Some Mark else None))
next_numeral Point b = if is_digit b then Some Fraction else None
next_numeral Fraction b = if is_digit b then Some Fraction else (if is_exponent_mark b then Some Mark else None)
next_numeral Mark b = if b == 43 || b == 45 then Some Sign else (if is_digit b then Some Exponent else None)
next_numeral Sign b = if is_digit b then Some Exponent else None
next_numeral Exponent b = if is_digit b then Some Exponent else None

-- the number may end there
abbrev pub may_end : Numeral → Bool
may_end Start = false
may_end Minus = false
may_end Zero = true
may_end Whole = true
may_end Point = false
may_end Fraction = true
may_end Mark = false
may_end Sign = false
may_end Exponent = true

-- from low to high
abbrev pub is_within : ℕ → ℕ → ℕ → Bool
is_within low high b = nat_le low b && nat_le b high

-- what has to follow a character's first byte (RFC 3629, section 4)
abbrev pub after_lead : ℕ → Option Tail
after_lead b =
    if is_within 194 223 b then Some One
    else (if b == 224 then Some BehindE0
    else (if b == 237 then Some BehindEd
    else (if is_within 225 239 b then Some Two
    else (if b == 240 then Some BehindF0
    else (if is_within 241 243 b then Some Three
    else (if b == 244 then Some BehindF4 else None))))))

abbrev pub behind_text : Role → Mode
behind_text a_name = behind_name
behind_text a_value = behind_value

abbrev pub behind_lead : Option Tail → Option (Option Tail)
behind_lead None = None
behind_lead (Some t) = Some (Some t)

-- which bytes may come next of a character, and what has to follow them
abbrev pub tail_low : Tail → ℕ
tail_low BehindE0 = 160
tail_low BehindF0 = 144
tail_low _ = 128

abbrev pub tail_high : Tail → ℕ
tail_high BehindEd = 159
tail_high BehindF4 = 143
tail_high _ = 191

abbrev pub tail_next : Tail → Option Tail
tail_next One = None
tail_next Two = Some One
tail_next Three = Some Two
tail_next BehindE0 = Some One
tail_next BehindEd = Some One
tail_next BehindF0 = Some Two
tail_next BehindF4 = Some Two

-- a byte of UTF-8, between characters or within one
abbrev pub utf8_step : Option Tail → ℕ → Option (Option Tail)
utf8_step None b = if nat_lt b 128 then Some None else behind_lead (after_lead b)
utf8_step (Some t) b = if is_within (tail_low t) (tail_high t) b then Some (tail_next t) else None

abbrev pub from_tail : Role → List Frame → Option (Option Tail) → Step
from_tail role fs None = stuck
from_tail role fs (Some t) = moves (in_text role (characters t)) fs

abbrev pub behind_digit : ℕ → Within
behind_digit zero = characters None
behind_digit (suc k) = digits k

abbrev pub text_step : Role → Within → List Frame → ℕ → Step
text_step role (characters None) fs b =
    if b == 34 then moves (behind_text role) fs
    else (if b == 92 then moves (in_text role escaped) fs
    else (if nat_lt b 32 then stuck else from_tail role fs (utf8_step None b)))
text_step role (characters (Some t)) fs b = from_tail role fs (utf8_step (Some t) b)
text_step role escaped fs b =
    if is_short b then moves (in_text role (characters None)) fs
    else (if b == 117 then moves (in_text role (digits 3)) fs else stuck)
text_step role (digits k) fs b = if is_hex b then moves (in_text role (behind_digit k)) fs else stuck

-- a list or an object begins where there is room for its level
abbrev pub opens : ℕ → Mode → List Frame → Step
opens limit m fs = if nat_lt (length fs) limit then moves m fs else too_deep

abbrev pub from_numeral : List Frame → Step → Option Numeral → Step
from_numeral fs other None = other
from_numeral fs other (Some n) = moves (in_number n) fs

abbrev pub value_step : ℕ → List Frame → ℕ → Step
value_step limit fs b =
    if is_space b then moves at_value fs
    else (if b == 34 then moves (in_text a_value (characters None)) fs
    else (if b == 91 then opens limit at_first_item fs
    else (if b == 123 then opens limit at_first_name fs
    else (if b == 116 then moves (in_word 114 (codes "ue")) fs
    else (if b == 102 then moves (in_word 97 (codes "lse")) fs
    else (if b == 110 then moves (in_word 117 (codes "ll")) fs
    else from_numeral fs stuck (next_numeral Start b)))))))

abbrev pub behind_step : List Frame → ℕ → Step
behind_step [] b = if is_space b then moves behind_value [] else stuck
behind_step (in_list ∷ fs) b =
    if is_space b then moves behind_value (in_list ∷ fs)
    else (if b == 44 then moves at_value (in_list ∷ fs) else (if b == 93 then moves behind_value fs else stuck))
behind_step (in_object ∷ fs) b =
    if is_space b then moves behind_value (in_object ∷ fs)
    else (if b == 44 then moves at_name fs else (if b == 125 then moves behind_value fs else stuck))

abbrev pub word_step : ℕ → List ℕ → List Frame → ℕ → Step
word_step c [] fs b = if b == c then moves behind_value fs else stuck
word_step c (d ∷ ds) fs b = if b == c then moves (in_word d ds) fs else stuck

-- the frames are the lists and objects around what the mode speaks of
unfoldable pub step : ℕ → Mode → List Frame → ℕ → Step
step limit at_value fs b = value_step limit fs b
step limit at_first_item fs b =
    if is_space b then moves at_first_item fs
    else (if b == 93 then moves behind_value fs else value_step limit (in_list ∷ fs) b)
step limit behind_value fs b = behind_step fs b
step limit at_first_name fs b =
    if is_space b then moves at_first_name fs
    else (if b == 34 then moves (in_text a_name (characters None)) fs else (if b == 125 then moves behind_value fs else stuck))
step limit at_name fs b =
    if is_space b then moves at_name fs else (if b == 34 then moves (in_text a_name (characters None)) fs else stuck)
step limit behind_name fs b =
    if is_space b then moves behind_name fs else (if b == 58 then moves at_value (in_object ∷ fs) else stuck)
step limit (in_word c cs) fs b = word_step c cs fs b
step limit (in_number n) fs b =
    from_numeral fs (if may_end n then behind_step fs b else stuck) (next_numeral n b)
step limit (in_text role w) fs b = text_step role w fs b

-- the kind of a fault where so many bytes are left, at a byte, and at the end of the bytes
abbrev pub within_fault : Within → ℕ → ℕ → Stop
within_fault (characters (Some t)) left b = Utf8 left
within_fault (characters None) left b = if nat_le 128 b then Utf8 left else Syntax left
within_fault escaped left b = if nat_le 128 b then Utf8 left else Syntax left
within_fault (digits k) left b = if nat_le 128 b then Utf8 left else Syntax left

abbrev pub fault_at : Mode → ℕ → ℕ → Stop
fault_at (in_text role w) left b = within_fault w left b
fault_at _ left b = Syntax left

abbrev pub within_end : Within → Stop
within_end (characters (Some t)) = Utf8 0
within_end _ = Syntax 0

unfoldable pub at_end : Mode → List Frame → Option Stop
at_end behind_value [] = None
at_end (in_number n) [] = if may_end n then None else Some (Syntax 0)
at_end (in_text role w) fs = Some (within_end w)
at_end _ _ = Some (Syntax 0)

-- where the bytes stop being a text's, if they do: by how many bytes are left there
unfoldable pub stop_of : ℕ → Mode → List Frame → List ℕ → Option Stop
stop_of limit m fs [] = at_end m fs
stop_of limit m fs (b ∷ bytes) =
    elim (step limit m fs b) [
      | moves m' fs' ↦ stop_of limit m' fs' bytes
      | stuck ↦ Some (fault_at m (suc (length bytes)) b)
      | too_deep ↦ Some (Depth (suc (length bytes)))
    ]

-- a fault says where the bytes stop, but for memory
abbrev pub Tells : Stop → Option Stop → Type 0
Tells (Syntax left) o = o ≡ Some (Syntax left)
Tells (Utf8 left) o = o ≡ Some (Utf8 left)
Tells (Depth left) o = o ≡ Some (Depth left)
Tells OutOfMemory o = Unit {0}
