-- A name in its compact spelling as it is read from the front of bytes; only private clauses cite it.
use Rattle.std.specs.Prelude.{◌≡◌, ℕ, zero, suc, ◌+◌, ◌*◌, ◌-◌, List, [], ◌∷◌, length, drop, Bool, Option, Some, None, ◌==◌, ◌||◌, ◌&&◌, not, nat_le, nat_lt, if◌then◌else◌, Result, Ok, Err}
use Rattle.std.specs.Str.{is_utf8}
use Rattle.adx_units.specs.Number.{begins_with}
use Rattle.formats.specs.Parts.{◌>>=◌, behind_byte}
use Rattle.bid_record.specs.declared.fault.Misfit.{Misfit}
use Rattle.bid_record.specs.declared.fault.Misfit.TheVariants.{Form, Memory}

-- what a function read, seen by view, is what reading gives, unless memory ran out
abbrev pub Fails : {Y : Type 0} → Misfit → Option Y → Type 0
Fails Form read = read ≡ None
Fails Memory read = Unit {0}

abbrev pub Gives : {X Y : Type 0} → (X → Y) → Result X Misfit → Option Y → Type 0
Gives view (Ok x) read = read ≡ Some (view x)
Gives view (Err misfit) read = Fails misfit read

-- the number of a lower-case hexadecimal digit, or 16
abbrev pub hex_value : ℕ → ℕ
hex_value c = if nat_le 48 c && nat_le c 57 then c - 48 else (if nat_le 97 c && nat_le c 102 then c - 87 else 16)

-- a control byte without a letter of its own
abbrev pub is_nameless : ℕ → Bool
is_nameless b = nat_lt b 32 && not (b == 8 || b == 9 || b == 10 || b == 12 || b == 13)

-- the control byte of two digits
abbrev pub control_of : ℕ → ℕ → Option ℕ
control_of high low =
    if nat_lt (hex_value high) 2 && nat_lt (hex_value low) 16 && is_nameless (16 * hex_value high + hex_value low)
    then Some (16 * hex_value high + hex_value low) else None

-- the byte of the mark behind a backslash
abbrev pub marked : ℕ → Option ℕ
marked c =
    if c == 34 then Some 34
    else (if c == 92 then Some 92
    else (if c == 98 then Some 8
    else (if c == 116 then Some 9
    else (if c == 110 then Some 10
    else (if c == 102 then Some 12
    else (if c == 114 then Some 13 else None))))))

-- the control byte of the two digits at the front
unfoldable pub two_digits_at : List ℕ → Option (ℕ × List ℕ)
two_digits_at [] = None
two_digits_at (high ∷ []) = None
two_digits_at (high ∷ low ∷ rest) = do
  b ← control_of high low
  Some (b, rest)

-- the control byte behind the letter u
unfoldable pub control_at : List ℕ → Option (ℕ × List ℕ)
control_at bytes = do
  a ← behind_byte 48 bytes
  b ← behind_byte 48 a
  two_digits_at b

-- the byte of an escape behind its backslash
unfoldable pub escaped_at : List ℕ → Option (ℕ × List ℕ)
escaped_at [] = None
escaped_at (c ∷ cs) = if c == 117 then control_at cs else (do
  b ← marked c
  Some (b, cs))

-- the byte at the front of a text's body, as it is spelled
unfoldable pub spelled_at : List ℕ → Option (ℕ × List ℕ)
spelled_at [] = None
spelled_at (b ∷ bs) = if b == 92 then escaped_at bs else (if b == 34 || nat_lt b 32 then None else Some (b, bs))

-- the bytes of a text's body up to the quotation mark behind it; no more than n of them
unfoldable pub body_at : ℕ → List ℕ → Option (List ℕ × List ℕ)
body_at zero bytes = None
body_at (suc n) bytes = if begins_with 34 bytes then Some ([], drop 1 bytes) else (do
  b ← spelled_at bytes
  more ← body_at n b.1
  Some (b.0 ∷ more.0, more.1))

abbrev pub is_name : List ℕ → Bool
is_name name = is_utf8 name && nat_le 1 (length name) && nat_le (length name) 128

-- bytes as a name
unfoldable pub named_of : List ℕ → Option (List ℕ)
named_of bytes = if is_name bytes then Some bytes else None

-- a name behind its quotation mark
unfoldable pub name_body_at : List ℕ → Option (List ℕ × List ℕ)
name_body_at bytes = do
  body ← body_at (length bytes) bytes
  name ← named_of body.0
  Some (name, body.1)

-- a name behind a space
unfoldable pub name_at : List ℕ → Option (List ℕ × List ℕ)
name_at bytes = do
  a ← behind_byte 32 bytes
  b ← behind_byte 34 a
  name_body_at b
