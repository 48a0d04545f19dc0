-- Texts as JSON spells them (RFC 8259, section 7): between quotation marks, with the shortest escapes where an escape is
-- needed.
use Rattle.std.specs.Prelude.{ℕ, ◌+◌, ◌/◌, ◌%◌, List, [], ◌∷◌, ◌++◌, Bool, ◌||◌, not, nat_lt, ◌==◌, if◌then◌else◌}
use Rattle.std.specs.List.{flat_map}

-- a byte of a text that is spelled as itself
abbrev pub is_bare : ℕ → Bool
is_bare b = not (b == 34 || b == 92 || nat_lt b 32)

-- a lower-case hexadecimal digit
abbrev pub hex_digit : ℕ → ℕ
hex_digit n = if nat_lt n 10 then 48 + n else 87 + n

-- a byte below 32 as \u00 and two digits
abbrev pub control_escape : ℕ → List ℕ
control_escape b = 92 ∷ 117 ∷ 48 ∷ 48 ∷ hex_digit (b / 16) ∷ hex_digit (b % 16) ∷ []

-- a byte of a text: the quotation mark, the backslash and control bytes are escaped (RFC 8259, section 7)
abbrev pub escape : ℕ → List ℕ
escape b =
    if b == 34 then 92 ∷ 34 ∷ []
    else (if b == 92 then 92 ∷ 92 ∷ []
    else (if b == 8 then 92 ∷ 98 ∷ []
    else (if b == 9 then 92 ∷ 116 ∷ []
    else (if b == 10 then 92 ∷ 110 ∷ []
    else (if b == 12 then 92 ∷ 102 ∷ []
    else (if b == 13 then 92 ∷ 114 ∷ []
    else (if nat_lt b 32 then control_escape b else b ∷ [])))))))

-- a text between quotation marks
abbrev pub text_spelling : List ℕ → List ℕ
text_spelling t = 34 ∷ (flat_map escape t ++ 34 ∷ [])
