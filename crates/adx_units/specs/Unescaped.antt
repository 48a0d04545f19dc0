-- Bytes of ASCII that a JSON text may have as themselves (RFC 8259, section 7: unescaped).
use Rattle.std.specs.Prelude.{ℕ, Bool, not, nat_lt, nat_le, ◌||◌, ◌==◌}

-- a quotation mark, a backslash, a control byte, or a byte above ASCII
abbrev pub is_stop : ℕ → Bool
is_stop b = b == 34 || b == 92 || nat_lt b 32 || nat_le 128 b

-- any other byte
abbrev pub is_unescaped : ℕ → Bool
is_unescaped b = not (is_stop b)
