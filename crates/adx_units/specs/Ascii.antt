-- Bytes of ASCII (RFC 20), and those above.
use Rattle.std.specs.Prelude.{ℕ, Bool, not, nat_le}

-- a byte of 128 or more
abbrev pub is_above_ascii : ℕ → Bool
is_above_ascii b = nat_le 128 b

-- a byte below 128
abbrev pub is_in_ascii : ℕ → Bool
is_in_ascii b = not (is_above_ascii b)
