-- Formats of whole numbers. This project's own.
use Rattle.std.specs.Prelude.{ℕ, zero, suc, ◌+◌, ◌-◌, ◌*◌, ◌/◌, ◌%◌, ◌<◌, List, [], ◌∷◌, Option, Some, None, Bool, nat_lt, ◌==◌, if◌then◌else◌}
use Rattle.std.specs.List.{list_all}
use Rattle.std.specs.Int.{Width, byte_len, from_le_bytes, to_le_bytes}
use Rattle.std.specs.Fmt.{decimal}
use Rattle.adx_units.specs.Number.{is_digit}
use Rattle.formats.specs.Parts.{◌>>=◌, number_at, Stops}
use Rattle.formats.specs.Formats.{Format, Reads, bytes_reads}

-- a number that is a byte
abbrev pub is_byte : ℕ → Bool
is_byte b = nat_lt b 256

-- the first byte, and the rest
abbrev pub byte_reads : Reads ℕ
byte_reads [] = None
byte_reads (b ∷ rest) = if is_byte b then Some (b, rest) else None

-- one byte
abbrev pub byte : Format ℕ
byte = record { Fits = λ n. n < 256; write = λ n. n ∷ []; reads = byte_reads; Ends = λ rest. Unit {0} }

-- a number of a width, least byte first
abbrev pub fixed_reads : Width → Reads ℕ
fixed_reads w bytes = do
  front ← bytes_reads (byte_len w) bytes
  if list_all is_byte front.0 then Some (from_le_bytes w front.0, front.1) else None

-- a number of a width, least byte first
abbrev pub fixed : Width → ℕ → Format ℕ
fixed w limit = record { Fits = λ n. n < limit; write = to_le_bytes w; reads = fixed_reads w; Ends = λ rest. Unit {0} }

-- a whole number in decimal below a limit, which no digit follows
abbrev pub whole : ℕ → Format ℕ
whole limit = record { Fits = λ n. n < limit; write = decimal; reads = number_at limit; Ends = Stops is_digit }

-- at most so many groups of 7 bits, least first, each byte but the last with its top bit set
-- Example: 300 is the bytes 172 and 2.
unfoldable pub groups_bytes : ℕ → ℕ → List ℕ
groups_bytes zero n = []
groups_bytes (suc groups) n = if nat_lt n 128 then n ∷ [] else (128 + n % 128) ∷ groups_bytes groups (n / 128)

-- a group, and what the groups after it represent, which isn't 0
abbrev pub with_group : ℕ → ℕ × List ℕ → Option (ℕ × List ℕ)
with_group b high = if high.0 == 0 then None else Some ((b - 128) + 128 * high.0, high.1)

-- The number that the first bytes spell in at most so many groups of 7 bits, and the bytes after it. None if the last
-- group that is allowed has its top bit set, if the bytes end early, or if a group of zeros ends a number of several.
-- Example: 172, 2, 9 is 300, and 9 is left.
unfoldable pub groups_reads : ℕ → Reads ℕ
groups_reads zero bytes = None
groups_reads (suc groups) [] = None
groups_reads (suc groups) (b ∷ bytes) =
    if nat_lt b 128 then Some (b, bytes)
    else (if is_byte b then groups_reads groups bytes >>= with_group b else None)

-- a number that was read, if it is below a limit
abbrev pub below : ℕ → ℕ × List ℕ → Option (ℕ × List ℕ)
below limit x = if nat_lt x.0 limit then Some x else None

-- the number that the first bytes spell in so many groups, if it is below the limit
abbrev pub groups_below : ℕ → ℕ → Reads ℕ
groups_below most limit bytes = groups_reads most bytes >>= below limit

-- a number below a limit in at most ten groups
abbrev pub grouped : ℕ → Format ℕ
grouped limit = record { Fits = λ n. n < limit; write = groups_bytes 10; reads = groups_below 10 limit; Ends = λ rest. Unit {0} }
