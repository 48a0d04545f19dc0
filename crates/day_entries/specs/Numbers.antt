-- How whole numbers are written in the entries of a journal of a format. This project's own.
use Rattle.std.specs.Prelude.{ℕ, ◌^◌, ◌==◌, if◌then◌else◌}
use Rattle.std.specs.Int.{w16, w32, w64}
use Rattle.formats.specs.Formats.{Format}
use Rattle.formats.specs.Numbers.{byte, fixed, grouped}
use Rattle.day_entries.specs.declared.numbers.Numbers.{Numbers}

-- the numbers of a format: 1, or 2, in which all are groups of 7 bits
abbrev pub numbers_of : ℕ → Numbers
numbers_of format = if format == 2 then Numbers.Grouped else Numbers.Fixed

-- a number below 2^8: in format 1 one byte, in format 2 groups of 7 bits, as all others
abbrev pub small : Numbers → Format ℕ
small Numbers.Fixed = byte
small Numbers.Grouped = grouped (2 ^ 8)

-- numbers of two, four and eight bytes in format 1
abbrev pub short : Numbers → Format ℕ
short Numbers.Fixed = fixed w16 (2 ^ 16)
short Numbers.Grouped = grouped (2 ^ 16)

-- a number of four bytes, or in groups
abbrev pub long : Numbers → Format ℕ
long Numbers.Fixed = fixed w32 (2 ^ 32)
long Numbers.Grouped = grouped (2 ^ 32)

-- a number of eight bytes, or in groups
abbrev pub wide : Numbers → Format ℕ
wide Numbers.Fixed = fixed w64 (2 ^ 64)
wide Numbers.Grouped = grouped (2 ^ 64)
