-- How long an input, a line and a document may be, in bytes. This project's own.
use Rattle.std.specs.Prelude.{ℕ}

-- the longest input: 2^36 bytes
abbrev pub input_limit : ℕ
input_limit = 68719476736

-- the longest line: 2^22 bytes
abbrev pub line_limit : ℕ
line_limit = 4194304

-- the longest document: 2^31 bytes
abbrev pub document_limit : ℕ
document_limit = 2147483648
