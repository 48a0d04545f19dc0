-- What was found in the fields of a head so far; private clauses alone cite this file.
use Rattle.std.specs.Prelude.{◌≡◌, ◌≢◌, ℕ, ◌<◌, List, [], ◌∷◌, length, All, ⊤}
use Rattle.std.specs.Char.{is_ascii_digit}
use Rattle.httparse.specs.Grammar.{AllPass}
use Rattle.std.specs.Str.Parse.{digits_value}
use Rattle.http_grammar.specs.Fields.{IsLength}
use Rattle.http_grammar.specs.declared.fields.Values.{Values}
use Rattle.http_grammar.specs.declared.lengths.Lengths.{Lengths}

-- the values so far
abbrev pub AreValues : Values → List (List ℕ) → Type 0
AreValues Values.Absent values = values ≡ []
AreValues (Values.One v) values = values ≡ v.now ∷ []
AreValues Values.More values = 1 < length values

-- the lengths so far
abbrev pub AreLengths : Lengths → List (List ℕ) → Type 0
AreLengths Lengths.Absent values = values ≡ []
AreLengths (Lengths.Same v) values = (values ≢ []) × All (IsLength (digits_value 10 v.now)) values
AreLengths Lengths.Unsound values = (n : ℕ) → All (IsLength n) values → ⊥

-- the length that was found first is digits
abbrev pub FirstIsDigits : Lengths → Type 0
FirstIsDigits Lengths.Absent = ⊤
FirstIsDigits (Lengths.Same v) = AllPass is_ascii_digit v.now
FirstIsDigits Lengths.Unsound = ⊤
