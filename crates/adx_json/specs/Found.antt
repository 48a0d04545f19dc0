-- What a reader finds at the front of bytes: what the grammar says of it, and that the bytes stop where the rest
-- does. Only the crate's private clauses cite it.
use Rattle.std.specs.Prelude.{◌≡◌, ◌≤◌, ℕ, suc, ◌+◌, List, [], ◌∷◌, ◌++◌, length, IsTrue, Option, Some, None, ◌&&◌, IfSome}
use Rattle.std.specs.List.{flat_map, AllByRecursion}
use Rattle.std.specs.Char.Utf16.{is_high_surrogate}
use Rattle.adx_units.specs.Number.{is_number}
use Rattle.adx_json.specs.Tree.{Tree, Items, Members, levels, items_levels, members_levels}
use Rattle.adx_units.specs.JsonTexts.{is_bare}
use Rattle.adx_units.specs.Scans.{Stops}
use Rattle.adx_json.specs.Grammar.{is_space, IsSpace, IsPadded, IsString, IsValue, AreItems, AreMembers, Piece, run, IsPiece, piece_bytes, unit_value, unit_text, waits, decoded, resolved, resolved_items, resolved_members, is_hex, hex_value}
use Rattle.adx_json.specs.Machine.{Frame, in_object, characters, escaped, digits, Role, Mode, at_value, at_first_item, behind_value, at_first_name, at_name, in_word, in_number, in_text, behind_text, stop_of, Tells}
use Rattle.adx_json.specs.declared.number.Numeral.TheVariants.{Start}
use Rattle.adx_json.specs.declared.fault.Stop.{Stop}
use Rattle.adx_json.specs.declared.fault.Stop.TheVariants.{Utf8}

-- a fault says where bytes stop that are read from a mode on, inside so many lists and objects that n levels are left
abbrev pub StopsAt : Stop → ℕ → Mode → List ℕ → Type 0
StopsAt e n m bytes = (fs : List Frame) → length fs + n ≡ 64 → Tells e (stop_of 64 m fs bytes)

-- the same within a list or an object that is open
abbrev pub StopsInside : Stop → ℕ → Mode → List ℕ → Type 0
StopsInside e n m bytes = (fs : List Frame) → suc (length fs) + n ≡ 64 → Tells e (stop_of 64 m fs bytes)

-- a word's rest stops where a byte of it doesn't come
abbrev pub StopsWord : Stop → List ℕ → List ℕ → Type 0
StopsWord e bytes word = (c : ℕ) (cs : List ℕ) (fs : List Frame) → word ≡ c ∷ cs → Tells e (stop_of 64 (in_word c cs) fs bytes)

-- a string's run of bytes stops being UTF-8 where so many are left of it, before anything that doesn't represent itself
abbrev pub BreaksIn : List ℕ → ℕ → Type 0
BreaksIn bytes left =
    (role : Role) (fs : List Frame) (rest : List ℕ) → Stops is_bare rest
    → stop_of 64 (in_text role (characters None)) fs (bytes ++ rest) ≡ Some (Utf8 (left + length rest))

-- white space, and the rest, which doesn't begin with any
pub record FoundSpace (bytes rest : List ℕ) : Type 0 where
  pub space : List ℕ
  pub whole : bytes ≡ space ++ rest
  pub is : IsSpace space
  pub ends : Stops is_space rest

-- A number, and the rest
pub record FoundNumber (bytes n rest : List ℕ) : Type 0 where
  pub is : IsTrue (is_number n)
  pub whole : bytes ≡ n ++ rest
  pub goes : (fs : List Frame) → stop_of 64 (in_number Start) fs bytes ≡ stop_of 64 behind_value fs rest

-- a hexadecimal digit of that value
pub record FoundDigit (bytes : List ℕ) (value : ℕ) (rest : List ℕ) : Type 0 where
  pub digit : ℕ
  pub whole : bytes ≡ digit ∷ rest
  pub is : IsTrue (is_hex digit)
  pub means : value ≡ hex_value digit

-- four hexadecimal digits of that value
pub record FoundUnit (bytes : List ℕ) (value : ℕ) (rest : List ℕ) : Type 0 where
  pub a : ℕ
  pub b : ℕ
  pub c : ℕ
  pub d : ℕ
  pub whole : bytes ≡ a ∷ b ∷ c ∷ d ∷ rest
  pub is : IsTrue (is_hex a && is_hex b && is_hex c && is_hex d)
  pub means : value ≡ unit_value a b c d
  pub goes : (role : Role) (fs : List Frame) → stop_of 64 (in_text role (digits 3)) fs bytes ≡ stop_of 64 (in_text role (characters None)) fs rest

-- a run of bytes that represent themselves, as pieces
abbrev pub run_pieces : List ℕ → List Piece
run_pieces [] = []
run_pieces (b ∷ bytes) = run (b ∷ bytes) ∷ []

-- a run was put after what was there, and what waits now
pub record AddsRun (waiting : Option ℕ) (bytes before : List ℕ) (now : Option ℕ) (after : List ℕ) : Type 0 where
  pub each : AllByRecursion IsPiece (run_pieces bytes)
  pub adds : (more : List Piece) → after ++ decoded now more ≡ before ++ decoded waiting (run_pieces bytes ++ more)
  pub high : IfSome waiting (λ h. IsTrue (is_high_surrogate h)) → IfSome now (λ h. IsTrue (is_high_surrogate h))

-- an escape after its backslash, of that code unit
pub record FoundEscape (bytes : List ℕ) (u : ℕ) (rest : List ℕ) : Type 0 where
  pub piece : Piece
  pub is : IsPiece piece
  pub whole : 92 ∷ bytes ≡ piece_bytes piece ++ rest
  pub means : (waiting : Option ℕ) (more : List Piece) → decoded waiting (piece ∷ more) ≡ unit_text waiting u ++ decoded (waits u) more
  pub goes : (role : Role) (fs : List Frame) → stop_of 64 (in_text role escaped) fs bytes ≡ stop_of 64 (in_text role (characters None)) fs rest

-- a text after its opening quotation mark
pub record FoundText (bytes t rest : List ℕ) : Type 0 where
  pub pieces : List Piece
  pub each : AllByRecursion IsPiece pieces
  pub whole : bytes ≡ flat_map piece_bytes pieces ++ 34 ∷ rest
  pub means : t ≡ decoded None pieces
  pub goes : (role : Role) (fs : List Frame) → stop_of 64 (in_text role (characters None)) fs bytes ≡ stop_of 64 (behind_text role) fs rest

-- a value of at most n levels
pub record FoundValue (n : ℕ) (bytes : List ℕ) (t : Tree) (rest : List ℕ) : Type 0 where
  pub written : Tree
  pub value : List ℕ
  pub whole : bytes ≡ value ++ rest
  pub is : IsValue written value
  pub shallow : levels written ≤ n
  pub means : t ≡ resolved written
  pub goes : (fs : List Frame) → length fs + n ≡ 64 → stop_of 64 at_value fs bytes ≡ stop_of 64 behind_value fs rest

-- the same with the white space before and after it
pub record FoundElement (n : ℕ) (bytes : List ℕ) (t : Tree) (rest : List ℕ) : Type 0 where
  pub written : Tree
  pub value : List ℕ
  pub whole : bytes ≡ value ++ rest
  pub is : IsPadded (IsValue written) value
  pub shallow : levels written ≤ n
  pub means : t ≡ resolved written
  pub ends : Stops is_space rest
  pub goes : (fs : List Frame) → length fs + n ≡ 64 → stop_of 64 at_value fs bytes ≡ stop_of 64 behind_value fs rest

-- the items of at most n levels after a list's opening bracket
pub record FoundItems (n : ℕ) (bytes : List ℕ) (ts : Items) (rest : List ℕ) : Type 0 where
  pub written : Items
  pub inside : List ℕ
  pub whole : bytes ≡ inside ++ 93 ∷ rest
  pub are : AreItems written inside
  pub shallow : items_levels written ≤ n
  pub means : ts ≡ resolved_items written
  pub goes : (fs : List Frame) → suc (length fs) + n ≡ 64 → stop_of 64 at_first_item fs bytes ≡ stop_of 64 behind_value fs rest

-- a member's name up to its colon
pub record FoundName (bytes name rest : List ℕ) : Type 0 where
  pub spelled : List ℕ
  pub whole : bytes ≡ spelled ++ 58 ∷ rest
  pub is : IsPadded (IsString name) spelled
  pub goes : (fs : List Frame) → stop_of 64 at_name fs bytes ≡ stop_of 64 at_value (in_object ∷ fs) rest

-- a member with a value of at most n levels
pub record FoundMember (n : ℕ) (bytes name : List ℕ) (t : Tree) (rest : List ℕ) : Type 0 where
  pub written : Tree
  pub spelled : List ℕ
  pub value : List ℕ
  pub whole : bytes ≡ spelled ++ 58 ∷ (value ++ rest)
  pub named : IsPadded (IsString name) spelled
  pub is : IsPadded (IsValue written) value
  pub shallow : levels written ≤ n
  pub means : t ≡ resolved written
  pub ends : Stops is_space rest
  pub goes : (fs : List Frame) → suc (length fs) + n ≡ 64 → stop_of 64 at_name fs bytes ≡ stop_of 64 behind_value (in_object ∷ fs) rest

-- the members after an object's opening brace, as they are
pub record FoundMembers (n : ℕ) (bytes : List ℕ) (ms : Members) (rest : List ℕ) : Type 0 where
  pub written : Members
  pub inside : List ℕ
  pub whole : bytes ≡ inside ++ 125 ∷ rest
  pub are : AreMembers written inside
  pub shallow : members_levels written ≤ n
  pub means : ms ≡ resolved_members written
  pub goes : (fs : List Frame) → suc (length fs) + n ≡ 64 → stop_of 64 at_first_name fs bytes ≡ stop_of 64 behind_value fs rest
