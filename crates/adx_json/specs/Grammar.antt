-- JSON texts (RFC 8259) as relations by cases between bytes and trees. They know no reader.
use Rattle.std.specs.Prelude.{◌≡◌, ◌≤◌, ◌<◌, ℕ, ◌+◌, ◌-◌, ◌*◌, List, [], ◌∷◌, ◌++◌, length, Bool, false, ◌&&◌, ◌||◌, IsTrue, nat_le, ◌==◌, if◌then◌else◌, codes, Option, Some, None, IsUtf8, encode_utf8}
use Rattle.std.specs.List.{list_all, flat_map, AllByRecursion}
use Rattle.std.specs.Char.Utf16.{is_high_surrogate, is_low_surrogate, surrogate_pair_char}
use Rattle.std.specs.Str.{bytes_eq}
use Rattle.adx_units.specs.Number.{is_digit, is_number}
use Rattle.adx_json.specs.Tree.{Tree, null, boolean, number, text, list, object, Items, no_items, item, Members, no_members, member, levels}
use Rattle.adx_units.specs.JsonTexts.{is_bare}

-- white space: a space, a tab, a line feed or a carriage return (section 2)
abbrev pub is_space : ℕ → Bool
is_space b = b == 32 || b == 9 || b == 10 || b == 13

-- bytes that are all white space; no bytes are, too
abbrev pub IsSpace : List ℕ → Type 0
IsSpace bytes = IsTrue (list_all is_space bytes)

-- the bytes are of that form, with white space before and after
abbrev pub IsPadded : (List ℕ → Type 0) → List ℕ → Type 0
IsPadded form bytes =
    (before inside behind : List ℕ) × (bytes ≡ before ++ (inside ++ behind)) × IsSpace before × form inside × IsSpace behind

-- a piece of a text between its quotation marks (section 7): characters that represent themselves, a backslash
-- and one character, or a backslash, u and four hexadecimal digits
pub data Piece : Type 0 where
  run : List ℕ → Piece
  short : ℕ → Piece
  unit : ℕ → ℕ → ℕ → ℕ → Piece

-- a quotation mark, a backslash, a slash, b, f, n, r or t
abbrev pub is_short : ℕ → Bool
is_short b = b == 34 || b == 92 || b == 47 || b == 98 || b == 102 || b == 110 || b == 114 || b == 116

-- a hexadecimal digit of either case
abbrev pub is_hex : ℕ → Bool
is_hex b = is_digit b || (nat_le 65 b && nat_le b 70) || (nat_le 97 b && nat_le b 102)

-- the piece may be in a text: what represents itself is UTF-8 with no quotation mark, backslash or control byte
abbrev pub IsPiece : Piece → Type 0
IsPiece (run bytes) = (0 < length bytes) × IsUtf8 bytes × IsTrue (list_all is_bare bytes)
IsPiece (short b) = IsTrue (is_short b)
IsPiece (unit a b c d) = IsTrue (is_hex a && is_hex b && is_hex c && is_hex d)

-- the piece's bytes
abbrev pub piece_bytes : Piece → List ℕ
piece_bytes (run bytes) = bytes
piece_bytes (short b) = 92 ∷ b ∷ []
piece_bytes (unit a b c d) = 92 ∷ 117 ∷ a ∷ b ∷ c ∷ d ∷ []

-- the character that a short escape represents: b, f, n, r and t represent control characters, others for themselves
abbrev pub short_value : ℕ → ℕ
short_value b =
    if b == 98 then 8 else (if b == 102 then 12 else (if b == 110 then 10 else (if b == 114 then 13 else (if b == 116 then 9 else b))))

-- a hexadecimal digit's number
abbrev pub hex_value : ℕ → ℕ
hex_value b = if nat_le b 57 then b - 48 else (if nat_le b 70 then b - 55 else b - 87)

-- the UTF-16 code unit of four hexadecimal digits
abbrev pub unit_value : ℕ → ℕ → ℕ → ℕ → ℕ
unit_value a b c d = 4096 * hex_value a + 256 * hex_value b + 16 * hex_value c + hex_value d

-- U+FFFD, which a surrogate with no partner represents
abbrev pub replacement : List ℕ
replacement = 239 ∷ 191 ∷ 189 ∷ []

-- a high surrogate that was waiting for a low one, and finds none
abbrev pub unpaired : Option ℕ → List ℕ
unpaired None = []
unpaired (Some high) = replacement

-- a low surrogate, after a high one that waits or after none
abbrev pub low_text : Option ℕ → ℕ → List ℕ
low_text None low = replacement
low_text (Some high) low = encode_utf8 (surrogate_pair_char high low)

-- the text that a code unit adds, after a high surrogate that waits or after none
abbrev pub unit_text : Option ℕ → ℕ → List ℕ
unit_text waiting u =
    if is_low_surrogate u then low_text waiting u
    else (if is_high_surrogate u then unpaired waiting else unpaired waiting ++ encode_utf8 u)

-- a high surrogate waits for what comes directly after it
abbrev pub waits : ℕ → Option ℕ
waits u = if is_high_surrogate u then Some u else None

-- the text that the pieces represent, after a high surrogate that waits or after none
abbrev pub decoded : Option ℕ → List Piece → List ℕ
decoded waiting [] = unpaired waiting
decoded waiting (run bytes ∷ ps) = unpaired waiting ++ (bytes ++ decoded None ps)
decoded waiting (short b ∷ ps) = unit_text waiting (short_value b) ++ decoded (waits (short_value b)) ps
decoded waiting (unit a b c d ∷ ps) =
    unit_text waiting (unit_value a b c d) ++ decoded (waits (unit_value a b c d)) ps

-- the bytes are a string of that text: its pieces between quotation marks
pub record IsString (t bytes : List ℕ) : Type 0 where
  pub pieces : List Piece
  pub each : AllByRecursion IsPiece pieces
  pub spelled : bytes ≡ 34 ∷ (flat_map piece_bytes pieces ++ 34 ∷ [])
  pub means : t ≡ decoded None pieces

abbrev mutual
  -- the bytes are that value (section 3), members of an object with one name as they are
  pub IsValue : Tree → List ℕ → Type 0
  IsValue null bytes = bytes ≡ codes "null"
  IsValue (boolean b) bytes = bytes ≡ (if b then codes "true" else codes "false")
  IsValue (number n) bytes = IsTrue (is_number n) × (bytes ≡ n)
  IsValue (text t) bytes = IsString t bytes
  IsValue (list ts) bytes = (inside : List ℕ) × (bytes ≡ 91 ∷ (inside ++ 93 ∷ [])) × AreItems ts inside
  IsValue (object ms) bytes = (inside : List ℕ) × (bytes ≡ 123 ∷ (inside ++ 125 ∷ [])) × AreMembers ms inside

  -- what is between a list's brackets (section 5)
  pub AreItems : Items → List ℕ → Type 0
  AreItems no_items bytes = IsSpace bytes
  AreItems (item t ts) bytes =
      (first more : List ℕ) × (bytes ≡ first ++ more) × IsPadded (IsValue t) first × AreMoreItems ts more

  -- each further item after its comma
  pub AreMoreItems : Items → List ℕ → Type 0
  AreMoreItems no_items bytes = bytes ≡ []
  AreMoreItems (item t ts) bytes =
      (first more : List ℕ) × (bytes ≡ 44 ∷ (first ++ more)) × IsPadded (IsValue t) first × AreMoreItems ts more

  -- what is between an object's braces (section 4): names, colons and values
  pub AreMembers : Members → List ℕ → Type 0
  AreMembers no_members bytes = IsSpace bytes
  AreMembers (member n t ms) bytes =
      (name value more : List ℕ) × (bytes ≡ name ++ 58 ∷ (value ++ more)) × IsPadded (IsString n) name × IsPadded (IsValue t) value × AreMoreMembers ms more

  -- each further member after its comma
  pub AreMoreMembers : Members → List ℕ → Type 0
  AreMoreMembers no_members bytes = bytes ≡ []
  AreMoreMembers (member n t ms) bytes =
      (name value more : List ℕ) × (bytes ≡ 44 ∷ (name ++ 58 ∷ (value ++ more))) × IsPadded (IsString n) name × IsPadded (IsValue t) value × AreMoreMembers ms more

-- whether one of the members has the name
abbrev pub has_name : List ℕ → Members → Bool
has_name name no_members = false
has_name name (member n t ms) = bytes_eq n name || has_name name ms

-- of members with one name the last, in its own place
abbrev pub last_of_each : Members → Members
last_of_each no_members = no_members
last_of_each (member n t ms) = if has_name n ms then last_of_each ms else member n t (last_of_each ms)

abbrev mutual
  -- the tree with the last of repeated names alone, in each object
  pub resolved : Tree → Tree
  resolved null = null
  resolved (boolean b) = boolean b
  resolved (number n) = number n
  resolved (text t) = text t
  resolved (list ts) = list (resolved_items ts)
  resolved (object ms) = object (last_of_each (resolved_members ms))

  -- the items of a list, each resolved
  pub resolved_items : Items → Items
  resolved_items no_items = no_items
  resolved_items (item t ts) = item (resolved t) (resolved_items ts)

  -- the members of an object, each value resolved
  pub resolved_members : Members → Members
  resolved_members no_members = no_members
  resolved_members (member n t ms) = member n (resolved t) (resolved_members ms)

-- the bytes are a JSON text (section 2) of that tree, with at most so many lists and objects one within the other
pub record IsJsonTo (limit : ℕ) (bytes : List ℕ) (tree : Tree) : Type 0 where
  pub written : Tree
  pub value : IsPadded (IsValue written) bytes
  pub shallow : levels written ≤ limit
  pub means : tree ≡ resolved written

-- the bytes are a JSON text of that tree, nested at most 64 levels deep
abbrev pub IsJson : List ℕ → Tree → Type 0
IsJson bytes tree = IsJsonTo 64 bytes tree
