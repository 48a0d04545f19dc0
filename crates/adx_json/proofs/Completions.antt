-- The bytes that complete a text from each place in it.
use Rattle.std.proofs.Common.{◌≡◌, ℕ, suc, ◌-◌, ◌≤◌, List, [], ◌∷◌, ◌++◌, length, Bool, true, Some, None}
use Rattle.std.specs.List.{list_all, flat_map, AllByRecursion}
use Rattle.adx_json.specs.Tree.{Tree, Items, Members, levels, items_levels, members_levels}
use Rattle.adx_units.specs.JsonTexts.{is_bare}
use Rattle.adx_json.specs.Grammar.{IsSpace, IsPadded, IsString, IsValue, AreItems, AreMoreItems, AreMembers, AreMoreMembers, Piece, IsPiece, piece_bytes, is_hex}
use Rattle.adx_json.specs.Machine.{Frame, in_list, in_object, Within, characters, escaped, digits, Role, a_name, a_value, Mode, at_value, at_first_item, behind_value, at_first_name, at_name, behind_name, in_word, in_number, in_text}
use Rattle.adx_json.specs.declared.utf8.Tail.{Tail}
use Rattle.adx_json.proofs.Utf8Steps.{utf8_run}
use Rattle.adx_json.specs.Scan.{accepts}

-- further items, the closing bracket, and what comes after it
pub record MoreItemsThen (limit depth : ℕ) (After : List ℕ → Type 0) (bytes : List ℕ) : Type 0 where
  pub later : Items
  pub space : List ℕ
  pub items : List ℕ
  pub behind : List ℕ
  pub whole : bytes ≡ space ++ (items ++ 93 ∷ behind)
  pub spaced : IsSpace space
  pub are : AreMoreItems later items
  pub shallow : items_levels later ≤ limit - suc depth
  pub after : After behind

pub record MoreMembersThen (limit depth : ℕ) (After : List ℕ → Type 0) (bytes : List ℕ) : Type 0 where
  pub later : Members
  pub space : List ℕ
  pub members : List ℕ
  pub behind : List ℕ
  pub whole : bytes ≡ space ++ (members ++ 125 ∷ behind)
  pub spaced : IsSpace space
  pub are : AreMoreMembers later members
  pub shallow : members_levels later ≤ limit - suc depth
  pub after : After behind

-- what comes after a value, by the lists and objects around it
abbrev pub Behind : ℕ → List Frame → List ℕ → Type 0
Behind limit [] bytes = IsSpace bytes
Behind limit (in_list ∷ fs) bytes = MoreItemsThen limit (length fs) (Behind limit fs) bytes
Behind limit (in_object ∷ fs) bytes = MoreMembersThen limit (length fs) (Behind limit fs) bytes

-- a value, and what comes after it
pub record ValueThen (limit depth : ℕ) (After : List ℕ → Type 0) (bytes : List ℕ) : Type 0 where
  pub tree : Tree
  pub space : List ℕ
  pub value : List ℕ
  pub behind : List ℕ
  pub whole : bytes ≡ space ++ (value ++ behind)
  pub spaced : IsSpace space
  pub is : IsValue tree value
  pub shallow : levels tree ≤ limit - depth
  pub after : After behind

-- a list's inside, its closing bracket, and what comes after
pub record ItemsThen (limit depth : ℕ) (After : List ℕ → Type 0) (bytes : List ℕ) : Type 0 where
  pub list : Items
  pub items : List ℕ
  pub behind : List ℕ
  pub whole : bytes ≡ items ++ 93 ∷ behind
  pub are : AreItems list items
  pub shallow : items_levels list ≤ limit - suc depth
  pub after : After behind

pub record MembersThen (limit depth : ℕ) (After : List ℕ → Type 0) (bytes : List ℕ) : Type 0 where
  pub object : Members
  pub members : List ℕ
  pub behind : List ℕ
  pub whole : bytes ≡ members ++ 125 ∷ behind
  pub are : AreMembers object members
  pub shallow : members_levels object ≤ limit - suc depth
  pub after : After behind

-- a colon, a value, further members, the closing brace, and what comes after
pub record ColonThen (limit depth : ℕ) (After : List ℕ → Type 0) (bytes : List ℕ) : Type 0 where
  pub tree : Tree
  pub later : Members
  pub space : List ℕ
  pub value : List ℕ
  pub members : List ℕ
  pub behind : List ℕ
  pub whole : bytes ≡ space ++ 58 ∷ (value ++ (members ++ 125 ∷ behind))
  pub spaced : IsSpace space
  pub is : IsPadded (IsValue tree) value
  pub are : AreMoreMembers later members
  pub shallow_value : levels tree ≤ limit - suc depth
  pub shallow : members_levels later ≤ limit - suc depth
  pub after : After behind

-- a member's name, and what comes after it
pub record NameThen (limit depth : ℕ) (After : List ℕ → Type 0) (bytes : List ℕ) : Type 0 where
  pub text : List ℕ
  pub space : List ℕ
  pub name : List ℕ
  pub behind : List ℕ
  pub whole : bytes ≡ space ++ (name ++ behind)
  pub spaced : IsSpace space
  pub is : IsString text name
  pub colon : ColonThen limit depth After behind

-- a word's rest, and what comes after it
pub record WordThen (word : List ℕ) (After : List ℕ → Type 0) (bytes : List ℕ) : Type 0 where
  pub behind : List ℕ
  pub whole : bytes ≡ word ++ behind
  pub after : After behind

-- the pieces of a string and its closing quotation mark, and what comes after
pub record PiecesThen (After : List ℕ → Type 0) (bytes : List ℕ) : Type 0 where
  pub pieces : List Piece
  pub behind : List ℕ
  pub whole : bytes ≡ flat_map piece_bytes pieces ++ 34 ∷ behind
  pub each : AllByRecursion IsPiece pieces
  pub after : After behind

-- the rest of a number, and what comes after it
pub record NumberThen (accept : List ℕ → Bool) (After : List ℕ → Type 0) (bytes : List ℕ) : Type 0 where
  pub number : List ℕ
  pub behind : List ℕ
  pub whole : bytes ≡ number ++ behind
  pub is : accept number ≡ true
  pub after : After behind

-- within a string: the rest of a character, of an escape, of the four digits
pub record CharacterThen (t : Tail) (Pieces : List ℕ → Type 0) (bytes : List ℕ) : Type 0 where
  pub rest : List ℕ
  pub behind : List ℕ
  pub whole : bytes ≡ rest ++ behind
  pub utf8 : utf8_run (Some t) rest ≡ Some None
  pub bare : list_all is_bare rest ≡ true
  pub pieces : Pieces behind

pub record EscapeThen (Pieces : List ℕ → Type 0) (bytes : List ℕ) : Type 0 where
  pub piece : Piece
  pub rest : List ℕ
  pub behind : List ℕ
  pub whole : bytes ≡ rest ++ behind
  pub spelled : piece_bytes piece ≡ 92 ∷ rest
  pub is : IsPiece piece
  pub pieces : Pieces behind

pub record DigitsThen (k : ℕ) (Pieces : List ℕ → Type 0) (bytes : List ℕ) : Type 0 where
  pub digits : List ℕ
  pub behind : List ℕ
  pub whole : bytes ≡ digits ++ behind
  pub many : length digits ≡ suc k
  pub hex : list_all is_hex digits ≡ true
  pub pieces : Pieces behind

abbrev pub CompletesText : Within → (List ℕ → Type 0) → List ℕ → Type 0
CompletesText (characters None) After bytes = PiecesThen After bytes
CompletesText (characters (Some t)) After bytes = CharacterThen t (PiecesThen After) bytes
CompletesText escaped After bytes = EscapeThen (PiecesThen After) bytes
CompletesText (digits k) After bytes = DigitsThen k (PiecesThen After) bytes

-- what comes after a string
abbrev pub BehindText : ℕ → Role → List Frame → List ℕ → Type 0
BehindText limit a_name fs bytes = ColonThen limit (length fs) (Behind limit fs) bytes
BehindText limit a_value fs bytes = Behind limit fs bytes

-- the bytes complete a text from that place on
abbrev pub Completes : ℕ → Mode → List Frame → List ℕ → Type 0
Completes limit at_value fs bytes = ValueThen limit (length fs) (Behind limit fs) bytes
Completes limit at_first_item fs bytes = ItemsThen limit (length fs) (Behind limit fs) bytes
Completes limit behind_value fs bytes = Behind limit fs bytes
Completes limit at_first_name fs bytes = MembersThen limit (length fs) (Behind limit fs) bytes
Completes limit at_name fs bytes = NameThen limit (length fs) (Behind limit fs) bytes
Completes limit behind_name fs bytes = ColonThen limit (length fs) (Behind limit fs) bytes
Completes limit (in_word c cs) fs bytes = WordThen (c ∷ cs) (Behind limit fs) bytes
Completes limit (in_number n) fs bytes = NumberThen (accepts n) (Behind limit fs) bytes
Completes limit (in_text role w) fs bytes = CompletesText w (BehindText limit role fs) bytes
