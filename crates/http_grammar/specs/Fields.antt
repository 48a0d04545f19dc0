-- What the fields of a head say (RFC 9110 and RFC 9112). Names and words are compared without case.
use Rattle.std.specs.Prelude.{◌≡◌, ◌≢◌, ◌⊎◌, ℕ, ◌+◌, ◌<◌, ◌≤◌, List, [], ◌∷◌, ◌++◌, length, map, filter, slice_index, Bool, ◌==◌, ◌||◌, IsTrue, All, EachIndex, codes}
use Rattle.std.specs.List.{list_any, list_all, slice_split}
use Rattle.std.specs.Str.{str_eq_ignore_ascii_case}
use Rattle.std.specs.Str.Parse.{digits_value}
use Rattle.std.specs.Char.{is_ascii_digit, is_ascii_hexdigit, is_ascii_alphanumeric}
use Rattle.httparse.specs.Ascii.{comma, colon}
use Rattle.httparse.specs.Grammar.{trim_ows, AllPass}
use Rattle.http_grammar.specs.declared.framing.Framing.{Framing}

-- Fields are pairs of a name and a value without the white space around it.

-- the values of the fields with this name, in their order
abbrev pub values_of : List ℕ → List (List ℕ × List ℕ) → List (List ℕ)
values_of name fields = map (λ (f : List ℕ × List ℕ). f.1) (filter (λ (f : List ℕ × List ℕ). str_eq_ignore_ascii_case f.0 name) fields)

-- the byte between the elements of a list
abbrev pub is_comma : ℕ → Bool
is_comma b = b == comma

-- whether the element, without the white space around it, is the word
abbrev pub is_element : List ℕ → List ℕ → Bool
is_element word element = str_eq_ignore_ascii_case (trim_ows element) word

-- whether some element of the list, whose elements commas part, is the word, and whether each one is
abbrev pub names_word : List ℕ → List ℕ → Bool
names_word word value = list_any (is_element word) (slice_split is_comma value)

-- whether each element of the list, whose elements commas part, is the word
-- Example: `identity, Identity` names only `identity`.
abbrev pub names_only : List ℕ → List ℕ → Bool
names_only word value = list_all (is_element word) (slice_split is_comma value)

-- the values of the fields Host
abbrev pub hosts : List (List ℕ × List ℕ) → List (List ℕ)
hosts fields = values_of (codes "host") fields

-- the values of the fields Content-Length
abbrev pub lengths : List (List ℕ × List ℕ) → List (List ℕ)
lengths fields = values_of (codes "content-length") fields

-- the values of the fields Transfer-Encoding
abbrev pub transfer_codings : List (List ℕ × List ℕ) → List (List ℕ)
transfer_codings fields = values_of (codes "transfer-encoding") fields

-- whether the other side closes the connection after this message
abbrev pub says_close : List (List ℕ × List ℕ) → Bool
says_close fields = list_any (names_word (codes "close")) (values_of (codes "connection") fields)

-- whether no content coding but `identity` is in the head
abbrev pub is_plain : List (List ℕ × List ℕ) → Bool
is_plain fields = list_all (names_only (codes "identity")) (values_of (codes "content-encoding") fields)

-- one or more digits that mean the number
abbrev pub IsLength : ℕ → List ℕ → Type 0
IsLength n value = (0 < length value) × AllPass is_ascii_digit value × (digits_value 10 value ≡ n)

-- each length is one or more digits, and all mean one number
abbrev pub HasLength : List (List ℕ × List ℕ) → ℕ → Type 0
HasLength fields n = (lengths fields ≢ []) × All (IsLength n) (lengths fields)

-- one transfer coding, and that is `chunked`
abbrev pub IsChunked : List (List ℕ × List ℕ) → Type 0
IsChunked fields = (word : List ℕ) × (transfer_codings fields ≡ word ∷ []) × IsTrue (str_eq_ignore_ascii_case word (codes "chunked"))

-- how the fields of a message frame its body: not at all, by chunks, or by a length, and never by two of these
abbrev pub Frames : List (List ℕ × List ℕ) → Framing → Type 0
Frames fields Framing.Unframed = (lengths fields ≡ []) × (transfer_codings fields ≡ [])
Frames fields Framing.Chunked = (lengths fields ≡ []) × IsChunked fields
Frames fields (Framing.Sized n) = HasLength fields n × (transfer_codings fields ≡ [])

-- a character of a host's name: a letter, a digit or a mark
abbrev pub is_mark : ℕ → Bool
is_mark b = is_ascii_alphanumeric b || list_any (λ m. m == b) (codes "-._~!$&'()*+,;=")

-- the byte `%`
abbrev pub percent : ℕ
percent = 37

-- there is a mark at this place, or a percent sign that two hexadecimal digits follow
abbrev pub IsHostByte : List ℕ → ℕ → Type 0
IsHostByte host k =
    IsTrue (is_mark (slice_index host k))
    ⊎ ((slice_index host k ≡ percent) × (k + 2 < length host)
    × IsTrue (is_ascii_hexdigit (slice_index host (k + 1))) × IsTrue (is_ascii_hexdigit (slice_index host (k + 2))))

-- the byte `[`
abbrev pub left_bracket : ℕ
left_bracket = 91

-- the byte `]`
abbrev pub right_bracket : ℕ
right_bracket = 93

-- only bytes of a host's name
abbrev pub IsHostName : List ℕ → Type 0
IsHostName host = EachIndex host (IsHostByte host)

-- one or more of the same characters and colons
abbrev pub IsAddress : List ℕ → Type 0
IsAddress inner = (0 < length inner) × EachIndex inner (λ k. IsHostByte inner k ⊎ (slice_index inner k ≡ colon))

-- a name, which may be empty, or an address in square brackets
abbrev pub IsHost : List ℕ → Type 0
IsHost host = IsHostName host ⊎ ((inner : List ℕ) × IsAddress inner × (host ≡ left_bracket ∷ inner ++ right_bracket ∷ []))

-- nothing, or a colon and any number of digits
abbrev pub IsPort : List ℕ → Type 0
IsPort port = (port ≡ []) ⊎ ((digits : List ℕ) × AllPass is_ascii_digit digits × (port ≡ colon ∷ digits))

-- the value of a field Host: a host, and perhaps a port
-- Example: `ads.example.com:8080`, `[::1]:80` and the empty text are such values.
abbrev pub IsHostValue : List ℕ → Type 0
IsHostValue value = (host port : List ℕ) × IsHost host × IsPort port × (value ≡ host ++ port)

-- a request of HTTP/1.1 names its host, and none names two
pub record HasHost (minor : ℕ) (fields : List (List ℕ × List ℕ)) : Type 0 where
  pub named : minor ≡ 1 → hosts fields ≢ []
  pub one : length (hosts fields) ≤ 1
  pub valid : All IsHostValue (hosts fields)
