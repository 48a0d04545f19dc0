-- What a request's target names (RFC 9112, section 3.2), with the authority passed over. Pairs of a query are those of
-- a form (the URL Standard, section 5).
use Rattle.std.specs.Prelude.{◌==◌, ◌||◌, ℕ, List, length, take, drop, codes, Bool, Option, Some, None, cond, option_map, if◌then◌else◌}
use Rattle.std.specs.List.{position_or_len, before_first, after_first, find}
use Rattle.std.specs.Str.{bytes_eq, str_eq_ignore_ascii_case}
use Rattle.std.specs.Str.Lossy.{utf8_lossy}
use Rattle.form_urlencoded.specs.Form.{raw_pairs, decode}

-- the byte `?`, before which a path ends
abbrev pub is_question_mark : ℕ → Bool
is_question_mark b = b == 63

-- a slash or a question mark ends an authority
abbrev pub is_end : ℕ → Bool
is_end b = b == 47 || b == 63

-- the target without `http://`, in letters of either case, and what comes up to the next slash or question mark
abbrev pub rest_of : List ℕ → List ℕ
rest_of target =
    if str_eq_ignore_ascii_case (take 7 target) (codes "http://")
    then drop (position_or_len is_end (drop 7 target)) (drop 7 target)
    else target

-- up to the first question mark, and a slash where that is empty
abbrev pub path_of : List ℕ → List ℕ
path_of target = if length (before_first is_question_mark (rest_of target)) == 0 then codes "/" else before_first is_question_mark (rest_of target)

-- what comes after the first question mark
abbrev pub query_of : List ℕ → List ℕ
query_of target = after_first is_question_mark (rest_of target)

-- a name or a value of a query as text
abbrev pub decoded : List ℕ → List ℕ
decoded bytes = utf8_lossy (decode bytes)

-- the pair's name, decoded, is this one
abbrev pub has_name : List ℕ → List ℕ × List ℕ → Bool
has_name name pair = bytes_eq (decoded pair.0) name

-- what was found first: the earlier one, and else the new one, where it is named so
abbrev pub first_of : {A : Type 0} → Option A → Bool → A → Option A
first_of (Some earlier) is_named value = Some earlier
first_of None is_named value = cond is_named (Some value) None

-- the value of the first pair with this name, which isn't decoded
abbrev pub raw_value_of : List ℕ → List ℕ → Option (List ℕ)
raw_value_of name query = option_map (λ (p : List ℕ × List ℕ). p.1) (find (has_name name) (raw_pairs query))

-- the value of the first pair with this name, decoded and as text
-- Example: of `a=1&b=x%20y&b=z` the value of `b` is `x y`.
abbrev pub value_of : List ℕ → List ℕ → Option (List ℕ)
value_of name query = option_map (λ (p : List ℕ × List ℕ). decoded p.1) (find (has_name name) (raw_pairs query))
