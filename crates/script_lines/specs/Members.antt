-- What the members of a script line say. Such a line is an object (RFC 8259) of one of four kinds; a member that is
-- null is there and isn't of its form; further members are ignored. This project's own.
-- Example: `{"tick":60}`, also with blanks or further members, is a tick at 60; `{"tick":"60"}` is none, and is
-- refused with `call`.
use Rattle.std.specs.Prelude.{ℕ, List, [], length, Bool, true, false, nat_le, ◌&&◌, ◌==◌, if◌then◌else◌, codes, Option, Some, None}
use Rattle.std.specs.List.{list_all}
use Rattle.std.specs.Str.{bytes_eq}
use Rattle.adx_json.specs.Tree.{Tree, null, boolean, number, text, list, object}
use Rattle.adx_json.specs.Values.{list_items, text_in, number_in, whole_by}
use Rattle.notice_book.specs.declared.kind.NoticeKind.{NoticeKind}
use Rattle.script_lines.specs.declared.limits.TheConstants.{LATEST_MOMENT, LAST_AWARD, LAST_CHANGE}

-- null, or an object
abbrev pub is_null_or_object : Tree → Bool
is_null_or_object null = true
is_null_or_object (boolean b) = false
is_null_or_object (number n) = false
is_null_or_object (text t) = false
is_null_or_object (list ts) = false
is_null_or_object (object ms) = true

-- at most one answer for each of so many bidders
abbrev pub answers_by : ℕ → List Tree → Option (List Tree)
answers_by bidders ts = if nat_le (length ts) bidders && list_all is_null_or_object ts then Some ts else None

-- the answers of so many bidders that a line gives; an absent list is empty
abbrev pub answers_in : ℕ → Option Tree → Option (List Tree)
answers_in bidders None = Some []
answers_in bidders (Some null) = None
answers_in bidders (Some (boolean b)) = None
answers_in bidders (Some (number n)) = None
answers_in bidders (Some (text t)) = None
answers_in bidders (Some (list ts)) = answers_by bidders (list_items ts)
answers_in bidders (Some (object ms)) = None

-- a moment: a whole number of at most fifteen digits
abbrev pub moment_in : Option Tree → Option ℕ
moment_in v = whole_by LATEST_MOMENT (number_in v)

-- the moment of an ask; where none is given it is 0
abbrev pub ask_moment : Option Tree → Option ℕ
ask_moment None = Some 0
ask_moment (Some t) = moment_in (Some t)

-- the kind of notice that a word names
abbrev pub kind_named : List ℕ → Option NoticeKind
kind_named word =
    if bytes_eq word (codes "win") then Some NoticeKind.Win
    else (if bytes_eq word (codes "bill") then Some NoticeKind.Bill
    else (if bytes_eq word (codes "loss") then Some NoticeKind.Loss else None))

-- the kind that a word names
abbrev pub kind_by : Option (List ℕ) → Option NoticeKind
kind_by None = None
kind_by (Some word) = kind_named word

-- the kind that a member names
abbrev pub kind_in : Tree → Option NoticeKind
kind_in t = kind_by (text_in (Some t))

-- the number of an award, below 2^32
abbrev pub award_in : Option Tree → Option ℕ
award_in v = whole_by LAST_AWARD (number_in v)

-- a number that isn't 0
abbrev pub from_one : Option ℕ → Option ℕ
from_one None = None
from_one (Some n) = if n == 0 then None else Some n

-- the number of a change, as a text: 1 to 2^32 - 1
abbrev pub change_number : List ℕ → Option ℕ
change_number digits = from_one (whole_by LAST_CHANGE (Some digits))
