-- The forms of a price line's members. A member that is null is there, and isn't of its form. This project's own.
use Rattle.std.specs.Prelude.{ℕ, List, Bool, ◌||◌, ◌==◌, not}
use Rattle.std.specs.List.{list_any}

-- the mark of a query and that of a fragment (RFC 3986, sections 3.4 and 3.5)
abbrev pub is_url_mark : ℕ → Bool
is_url_mark b = b == 63 || b == 35

-- a text without a query or a fragment
abbrev pub is_plain_base : List ℕ → Bool
is_plain_base t = not (list_any is_url_mark t)
