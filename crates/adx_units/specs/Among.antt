-- A name among others.
use Rattle.std.specs.Prelude.{ℕ, List, Bool}
use Rattle.std.specs.List.{list_any}
use Rattle.std.specs.Str.{bytes_eq}

-- one of the names is this one
abbrev pub is_among : List (List ℕ) → List ℕ → Bool
is_among names name = list_any (λ n. bytes_eq n name) names
