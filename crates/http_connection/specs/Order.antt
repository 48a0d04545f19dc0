-- How offsets cut a list of bytes; private clauses alone cite this file.
use Rattle.std.specs.Prelude.{◌≤◌, ℕ, List, length, take, drop}
use Rattle.http_connection.specs.declared.offsets.Offsets.{Offsets}

-- the offsets are in their order within the bytes
pub record IsOrdered (bytes : List ℕ) (o : Offsets) : Type 0 where
  pub start : o.start ≤ o.joined
  pub joined : o.joined ≤ o.at
  pub at : o.at ≤ o.end
  pub end : o.end ≤ length bytes

abbrev pub kept_of : List ℕ → Offsets → List ℕ
kept_of bytes o = drop o.start (take o.joined bytes)

abbrev pub pending_of : List ℕ → Offsets → List ℕ
pending_of bytes o = drop o.at (take o.end bytes)
