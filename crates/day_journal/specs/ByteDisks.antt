-- A disk in memory that is its bytes, and what it held before. This project's own.
use Rattle.std.specs.Prelude.{◌≡◌, ℕ, ◌≤◌, List, length, get_or}

-- what it held before each write, the earliest first, what it holds, and how often it failed
pub record ByteDiskState : Type 0 where
  pub past : List (List ℕ)
  pub bytes : List ℕ
  pub faults : ℕ

-- what it held behind its first k writes
abbrev pub held_behind : ℕ → ByteDiskState → List ℕ
held_behind k d = get_or d.past k d.bytes

-- what a crash behind some number of the writes, from t on, might have left: what it held then
abbrev pub HeldSince : ByteDiskState → ℕ → List ℕ → Type 0
HeldSince d t c = (k : ℕ) × (t ≤ k) × (k ≤ length d.past) × (c ≡ held_behind k d)
