-- An outbox that has followed a history. This project's own.
use Rattle.std.specs.Prelude.{◌≡◌, ℕ, ◌≤◌, List, ◌++◌, length, take, Option, Result, OnOk}
use Rattle.std.specs.Ordering.{nat_cmp}
use Rattle.std.specs.BTreeMap.{is_at}
use Rattle.std.specs.Map.{lookup}
use Rattle.adx_units.specs.declared.memory.OutOfMemory.{OutOfMemory}
use Rattle.day_rules.specs.declared.entry.Entry.{Entry}
use Rattle.outbox.specs.declared.post.Post.{Post}
use Rattle.outbox.specs.declared.row.Row.{Row}
use Rattle.outbox.specs.Posts.{posts_behind}
use Rattle.outbox.specs.Rows.{deadline_at, row_at}

-- what an outbox keeps of awards, by their numbers in order: rows, and the deadlines of those that are open
pub record RowsState : Type 0 where
  pub rows : List (ℕ × Row)
  pub deadlines : List (ℕ × ℕ)

-- what is kept of an award, and its deadline where it is kept and open
abbrev pub row_in : RowsState → ℕ → Option Row
row_in kept n = lookup (is_at (nat_cmp n)) kept.rows

-- its deadline, if it is open
abbrev pub deadline_in : RowsState → ℕ → Option ℕ
deadline_in kept n = lookup (is_at (nat_cmp n)) kept.deadlines

-- an outbox: how many entries it followed, what it keeps of awards by their numbers, the posts that are pending, and how
-- many posts it gave up since it was made, because they can't be sent
pub record OutboxState : Type 0 where
  pub followed : ℕ
  pub kept : RowsState
  pub pending : List Post
  pub undeliverable : ℕ

-- just what is to be kept of the awards of a history is kept
pub record AreRowsOf (history : List Entry) (kept : RowsState) : Type 0 where
  pub rows : (n : ℕ) → row_in kept n ≡ row_at history n
  pub deadlines : (n : ℕ) → deadline_in kept n ≡ deadline_at history n

-- the outbox has followed a history: it counts the entries, and keeps just what posts to come need
pub record HasFollowed (history : List Entry) (o : OutboxState) : Type 0 where
  pub count : o.followed ≡ length history
  pub rows : AreRowsOf history o.kept

-- So many of the entries were followed, all of them unless memory was wanting; their posts are the last that are pending.
pub record Follows (history entries : List Entry) (result : Result Unit OutOfMemory) (old new : OutboxState) : Type 0 where
  pub done : ℕ
  pub few : done ≤ length entries
  pub all : OnOk result (done ≡ length entries)
  pub followed : HasFollowed (history ++ take done entries) new
  pub posts : new.pending ≡ old.pending ++ posts_behind history (take done entries)
  pub given_up : new.undeliverable ≡ old.undeliverable
