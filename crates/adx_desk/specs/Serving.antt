-- What a call of a desk leaves, by the entries that it adds. This project's own.
use Rattle.std.specs.Prelude.{◌≡◌, ◌⊎◌, ℕ, ◌<◌, List, ◌++◌, length, Option, Result, OnOk, OnErr, IfSome}
use Rattle.day_journal.specs.Disks.{LeavesOnly}
use Rattle.day_rules.specs.declared.entry.Entry.{Entry}
use Rattle.day_rules.specs.Replies.{with_entry}
use Rattle.adx_desk.specs.declared.fault.DeskFault.{DeskFault}
use Rattle.adx_desk.specs.Desks.{DeskKeeps, OnDisk}
use Rattle.day_machine.specs.Batches.{added_by}
use Rattle.adx_desk.specs.Histories.{WithAtMostOne}

-- A call whose reply has that entry, if any. The tail is whatever record was in doubt before it.
pub record Serves {D T : Type 0} (may_leave : D → List ℕ → Type 0) (moment : D → ℕ)
    (left_since : D → ℕ → List ℕ → Type 0) (old new : OnDisk D) (entry : Option Entry)
    (result : Result T DeskFault) : Type 0 where
  -- what the desk was opened with stays
  pub terms : new.desk.terms ≡ old.desk.terms
  pub since : new.since ≡ old.since
  -- a call that was done adds its entry, and a fault none
  pub history : OnOk result (new.desk.history ≡ with_entry old.desk.history entry)
  pub same : OnErr result (new.desk.history ≡ old.desk.history)
  -- a crash at any moment of the call leaves the history, or it and one record: the tail, or the call's
  pub any_moment : (tail : List Entry) → DeskKeeps (may_leave old.disk) old.desk tail
      → LeavesOnly moment left_since old.disk new.disk (WithAtMostOne old.desk.terms old.desk.history tail (added_by entry))
  -- after a call that was done the same tail may be in doubt; where an entry was added, none is, and each image has it
  pub done : OnOk result ((tail : List Entry) → DeskKeeps (may_leave old.disk) old.desk tail → DeskKeeps (may_leave new.disk) new.desk tail)
  pub acknowledged : OnOk result
      (IfSome entry (λ e. (tail any : List Entry) → DeskKeeps (may_leave old.disk) old.desk tail
      → DeskKeeps (may_leave new.disk) new.desk any))
  -- after a fault the tail may be in doubt still, or the call's record is in its place
  pub doubted : OnErr result ((tail : List Entry) → DeskKeeps (may_leave old.disk) old.desk tail
      → DeskKeeps (may_leave new.disk) new.desk tail ⊎ DeskKeeps (may_leave new.disk) new.desk (added_by entry))

-- A call that adds these entries, in one record where there are any. The tail is whatever record was in doubt before it.
pub record ServesAll {D T : Type 0} (may_leave : D → List ℕ → Type 0) (moment : D → ℕ)
    (left_since : D → ℕ → List ℕ → Type 0) (old new : OnDisk D) (entries : List Entry)
    (result : Result T DeskFault) : Type 0 where
  -- what the desk was opened with stays
  pub terms : new.desk.terms ≡ old.desk.terms
  pub since : new.since ≡ old.since
  -- a call that was done adds all of its entries, and a fault none
  pub history : OnOk result (new.desk.history ≡ old.desk.history ++ entries)
  pub same : OnErr result (new.desk.history ≡ old.desk.history)
  -- a crash at any moment of the call leaves the history, or it and one record: the tail, or the call's with all entries
  pub any_moment : (tail : List Entry) → DeskKeeps (may_leave old.disk) old.desk tail
      → LeavesOnly moment left_since old.disk new.disk (WithAtMostOne old.desk.terms old.desk.history tail entries)
  -- after a call that was done the same tail may be in doubt; where entries were added, none is, and each image has them
  pub done : OnOk result ((tail : List Entry) → DeskKeeps (may_leave old.disk) old.desk tail → DeskKeeps (may_leave new.disk) new.desk tail)
  pub acknowledged : OnOk result
      (0 < length entries → (tail any : List Entry) → DeskKeeps (may_leave old.disk) old.desk tail
      → DeskKeeps (may_leave new.disk) new.desk any)
  -- after a fault the tail may be in doubt still, or the call's record is in its place
  pub doubted : OnErr result ((tail : List Entry) → DeskKeeps (may_leave old.disk) old.desk tail
      → DeskKeeps (may_leave new.disk) new.desk tail ⊎ DeskKeeps (may_leave new.disk) new.desk entries)
