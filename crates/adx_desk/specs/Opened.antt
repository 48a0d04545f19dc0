-- What opening a desk leaves, where it is done and where it gives up. This project's own.
use Rattle.std.specs.Prelude.{◌≡◌, ℕ, List, Option, Some}
use Rattle.day_journal.specs.Disks.{LeavesOnly}
use Rattle.day_rules.specs.declared.entry.Entry.{Entry}
use Rattle.adx_desk.specs.declared.fault.DeskFault.{DeskFault}
use Rattle.adx_desk.specs.Desks.{DeskKeeps, DeskState}
use Rattle.adx_desk.specs.Histories.{DeskTerms, IsHistoryOf}
use Rattle.adx_desk.specs.Openings.{IsRefusal, RefusesDesk, StandsAsRead}

-- A desk that was opened. Where the disk reports what it reads:
pub record Opens {D : Type 0} (reads : D → Option (List ℕ)) (may_leave : D → List ℕ → Type 0) (moment : D → ℕ)
    (left_since : D → ℕ → List ℕ → Type 0) (terms : DeskTerms) (old new : D) (desk : DeskState) : Type 0 where
  pub same_terms : desk.terms ≡ terms
  pub no_fault : desk.faults ≡ 0
  -- its history is the one that the file represented,
  pub history : (file : List ℕ) → reads old ≡ Some file → IsHistoryOf terms file desk.history
  -- which every image represents now, with no record in doubt,
  pub keeps : (file : List ℕ) → reads old ≡ Some file → (tail : List Entry) → DeskKeeps (may_leave new) desk tail
  -- and a crash at any moment of the call leaves what a crash before it might have left, the file that was read, or one that
  -- represents the history that it represented.
  pub any_moment : (file : List ℕ) → reads old ≡ Some file → LeavesOnly moment left_since old new (StandsAsRead terms (may_leave old) (reads old))

-- An opening that gave up. Where the disk reports what it reads:
pub record GivesUp {D : Type 0} (reads : D → Option (List ℕ)) (may_leave : D → List ℕ → Type 0) (moment : D → ℕ)
    (left_since : D → ℕ → List ℕ → Type 0) (terms : DeskTerms) (old new : D) (why : DeskFault) : Type 0 where
  -- a refusal says what the file has in place of a history,
  pub refused : (file : List ℕ) → reads old ≡ Some file → RefusesDesk terms file why
  -- and leaves the file as it reads;
  pub untouched : (file : List ℕ) → reads old ≡ Some file → IsRefusal why → reads new ≡ Some file
  -- a crash at any moment of the call leaves what a crash before it might have left, the file that was read, or one that
  -- represents the history that it represented.
  pub any_moment : (file : List ℕ) → reads old ≡ Some file → LeavesOnly moment left_since old new (StandsAsRead terms (may_leave old) (reads old))
