-- What a day that was opened leaves on its disk.
use Rattle.std.proofs.Common.{◌≡◌, ⊎_elim, ℕ, List, [], subst, append-nil}
use Rattle.day_journal.specs.Disks.{LeavesOnly}
use Rattle.day_journal.specs.declared.disk.Disk as disk
use Rattle.adx_desk.specs.Desks.{OnDisk}
use Rattle.adx_desk.specs.Histories.{DeskTerms, IsHistoryOf}
use Rattle.adx_desk.specs.Opened.{Opens}
use Rattle.adx_desk.specs.Openings.{StandsAsRead}
use Rattle.adx_desk.specs.Rosters.{desk_terms}
use Rattle.adx_desk.proofs.Keeping.{keeps_histories}
use Rattle.day_rules.specs.Legal.{IsLegal}
use Rattle.deal_floor.specs.declared.roster.Roster.{Roster}
use Rattle.history_runs.specs.Histories.{KeepsHistory}

-- each loan is one of a disk
module _ {D E : Type 0} (d : disk.Ghosts D) (disk_of : E → D) where
  leaves_lent : (old new : E) (P : List ℕ → Type 0) → LeavesOnly (λ e. d.moment (disk_of e)) (λ e. d.left_since (disk_of e)) old new P → LeavesOnly d.moment d.left_since (disk_of old) (disk_of new) P
  leaves_lent old new P run = record { later = run.later; each = run.each; before = run.before }

  stands_as : (roster : Roster) (old : E) (desk : OnDisk E)
      → Opens (λ e. d.reads (disk_of e)) (λ e. d.may_leave (disk_of e)) (λ e. d.moment (disk_of e)) (λ e. d.left_since (disk_of e)) (desk_terms roster) old desk.disk desk.desk
      → IsLegal desk.desk.terms.day desk.desk.history → d.faults (disk_of desk.disk) ≡ d.faults (disk_of old)
      → KeepsHistory d roster desk.desk.history (disk_of old) (disk_of desk.disk)
  stands_as roster old desk opens legal counted = record {
    legal = subst (λ (terms : DeskTerms). IsLegal terms.day desk.desk.history) opens.same_terms legal;
    counted = counted;
    begins = opens.history;
    keeps = λ file is image left.
        subst (λ (terms : DeskTerms). IsHistoryOf terms image desk.desk.history) opens.same_terms
        (⊎_elim (λ alone. alone) (λ with_tail. subst (IsHistoryOf desk.desk.terms image) (append-nil desk.desk.history) with_tail)
        (keeps_histories (d.may_leave (disk_of desk.disk)) desk.desk [] (opens.keeps file is []) image left));
    any_moment = λ file is. leaves_lent old desk.disk (StandsAsRead (desk_terms roster) (d.may_leave (disk_of old)) (d.reads (disk_of old))) (opens.any_moment file is);
  }

  -- a lent disk stands for the history of the desk that was opened on it
  pub stands_lent : (roster : Roster) (old : E) (desk : OnDisk E) (before now : D) → disk_of old ≡ before → disk_of desk.disk ≡ now
      → Opens (λ e. d.reads (disk_of e)) (λ e. d.may_leave (disk_of e)) (λ e. d.moment (disk_of e)) (λ e. d.left_since (disk_of e)) (desk_terms roster) old desk.disk desk.desk
      → IsLegal desk.desk.terms.day desk.desk.history → d.faults (disk_of desk.disk) ≡ d.faults (disk_of old)
      → KeepsHistory d roster desk.desk.history before now
  stands_lent roster old desk before now first last opens legal counted =
      subst (λ (x : D). KeepsHistory d roster desk.desk.history before x) last
      (subst (λ (x : D). KeepsHistory d roster desk.desk.history x (disk_of desk.disk)) first (stands_as roster old desk opens legal counted))
