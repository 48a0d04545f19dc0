-- What is said of a disk that is lent is said of the disk.
use Rattle.std.proofs.Common.{◌≡◌, ℕ, List, Option, subst}
use Rattle.day_journal.specs.Disks.{LeavesOnly}
use Rattle.adx_desk.specs.Histories.{DeskTerms}
use Rattle.adx_desk.specs.Opened.{GivesUp}
use Rattle.adx_desk.specs.Openings.{HasDiskCause, StandsAsRead}
use Rattle.adx_desk.specs.Rosters.{desk_terms}
use Rattle.adx_desk.specs.declared.fault.DeskFault.{DeskFault}
use Rattle.day_rules.specs.declared.entry.Entry.{Entry}
use Rattle.deal_floor.specs.declared.roster.Roster.{Roster}
use Rattle.adx_desk.specs.Courses.{given_up}
use Rattle.adx_desk.specs.Meanings.{Told}
use Rattle.adx_desk.specs.OnDisk.{CourseOn, ServesRun, StandsWithin}

-- each loan is one of a disk
module _ {D E : Type 0} (disk_of : E → D) (faults : D → ℕ) (reads : D → Option (List ℕ)) (may_leave : D → List ℕ → Type 0) (moment : D → ℕ) (left_since : D → ℕ → List ℕ → Type 0) where
  leaves_lent : (old new : E) (P : List ℕ → Type 0) → LeavesOnly (λ e. moment (disk_of e)) (λ e. left_since (disk_of e)) old new P → LeavesOnly moment left_since (disk_of old) (disk_of new) P
  leaves_lent old new P run = record { later = run.later; each = run.each; before = run.before }

  pub run_as : (terms : DeskTerms) (start : List Entry) (told : List Told) (old new : E)
      → ServesRun (λ e. faults (disk_of e)) (λ e. reads (disk_of e)) (λ e. may_leave (disk_of e)) (λ e. moment (disk_of e)) (λ e. left_since (disk_of e)) terms start told old new
      → ServesRun faults reads may_leave moment left_since terms start told (disk_of old) (disk_of new)
  run_as terms start told old new run = record {
    begins = run.begins;
    taken = run.taken;
    books = run.books;
    counted = run.counted;
    full = run.full;
    keeps = run.keeps;
    any_moment = λ file is. leaves_lent old new (StandsWithin terms (may_leave (disk_of old)) (reads (disk_of old)) start told) (run.any_moment file is);
  }

  gives_up_as : (terms : DeskTerms) (old new : E) (why : DeskFault)
      → GivesUp (λ e. reads (disk_of e)) (λ e. may_leave (disk_of e)) (λ e. moment (disk_of e)) (λ e. left_since (disk_of e)) terms old new why
      → GivesUp reads may_leave moment left_since terms (disk_of old) (disk_of new) why
  gives_up_as terms old new why g = record {
    refused = g.refused;
    untouched = g.untouched;
    any_moment = λ file is. leaves_lent old new (StandsAsRead terms (may_leave (disk_of old)) (reads (disk_of old))) (g.any_moment file is);
  }

  -- the disk before the loan and after it
  pub at_ends : (P : D → D → Type 0) (old new : E) (before now : D) → disk_of old ≡ before → disk_of new ≡ now → P (disk_of old) (disk_of new) → P before now
  at_ends P old new before now first last p = subst (λ (d : D). P before d) last (subst (λ (d : D). P d (disk_of new)) first p)

  -- a run
  pub run_lent : (terms : DeskTerms) (start : List Entry) (told : List Told) (old new : E) (before now : D) → disk_of old ≡ before → disk_of new ≡ now
      → ServesRun (λ e. faults (disk_of e)) (λ e. reads (disk_of e)) (λ e. may_leave (disk_of e)) (λ e. moment (disk_of e)) (λ e. left_since (disk_of e)) terms start told old new
      → ServesRun faults reads may_leave moment left_since terms start told before now
  run_lent terms start told old new before now first last run =
      at_ends (ServesRun faults reads may_leave moment left_since terms start told) old new before now first last (run_as terms start told old new run)

  -- an opening that gave up
  pub course_lent : (roster : Roster) (why : DeskFault) (old new : E) (before now : D) → disk_of old ≡ before → disk_of new ≡ now
      → GivesUp (λ e. reads (disk_of e)) (λ e. may_leave (disk_of e)) (λ e. moment (disk_of e)) (λ e. left_since (disk_of e)) (desk_terms roster) old new why
      → HasDiskCause (faults (disk_of old)) (faults (disk_of new)) why
      → CourseOn faults reads may_leave moment left_since (given_up roster why) before now
  course_lent roster why old new before now first last g cause =
      at_ends (CourseOn faults reads may_leave moment left_since (given_up roster why)) old new before now first last (gives_up_as (desk_terms roster) old new why g, cause)
