-- What opening leaves of a file.
use Rattle.std.proofs.Common.{◌≡◌, ◌⊎◌, inl, inr, ℕ, ◌≤◌, List, length, take, Option, Some, None, is_some, ⊎_elim, refl, sym, ◌∙◌, ap, subst, arith}
use Rattle.day_journal.specs.Disks.{AsRead, Each, LeavesOnly}
use Rattle.day_journal.specs.Places.{IsCleared, IsMarked, IsUnfinished, new_file}
use Rattle.day_journal.specs.Starts.{BeginsJournal, HasSome, IsStart, LeavesNoMore, Looked, StandsAsRead, StandsNew}
use Rattle.day_journal.specs.declared.start.TheConstants.{NEW_FORMAT}
use Rattle.day_journal.specs.declared.start.Start.{Start}
use Rattle.day_journal.proofs.Moments.{joined, weaker}
use Rattle.day_journal.proofs.NewFile.{stands_empty}
use Rattle.day_journal.proofs.Reading.{small_start}

pub cleared_file : (file : List ℕ) → IsStart (take 11 file) Start.Cleared → IsCleared file
cleared_file file is = small_start IsCleared file is.few is

abbrev pub IsUncleared : List ℕ → Type 0
IsUncleared file = (length file ≤ 1) ⊎ IsMarked file

pub uncleared_file : (file : List ℕ) → IsStart (take 11 file) Start.Uncleared → IsUncleared file
uncleared_file file (inl one) = small_start IsUncleared file (omega (arith, one)) (inl one)
uncleared_file file (inr marked) = small_start IsUncleared file (omega (arith, ap length marked.marked.split)) (inr marked)

pub unfinished : (file : List ℕ) → IsUncleared file → IsUnfinished file
unfinished file (inl one) = inl one
unfinished file (inr marked) = inr (inr marked)

-- made anew of what was read, which is unfinished
pub made_as : (reads : Option (List ℕ)) (images : List ℕ → Type 0) (c : List ℕ) → AsRead reads images → Each images IsUnfinished → StandsNew c → HasSome images → StandsAsRead images reads c
made_as reads images c durable un empty some =
    let d : List ℕ = some.image in
    inr (d, durable d some.there, inr (stands_empty d (un d some.there), empty))

pub as_before : (reads : Option (List ℕ)) (old : List ℕ → Type 0) (c : List ℕ) → old c → StandsAsRead old reads c
as_before reads old c left = inl left

module _ {D : Type 0} (reads : D → Option (List ℕ)) (may_leave : D → List ℕ → Type 0) (moment : D → ℕ) (left_since : D → ℕ → List ℕ → Type 0) where
  pub looked_at : (old mid : D) → LeavesNoMore may_leave moment left_since old mid → LeavesOnly moment left_since old mid (StandsAsRead (may_leave old) (reads old))
  looked_at old mid less = weaker moment left_since old mid (may_leave old) (StandsAsRead (may_leave old) (reads old)) less.moments (as_before (reads old) (may_leave old))

  pub made_on : (old new : D) → AsRead (reads old) (may_leave old) → Each (may_leave old) IsUnfinished → LeavesOnly moment left_since old new (λ c. StandsNew c × HasSome (may_leave old))
      → LeavesOnly moment left_since old new (StandsAsRead (may_leave old) (reads old))
  made_on old new durable un made =
      weaker moment left_since old new (λ (c : List ℕ). StandsNew c × HasSome (may_leave old)) (StandsAsRead (may_leave old) (reads old)) made
      (λ c h. made_as (reads old) (may_leave old) c durable un h.0 h.1)

  -- one run after another
  pub begun_on : (old mid new : D) → reads mid ≡ reads old → LeavesNoMore may_leave moment left_since old mid → LeavesOnly moment left_since mid new (StandsAsRead (may_leave mid) (reads mid))
      → LeavesOnly moment left_since old new (StandsAsRead (may_leave old) (reads old))
  begun_on old mid new same less run =
      joined moment left_since old mid new (may_leave old) (StandsAsRead (may_leave mid) (reads mid)) (StandsAsRead (may_leave old) (reads old)) less.moments run
      (as_before (reads old) (may_leave old))
      (λ c. ⊎_elim (λ left. inl (less.crash c left)) (λ made. inr (made.0, sym same ∙ made.1, made.2)))

pub looked_cleared : (size : ℕ) (start : Start) (reads : Option (List ℕ)) (images : List ℕ → Type 0) → start ≡ Start.Cleared → Looked size start reads images → Each images IsCleared
looked_cleared size start reads images is l f left = let had = l.found f (l.durable f left) in cleared_file f (subst (IsStart (take 11 f)) is had.1)

pub looked_uncleared : (size : ℕ) (start : Start) (reads : Option (List ℕ)) (images : List ℕ → Type 0) → start ≡ Start.Uncleared → Looked size start reads images → Each images IsUncleared
looked_uncleared size start reads images is l f left = let had = l.found f (l.durable f left) in uncleared_file f (subst (IsStart (take 11 f)) is had.1)

pub begins_new : (file : List ℕ) → file ≡ new_file → BeginsJournal NEW_FORMAT 10 file
begins_new file is = record { known = inr refl; length_is = sym (ap length is); front = ap (λ (l : List ℕ). take 9 (take 11 l)) is }

-- a disk that reported what it reads, and whose images are a new journal, reads as one
pub reads_new : (was now : Option (List ℕ)) (images : List ℕ → Type 0) (file : List ℕ) → is_some now ≡ is_some was → was ≡ Some file
    → ((f : List ℕ) → now ≡ Some f → images f) → Each images (λ c. c ≡ new_file) → now ≡ Some new_file
reads_new was None images file told is left each = absurd (cc (told, is))
reads_new was (Some f) images file told is left each = ap Some (each f (left f refl))
