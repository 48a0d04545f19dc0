-- The disk's count of faults over a day: it never falls, it rises where a call was given up by the disk, and it stays
-- where none was.
use Rattle.std.proofs.Common.{◌≡◌, ◌≢◌, ⊎_elim, inl, inr, ℕ, ◌≤◌, List, [], ◌∷◌, ◌++◌, Option, Some, None, refl, ap, ◌∙◌, subst, arith, append-nil}
use Rattle.std.proofs.Math.Nat.{eq-or-lt_of_le}
use Rattle.std.proofs.lemmas.List.Elements.{All-head, All-tail}
use Rattle.adx_desk.specs.Openings.{HasDiskCause}
use Rattle.adx_desk.specs.declared.fault.DeskFault.{DeskFault}
use Rattle.adx_io.specs.Streams.{Rises}
use Rattle.answer_lines.specs.declared.faults.Fault.{Fault}
use Rattle.adx_desk.specs.Courses.{Course, unopened, given_up, served, HasDiskFault, HasNoDiskFault, taken_calls}
use Rattle.adx_desk.specs.Meanings.{Told}
use Rattle.adx_desk.specs.OnDisk.{CountsEach, CountsOne, CourseOn}

-- the same count is no smaller
pub not_less : (a b : ℕ) → b ≡ a → a ≤ b
not_less a b is = omega (arith, is)

climbs : (a m k b : ℕ) → a ≤ m → m ≤ k → k ≤ b → a ≤ b
climbs a m k b first step rest = omega (arith, first, step, rest)

squeezed : (a m k b : ℕ) → a ≡ b → a ≤ m → m ≤ k → k ≤ b → b ≡ k
squeezed a m k b same first step rest = omega (arith, same, first, step, rest)

-- a count that rose and then didn't fall has risen
rise_between : (a m k b : ℕ) → a ≤ m → m ≤ k → Rises m k → k ≤ b → Rises a b
rise_between a m k b first step (inl more) rest = inl (omega (arith, first, more, rest))
rise_between a m k b first step (inr last) rest =
    ⊎_elim (λ same. inr (squeezed a m k b same first step rest ∙ last)) (λ more. inl more) (eq-or-lt_of_le (climbs a m k b first step rest))

rise_behind : (a m b : ℕ) → a ≤ m → m ≤ b → Rises m b → Rises a b
rise_behind a m b first step rose = rise_between a m b b first step rose (omega arith)

one_later : (a m : ℕ) (fault : Option Fault) → CountsOne a fault m → a ≤ m
one_later a m None one = not_less a m one
one_later a m (Some Fault.Disk) one = one.0
one_later a m (Some (Fault.JournalFull size)) one = not_less a m one

one_same : (a m : ℕ) (fault : Option Fault) → fault ≢ Some Fault.Disk → CountsOne a fault m → m ≡ a
one_same a m None other one = one
one_same a m (Some Fault.Disk) other one = absurd (other refl)
one_same a m (Some (Fault.JournalFull size)) other one = one

counts_later : (a b : ℕ) (told : List Told) → CountsEach a told b → a ≤ b
counts_later a b [] same = not_less a b same
counts_later a b (t ∷ told) (m, one, rest) = omega (arith, one_later a m t.fault one, counts_later m b told rest)

counts_same : (a b : ℕ) (told : List Told) → HasNoDiskFault told → CountsEach a told b → b ≡ a
counts_same a b [] none same = same
counts_same a b (t ∷ told) none (m, one, rest) =
    counts_same m b told (All-tail (λ (u : Told). u.fault ≢ Some Fault.Disk) t told none) rest
    ∙ one_same a m t.fault (All-head (λ (u : Told). u.fault ≢ Some Fault.Disk) t told none) one

counts_rise : (a b : ℕ) (front : List Told) (t : Told) (back : List Told) → t.fault ≡ Some Fault.Disk → CountsEach a (front ++ t ∷ back) b → Rises a b
counts_rise a b [] t back disk (k, one, rest) =
    let rose = subst (λ f. CountsOne a f k) disk one in
    rise_between a a k b (omega arith) rose.0 rose.1 (counts_later k b back rest)
counts_rise a b (u ∷ front) t back disk (m, one, rest) =
    rise_behind a m b (one_later a m u.fault one) (counts_later m b (front ++ t ∷ back) rest) (counts_rise m b front t back disk rest)

-- a run in which a call was given up by the disk, and one in which none was
pub run_rises : (a b : ℕ) (told : List Told) (unwritten : Option Told) → HasDiskFault told → unwritten ≡ None → CountsEach a (taken_calls told unwritten) b → Rises a b
run_rises a b told unwritten f none counts =
    counts_rise a b f.front f.faulted f.back f.by_disk
    (subst (λ l. CountsEach a l b) (append-nil told ∙ f.split) (subst (λ u. CountsEach a (taken_calls told u) b) none counts))

pub run_stays : (a b : ℕ) (told : List Told) (unwritten : Option Told) → HasNoDiskFault told → unwritten ≡ None → CountsEach a (taken_calls told unwritten) b → b ≡ a
run_stays a b told unwritten f none counts =
    counts_same a b told f (subst (λ l. CountsEach a l b) (append-nil told) (subst (λ u. CountsEach a (taken_calls told u) b) none counts))

-- an opening that gave up
pub cause_later : (a b : ℕ) (why : DeskFault) → HasDiskCause a b why → a ≤ b
cause_later a b DeskFault.DiskFault cause = cause.0
cause_later a b (DeskFault.JournalFull size) cause = not_less a b cause
cause_later a b (DeskFault.BadEntry at) cause = not_less a b cause
cause_later a b (DeskFault.OtherRoster kept) cause = not_less a b cause
cause_later a b (DeskFault.NotAJournal at) cause = not_less a b cause
cause_later a b (DeskFault.BadLength at) cause = not_less a b cause
cause_later a b DeskFault.OutOfMemory cause = not_less a b cause

module _ {D : Type 0} (faults : D → ℕ) (reads : D → Option (List ℕ)) (may_leave : D → List ℕ → Type 0) (moment : D → ℕ) (left_since : D → ℕ → List ℕ → Type 0) where
  -- the disk's count never falls
  pub day_later : (course : Course) (old new : D) → CourseOn faults reads may_leave moment left_since course old new → faults old ≤ faults new
  day_later unopened old new same = not_less (faults old) (faults new) (ap faults same)
  day_later (given_up r why) old new (gives_up, cause) = cause_later (faults old) (faults new) why cause
  day_later (served r start told unwritten) old new serves = counts_later (faults old) (faults new) (taken_calls told unwritten) serves.counted
