-- What exit statuses tell of the keeper and the sink.
use Rattle.std.proofs.Common.{◌≡◌, ◌≢◌, ◌∙◌, inl, inr, ℕ, List, Option, Result, Ok, Err, refl, sym, ap, arith}
use Rattle.adx_io.specs.Streams.{Rises}
use Rattle.adx_io.specs.declared.sink.Sink as sink
use Rattle.adx_io.specs.declared.source.Source as source
use Rattle.adx_io.specs.declared.stop.Stop.{Stop}
use Rattle.command_archive.specs.Endings.{outcome_by}
use Rattle.command_archive.specs.Keeps.{EndsUnasked, Keeping, KeepsAs, LeavesKept, answered, unanswered, unasked}
use Rattle.command_archive.specs.Lists.{LeavesListed, Listing, ListsAs, listed, unlisted}
use Rattle.command_archive.specs.declared.list.Query.{Query}
use Rattle.command_runs.specs.Meanings.{MayPut}
use Rattle.command_runs.specs.Statuses.{status_by}
use Rattle.command_runs.specs.declared.outcome.Outcome.{Outcome}
use Rattle.day_archive.specs.Answers.{HasKeeperCause}
use Rattle.day_archive.specs.declared.keeper.Keeper as keeper
use Rattle.day_archive.specs.declared.refusal.KeeperRefusal.{KeeperRefusal}

-- what an answer of the keeper's tells of its count, by how the run ends
by_fault : {T : Type 0} (before now : ℕ) (answer : Result T KeeperRefusal) → HasKeeperCause before now answer → status_by (Ok (outcome_by answer)) ≡ 9 → Rises before now
by_fault before now (Ok x) cause e = absurd (omega (arith, e))
by_fault before now (Err (KeeperRefusal.DayThere day)) cause e = absurd (omega (arith, e))
by_fault before now (Err KeeperRefusal.BadRange) cause e = absurd (omega (arith, e))
by_fault before now (Err (KeeperRefusal.BadDate day)) cause e = absurd (omega (arith, e))
by_fault before now (Err KeeperRefusal.KeeperFault) cause e = cause.1

by_none : {T : Type 0} (before now : ℕ) (answer : Result T KeeperRefusal) → HasKeeperCause before now answer → status_by (Ok (outcome_by answer)) ≢ 9 → now ≡ before
by_none before now (Ok x) cause never = cause
by_none before now (Err (KeeperRefusal.DayThere day)) cause never = cause
by_none before now (Err KeeperRefusal.BadRange) cause never = cause
by_none before now (Err (KeeperRefusal.BadDate day)) cause never = cause
by_none before now (Err KeeperRefusal.KeeperFault) cause never = absurd (never refl)

fault_told : {T : Type 0} (before now : ℕ) (answer : Result T KeeperRefusal) (ended : Result Outcome Stop) → HasKeeperCause before now answer → MayPut (outcome_by answer) ended
    → status_by ended ≡ 9 → Rises before now
fault_told before now answer ended cause (inl is) e = by_fault before now answer cause (sym (ap status_by is) ∙ e)
fault_told before now answer ended cause (inr is) e = absurd (omega (arith, sym (ap status_by is) ∙ e))

none_told : {T : Type 0} (before now : ℕ) (answer : Result T KeeperRefusal) (ended : Result Outcome Stop) → HasKeeperCause before now answer → MayPut (outcome_by answer) ended
    → status_by ended ≢ 9 → status_by ended ≢ 5 → now ≡ before
none_told before now answer ended cause (inl is) never unput = by_none before now answer cause (λ e. never (ap status_by is ∙ e))
none_told before now answer ended cause (inr is) never unput = absurd (unput (ap status_by is))

-- a run that asked nothing of its keeper ends neither by it nor by a disk
unasked_other : (ended : Result Outcome Stop) → EndsUnasked ended → (status_by ended ≢ 9) × (status_by ended ≢ 6)
unasked_other (Ok Outcome.Done) so = absurd so
unasked_other (Ok Outcome.Refused) so = (λ e. omega (arith, e), λ e. omega (arith, e))
unasked_other (Ok Outcome.DiskFault) so = absurd so
unasked_other (Ok Outcome.NoHistory) so = absurd so
unasked_other (Ok Outcome.NotAccepted) so = (λ e. omega (arith, e), λ e. omega (arith, e))
unasked_other (Ok Outcome.KeeperFault) so = absurd so
unasked_other (Ok Outcome.NotKept) so = absurd so
unasked_other (Ok Outcome.Pending) so = absurd so
unasked_other (Err Stop.ReadFault) so = (λ e. omega (arith, e), λ e. omega (arith, e))
unasked_other (Err Stop.WriteFault) so = (λ e. omega (arith, e), λ e. omega (arith, e))
unasked_other (Err Stop.OutOfMemory) so = (λ e. omega (arith, e), λ e. omega (arith, e))

-- a run that ends by its keeper's answer ends neither by a source nor by a disk
answer_other : {T : Type 0} (answer : Result T KeeperRefusal) → (status_by (Ok (outcome_by answer)) ≢ 4) × (status_by (Ok (outcome_by answer)) ≢ 6)
answer_other (Ok x) = (λ e. omega (arith, e), λ e. omega (arith, e))
answer_other (Err (KeeperRefusal.DayThere day)) = (λ e. omega (arith, e), λ e. omega (arith, e))
answer_other (Err KeeperRefusal.BadRange) = (λ e. omega (arith, e), λ e. omega (arith, e))
answer_other (Err (KeeperRefusal.BadDate day)) = (λ e. omega (arith, e), λ e. omega (arith, e))
answer_other (Err KeeperRefusal.KeeperFault) = (λ e. omega (arith, e), λ e. omega (arith, e))

told_other : {T : Type 0} (answer : Result T KeeperRefusal) (ended : Result Outcome Stop) → MayPut (outcome_by answer) ended → (status_by ended ≢ 4) × (status_by ended ≢ 6)
told_other answer ended (inl is) = (λ e. (answer_other answer).0 (sym (ap status_by is) ∙ e), λ e. (answer_other answer).1 (sym (ap status_by is) ∙ e))
told_other answer ended (inr is) = (λ e. omega (arith, sym (ap status_by is) ∙ e), λ e. omega (arith, sym (ap status_by is) ∙ e))

module _ {P : Type 0} (k : keeper.Ghosts P) (old new : P) (ended : Result Outcome Stop) where
  pub kept_fault : (c : Keeping) → LeavesKept k old new c ended → status_by ended ≡ 9 → Rises (k.faults old) (k.faults new)
  kept_fault unasked left e = absurd ((unasked_other ended left.1).0 e)
  kept_fault unanswered left e = absurd (omega (arith, sym (ap status_by left.memory) ∙ e))
  kept_fault (answered rec cert bound answer) left e = fault_told (k.faults old) (k.faults new) answer ended left.cause left.ends e

  pub kept_passed : (c : Keeping) → LeavesKept k old new c ended → status_by ended ≢ 9 → status_by ended ≢ 5 → k.faults new ≡ k.faults old
  kept_passed unasked left never unput = ap k.faults left.0
  kept_passed unanswered left never unput = left.faults
  kept_passed (answered rec cert bound answer) left never unput = none_told (k.faults old) (k.faults new) answer ended left.cause left.ends never unput

  pub listed_fault : (q : Query) (c : Listing) → LeavesListed k q old new c ended → status_by ended ≡ 9 → Rises (k.faults old) (k.faults new)
  listed_fault q unlisted left e = absurd (omega (arith, sym (ap status_by left.memory) ∙ e))
  listed_fault q (listed answer) left e = fault_told (k.faults old) (k.faults new) answer ended left.cause left.ends e

  pub listed_passed : (q : Query) (c : Listing) → LeavesListed k q old new c ended → status_by ended ≢ 9 → status_by ended ≢ 5 → k.faults new ≡ k.faults old
  listed_passed q unlisted left never unput = left.faults
  listed_passed q (listed answer) left never unput = none_told (k.faults old) (k.faults new) answer ended left.cause left.ends never unput

  pub kept_other : (c : Keeping) → LeavesKept k old new c ended → status_by ended ≢ 6
  kept_other unasked left = (unasked_other ended left.1).1
  kept_other unanswered left = λ e. omega (arith, sym (ap status_by left.memory) ∙ e)
  kept_other (answered rec cert bound answer) left = (told_other answer ended left.ends).1

  pub listed_other : (q : Query) (c : Listing) → LeavesListed k q old new c ended → (status_by ended ≢ 4) × (status_by ended ≢ 6)
  listed_other q unlisted left = (λ e. omega (arith, sym (ap status_by left.memory) ∙ e), λ e. omega (arith, sym (ap status_by left.memory) ∙ e))
  listed_other q (listed answer) left = told_other answer ended left.ends

-- the same of a whole run, by its status
module _ {S K P : Type 0} (s : source.Ghosts S) (k : sink.Ghosts K) (p : keeper.Ghosts P) (from from_now : S) (to to_now : K) (archive archive_now : P) (status : ℕ) where
  pub put_fault : KeepsAs s k p from from_now to to_now archive archive_now status → status ≡ 9 → Rises (p.faults archive) (p.faults archive_now)
  put_fault runs is = kept_fault p archive archive_now runs.ended runs.course runs.left (sym runs.told ∙ is)

  pub put_passed : KeepsAs s k p from from_now to to_now archive archive_now status → status ≢ 9 → status ≢ 5 → p.faults archive_now ≡ p.faults archive
  put_passed runs never unput = kept_passed p archive archive_now runs.ended runs.course runs.left (λ is. never (runs.told ∙ is)) (λ is. unput (runs.told ∙ is))

module _ {P : Type 0} (p : keeper.Ghosts P) (q : Query) (archive archive_now : P) (held held_now : Option (List ℕ)) (status : ℕ) where
  pub list_fault : ListsAs p q archive archive_now held held_now status → status ≡ 9 → Rises (p.faults archive) (p.faults archive_now)
  list_fault lists is = listed_fault p archive archive_now lists.ended q lists.listing lists.left (sym lists.told ∙ is)

  pub list_passed : ListsAs p q archive archive_now held held_now status → status ≢ 9 → status ≢ 5 → p.faults archive_now ≡ p.faults archive
  list_passed lists never unput = listed_passed p archive archive_now lists.ended q lists.listing lists.left (λ is. never (lists.told ∙ is)) (λ is. unput (lists.told ∙ is))
