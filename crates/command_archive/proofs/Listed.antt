-- What a run leaves that asked its keeper for a campaign's days.
use Rattle.std.proofs.Common.{◌≡◌, ◌∙◌, ℕ, List, [], ◌++◌, Option, Result, ap, subst}
use Rattle.adx_io.specs.declared.stop.Stop.{Stop}
use Rattle.command_archive.specs.Courses.{Counts, ListsDays, list_text}
use Rattle.command_archive.specs.declared.filing.Filing.{Filing}
use Rattle.command_archive.specs.Endings.{outcome_of}
use Rattle.command_archive.specs.Lists.{LeavesListed, Listing, PutsListed, listed}
use Rattle.command_archive.specs.declared.list.Query.{Query}
use Rattle.command_runs.specs.Meanings.{MayPut, PutsEnd}
use Rattle.command_runs.specs.declared.outcome.Outcome.{Outcome}
use Rattle.day_archive.specs.declared.keeper.Keeper as keeper
use Rattle.command_archive.proofs.Causes.{cause_by}

module _ {P : Type 0} (k : keeper.Ghosts P) (q : Query) (old new : P) (held held_now : Option (List ℕ)) where
  -- the texts that were asked with are those of the query
  asked_with : (seat cid first last written : List ℕ) (end : Filing) → seat ≡ q.seat → cid ≡ q.cid → first ≡ q.first → last ≡ q.last
      → ListsDays seat cid first last (k.contents old) (k.contents new) written end → ListsDays q.seat q.cid q.first q.last (k.contents old) (k.contents new) written end
  asked_with seat cid first last written end es ec ef el d =
      subst (λ (t : List ℕ). ListsDays q.seat q.cid q.first t (k.contents old) (k.contents new) written end) el
      (subst (λ (t : List ℕ). ListsDays q.seat q.cid t last (k.contents old) (k.contents new) written end) ef
      (subst (λ (t : List ℕ). ListsDays q.seat t first last (k.contents old) (k.contents new) written end) ec
      (subst (λ (t : List ℕ). ListsDays t cid first last (k.contents old) (k.contents new) written end) es d)))

  listed_so : (written out : List ℕ) (end : Filing) (outcome : Outcome) (result : Result Outcome Stop)
      → ListsDays q.seat q.cid q.first q.last (k.contents old) (k.contents new) written end → Counts (k.faults old) (k.faults new) end
      → out ≡ written → outcome ≡ outcome_of end → PutsEnd outcome held held_now out result → MayPut outcome result
      → (c : Listing) × LeavesListed k q old new c result × PutsListed c held held_now result
  listed_so written out end outcome result d count is ends puts may =
      let ended = ends ∙ ap outcome_of d.ends in (
        listed d.answer,
        record {
          days = d.days;
          kept = d.kept;
          cause = cause_by (k.faults old) (k.faults new) d.answer (subst (λ (f : Filing). Counts (k.faults old) (k.faults new) f) d.ends count);
          ends = subst (λ (o : Outcome). MayPut o result) ended may;
        },
        subst (λ (o : Outcome). PutsEnd o held held_now (list_text d.answer) result) ended (subst (λ (bytes : List ℕ). PutsEnd outcome held held_now bytes result) (is ∙ d.text) puts),
      )

  pub listed_as : (seat cid first last before out : List ℕ) (end : Filing) (outcome : Outcome) (result : Result Outcome Stop) → seat ≡ q.seat → cid ≡ q.cid → first ≡ q.first → last ≡ q.last
      → (written : List ℕ) × (out ≡ before ++ written) × ListsDays seat cid first last (k.contents old) (k.contents new) written end → before ≡ [] → Counts (k.faults old) (k.faults new) end
      → outcome ≡ outcome_of end → PutsEnd outcome held held_now out result → MayPut outcome result
      → (c : Listing) × LeavesListed k q old new c result × PutsListed c held held_now result
  listed_as seat cid first last before out end outcome result es ec ef el d none count ends puts may =
      listed_so d.0 out end outcome result (asked_with seat cid first last d.0 end es ec ef el d.2) count (d.1 ∙ ap (λ (b : List ℕ). b ++ d.0) none) ends puts may
