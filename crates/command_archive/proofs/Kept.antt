-- What a run leaves that read a document.
use Rattle.std.proofs.Common.{◌≡◌, ◌≢◌, ◌∙◌, inl, inr, ℕ, List, Result, Ok, Err, refl, sym, subst}
use Rattle.std.specs.Prelude.{IfOk, OnErr}
use Rattle.adx_io.specs.declared.rest.Rest.{Rest}
use Rattle.adx_io.specs.declared.stop.Stop.{Stop}
use Rattle.adx_units.specs.declared.memory.OutOfMemory.{OutOfMemory}
use Rattle.bid_record.specs.declared.record.Record.{Record}
use Rattle.cert_check.specs.declared.verdict.Verdict.{Verdict}
use Rattle.command_archive.specs.Endings.{LeavesUnanswered}
use Rattle.command_archive.specs.Keeps.{EndsUnasked, Keeping, LeavesKept, answered, keeps, unanswered, unasked}
use Rattle.command_archive.specs.Puts.{PutsRows}
use Rattle.command_check.specs.Checks.{IsChecked, Judges, checks, outcome_of}
use Rattle.command_check.specs.declared.document.Checked.{Checked}
use Rattle.command_runs.specs.Documents.{Judged, MayEnd}
use Rattle.command_runs.specs.Meanings.{MayPut}
use Rattle.command_runs.specs.declared.outcome.Outcome.{Outcome}
use Rattle.day_archive.specs.declared.keeper.Keeper as keeper
use Rattle.dual_cert.specs.declared.cert.Cert.{Cert}

-- a run that ends by what is said of its document, or by its sink
may_end : (outcome : Outcome) (ended : Result Outcome Stop) → EndsUnasked (Ok outcome) → MayPut outcome ended → EndsUnasked ended
may_end outcome ended so (inl is) = subst EndsUnasked (sym is) so
may_end outcome ended so (inr is) = subst EndsUnasked (sym is) tt

by_verdict : (verdict : Verdict) → outcome_of verdict ≢ Outcome.Done → EndsUnasked (Ok (outcome_of verdict))
by_verdict (Verdict.Accepted bound) never = absurd (never refl)
by_verdict Verdict.Shape never = tt
by_verdict (Verdict.Alpha campaign) never = tt
by_verdict (Verdict.Broken impression offer) never = tt
by_verdict (Verdict.Bound stated computed) never = tt

by_judging : (rec : Record) (cert : Cert) (outcome : Outcome) (out : List ℕ) → Judges rec cert outcome out → outcome ≢ Outcome.Done → EndsUnasked (Ok outcome)
by_judging rec cert outcome out j never =
    subst (λ (o : Outcome). EndsUnasked (Ok o)) (sym j.ends) (by_verdict j.verdict (λ done. never (j.ends ∙ done)))

by_fault : (outcome : Outcome) → outcome ≡ Outcome.Refused → EndsUnasked (Ok outcome)
by_fault outcome is = subst (λ (o : Outcome). EndsUnasked (Ok o)) (sym is) tt

by_check : (rest : Rest) (bytes out : List ℕ) (outcome : Outcome) → checks rest bytes outcome out → outcome ≢ Outcome.Done → EndsUnasked (Ok outcome)
by_check Rest.Whole bytes out outcome (inl judged) never = by_judging judged.0 judged.1 outcome out judged.3 never
by_check Rest.Whole bytes out outcome (inr refused) never = by_fault outcome refused.2.0
by_check Rest.PastLimit bytes out outcome (inl refused) never = by_fault outcome refused.3.0
by_check Rest.PastLimit bytes out outcome (inr refused) never = by_fault outcome refused.2.0

module _ {P : Type 0} (k : keeper.Ghosts P) (old new : P) (rest : Rest) (bytes : List ℕ) where
  -- what became of the keeper by how the run ends, and what was said of the document
  abbrev pub Keeps : Result Outcome OutOfMemory → List ℕ → Type 0
  Keeps result out = (c : Keeping) × ((ended : Result Outcome Stop) → MayEnd result ended → LeavesKept k old new c ended) × Judged (keeps c) rest bytes out result

  -- the keeper was asked, or memory was refused
  pub kept_as : (rec : Record) (bound : ℕ) (empty out : List ℕ) (result : Result Outcome OutOfMemory) → IsChecked rest bytes empty (Checked.Accepted rec bound)
      → IfOk result (PutsRows k old new rec bound out) → OnErr result (LeavesUnanswered k old new (Err Stop.OutOfMemory)) → Keeps result out
  kept_as rec bound empty out (Ok outcome) checked put none = (
    answered rec checked.2 bound put.answer,
    λ ended may. record {
      accepted = checked.4;
      is_bound = checked.5;
      day = put.day;
      kept = put.kept;
      cause = put.cause;
      ends = subst (λ (o : Outcome). MayPut o ended) put.ends may;
    },
    subst (λ (r : Rest). keeps (answered rec checked.2 bound put.answer) r bytes outcome out) (sym checked.0) (checked.3, put.ends, put.text),
  )
  kept_as rec bound empty out (Err refused) checked put none = (
    unanswered,
    λ ended may. subst (λ (r : Result Outcome Stop). LeavesKept k old new unanswered r) (sym may) none,
    tt,
  )

module _ {P : Type 0} (k : keeper.Ghosts P) (old : P) (rest : Rest) (bytes : List ℕ) where
  -- the keeper wasn't asked
  pub kept_none : (out : List ℕ) (outcome : Outcome) → IsChecked rest bytes out (Checked.Ended outcome) → Keeps k old old rest bytes (Ok outcome) out
  kept_none out outcome checked = (unasked, λ ended may. (refl, may_end outcome ended (by_check rest bytes out outcome checked.0 checked.1) may), checked)

  pub kept_nothing : (out : List ℕ) (refused : OutOfMemory) → Keeps k old old rest bytes (Err refused) out
  kept_nothing out refused = (unasked, λ ended may. (refl, subst EndsUnasked (sym may) tt), tt)
