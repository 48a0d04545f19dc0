-- What a keeper answered to a record's rows.
use Rattle.std.proofs.Common.{◌≡◌, ◌∙◌, inl, ℕ, List, [], ◌++◌, Option, Some, None, Err, refl, ap, subst}
use Rattle.adx_io.specs.Streams.{WhereTold}
use Rattle.adx_io.specs.declared.stop.Stop.{Stop}
use Rattle.command_archive.specs.Courses.{Counts, Files, IsAtMostUpgraded}
use Rattle.command_archive.specs.declared.filing.Filing.{Filing}
use Rattle.bid_record.specs.declared.record.Record.{Record}
use Rattle.command_archive.specs.Endings.{LeavesUnanswered, outcome_of}
use Rattle.command_archive.specs.Puts.{PutsRows}
use Rattle.command_runs.specs.declared.outcome.Outcome.{Outcome}
use Rattle.day_archive.specs.Kept.{Archive}
use Rattle.day_archive.specs.declared.keeper.Keeper as keeper
use Rattle.day_archive.specs.declared.row.DayRow.{DayRow}
use Rattle.command_archive.specs.Rows.{rows_of}
use Rattle.command_archive.proofs.Causes.{cause_by}

-- nothing was done
same_archive : (a : Option Archive) → WhereTold a a IsAtMostUpgraded
same_archive None = refl
same_archive (Some archive) = inl refl

-- memory was refused before the keeper was asked
pub untouched : {P : Type 0} (k : keeper.Ghosts P) (archive : P) → LeavesUnanswered k archive archive (Err Stop.OutOfMemory)
untouched k archive = record { memory = refl; kept = same_archive (k.contents archive); faults = refl }

module _ {P : Type 0} (k : keeper.Ghosts P) (old new : P) where
  pub put_as : (rec : Record) (bound : ℕ) (rows : List DayRow) (before out : List ℕ) (end : Filing) (outcome : Outcome) → rows ≡ rows_of rec bound
      → (written : List ℕ) × (out ≡ before ++ written) × Files rows (k.contents old) (k.contents new) written end → before ≡ [] → Counts (k.faults old) (k.faults new) end
      → outcome ≡ outcome_of end → PutsRows k old new rec bound out outcome
  put_as rec bound rows before out end outcome is files none count ends =
      let f = subst (λ (rs : List DayRow). Files rs (k.contents old) (k.contents new) files.0 end) is files.2 in record {
        answer = f.answer;
        day = f.day;
        kept = f.kept;
        cause = cause_by (k.faults old) (k.faults new) f.answer (subst (λ (e : Filing). Counts (k.faults old) (k.faults new) e) f.ends count);
        text = files.1 ∙ ap (λ (b : List ℕ). b ++ files.0) none ∙ f.text;
        ends = ends ∙ ap outcome_of f.ends;
      }
