-- What came of a document, by what was read of it and what was written.
use Rattle.std.proofs.Common.{◌≡◌, inl, inr, refl, sym, ap, subst, ◌∙◌, ℕ, List, ◌++◌, Result, Ok, Err, IfOk}
use Rattle.adx_io.specs.declared.rest.Rest.{Rest}
use Rattle.adx_io.specs.declared.stop.Stop.{Stop}
use Rattle.adx_units.specs.declared.memory.OutOfMemory.{OutOfMemory}
use Rattle.bid_record.specs.declared.record.Record.{Record}
use Rattle.cert_check.specs.Verdicts.{IsBound, IsVerdict}
use Rattle.cert_check.specs.declared.verdict.Verdict.{Verdict}
use Rattle.command_runs.specs.Documents.{Judged, MayEnd}
use Rattle.command_runs.specs.declared.outcome.Outcome.{Outcome}
use Rattle.dual_cert.specs.declared.cert.Cert.{Cert}
use Rattle.command_check.specs.Answers.{fault_line, verdict_line}
use Rattle.command_check.specs.Checks.{IsChecked, checks, outcome_of}
use Rattle.command_check.specs.Documents.{IsDocument, IsFault}
use Rattle.command_check.specs.Readings.{IsPast, IsRefused}
use Rattle.command_check.specs.Runs.{HasJudged}
use Rattle.command_check.specs.declared.document.Checked.{Checked}
use Rattle.command_check.specs.declared.fault.DocumentFault.{DocumentFault}

-- a check that ended so said so of the bytes
ended_so : (rest : Rest) (bytes out : List ℕ) (checked : Checked) (outcome : Outcome) → checked ≡ Checked.Ended outcome → checks rest bytes outcome out → (outcome ≡ Outcome.Done → ⊥) → IsChecked rest bytes out checked
ended_so rest bytes out checked outcome is says other = subst (IsChecked rest bytes out) (sym is) (says, other)

-- bytes that are no document
pub refused_whole : (bytes out : List ℕ) (fault : DocumentFault) (checked : Checked) → IsFault bytes fault → IsRefused fault out checked → IsChecked Rest.Whole bytes out checked
refused_whole bytes out fault checked is refused = ended_so Rest.Whole bytes out checked Outcome.Refused refused.0 (inr (fault, is, (refl, refused.1))) (λ done. cc)

-- the part within the limit of a document that passes it
pub refused_past : (part out : List ℕ) (given : DocumentFault) (checked : Checked) → IsPast part given → IsRefused given out checked → IsChecked Rest.PastLimit part out checked
refused_past part out given checked (inl (rec, cert, is, long)) refused =
    ended_so Rest.PastLimit part out checked Outcome.Refused refused.0 (inl (rec, cert, is, (refl, refused.1 ∙ ap fault_line long))) (λ done. cc)
refused_past part out given checked (inr (fault, is, by)) refused =
    ended_so Rest.PastLimit part out checked Outcome.Refused refused.0 (inr (fault, is, (refl, refused.1 ∙ ap fault_line by))) (λ done. cc)

-- a verdict that isn't an acceptance was written
not_accepted : (verdict : Verdict) → ((bound : ℕ) → verdict ≡ Verdict.Accepted bound → ⊥) → Outcome.NotAccepted ≡ outcome_of verdict
not_accepted (Verdict.Accepted bound) other = absurd (other bound refl)
not_accepted Verdict.Shape other = refl
not_accepted (Verdict.Alpha campaign) other = refl
not_accepted (Verdict.Broken impression offer) other = refl
not_accepted (Verdict.Bound stated computed) other = refl

pub rejected : (bytes out : List ℕ) (rec : Record) (cert : Cert) (verdict : Verdict) → ((bound : ℕ) → verdict ≡ Verdict.Accepted bound → ⊥) → IsVerdict rec cert verdict → IsBound rec verdict → out ≡ verdict_line verdict → IsDocument bytes rec cert
    → IsChecked Rest.Whole bytes out (Checked.Ended Outcome.NotAccepted)
rejected bytes out rec cert verdict other rules bound written is =
    (inl (rec, cert, is, record { verdict = verdict; rules = rules; bound = bound; ends = not_accepted verdict other; written = written }), λ done. cc)

-- the line of an accepted certificate was written
pub accepted_so : (rest : Rest) (bytes before out : List ℕ) (rec : Record) (bound : ℕ) → IsChecked rest bytes before (Checked.Accepted rec bound) → out ≡ before ++ verdict_line (Verdict.Accepted bound) → checks rest bytes Outcome.Done out
accepted_so rest bytes before out rec bound (whole, none, cert, is, rules, small) written =
    subst (λ (r : Rest). checks r bytes Outcome.Done out) (sym whole)
    (inl (
      rec,
      cert,
      is,
      record {
        verdict = Verdict.Accepted bound;
        rules = rules;
        bound = small;
        ends = refl;
        written = written ∙ ap (λ (b : List ℕ). b ++ verdict_line (Verdict.Accepted bound)) none;
      },
    ))

-- ---- what a judge says

pub told : (rest : Rest) (bytes out : List ℕ) (result : Result Outcome OutOfMemory) → IfOk result (λ outcome. checks rest bytes outcome out) → Judged checks rest bytes out result
told rest bytes out (Ok outcome) says = says
told rest bytes out (Err refused) says = tt

pub judged : (rest : Rest) (bytes out : List ℕ) (result : Result Outcome OutOfMemory) → IfOk result (λ outcome. checks rest bytes outcome out) → (ended : Result Outcome Stop) → MayEnd result ended → HasJudged ended
judged rest bytes out (Ok outcome) says ended (inl is) = subst HasJudged (sym is) (rest, bytes, out, says)
judged rest bytes out (Ok outcome) says ended (inr is) = subst HasJudged (sym is) tt
judged rest bytes out (Err refused) says ended is = subst HasJudged (sym is) tt
