-- What the command `check` answers to a document. This project's own.
use Rattle.std.specs.Prelude.{◌≡◌, ◌≢◌, ◌⊎◌, ℕ, List, []}
use Rattle.adx_io.specs.declared.rest.Rest.{Rest}
use Rattle.bid_record.specs.declared.record.Record.{Record}
use Rattle.cert_check.specs.Verdicts.{IsBound, IsVerdict}
use Rattle.cert_check.specs.declared.verdict.Verdict.{Verdict}
use Rattle.command_runs.specs.Documents.{Judging}
use Rattle.command_runs.specs.declared.outcome.Outcome.{Outcome}
use Rattle.dual_cert.specs.declared.cert.Cert.{Cert}
use Rattle.command_check.specs.Answers.{fault_line, verdict_line}
use Rattle.command_check.specs.Documents.{IsDocument, IsFault}
use Rattle.command_check.specs.declared.document.Checked.{Checked}
use Rattle.command_check.specs.declared.fault.DocumentFault.{DocumentFault}

-- how a check ends that gives this verdict
abbrev pub outcome_of : Verdict → Outcome
outcome_of (Verdict.Accepted bound) = Outcome.Done
outcome_of Verdict.Shape = Outcome.NotAccepted
outcome_of (Verdict.Alpha campaign) = Outcome.NotAccepted
outcome_of (Verdict.Broken impression offer) = Outcome.NotAccepted
outcome_of (Verdict.Bound stated computed) = Outcome.NotAccepted

-- What is said of a record and a certificate: the certificate is one of the record, and no assignment of the record's
-- impressions earns more than its bound; or the verdict names the first rule that fails.
pub record Judges (rec : Record) (cert : Cert) (outcome : Outcome) (out : List ℕ) : Type 0 where
  pub verdict : Verdict
  pub rules : IsVerdict rec cert verdict
  pub bound : IsBound rec verdict
  pub ends : outcome ≡ outcome_of verdict
  pub written : out ≡ verdict_line verdict

-- the bytes are refused for this fault
abbrev pub Refuses : DocumentFault → Outcome → List ℕ → Type 0
Refuses fault outcome out = (outcome ≡ Outcome.Refused) × (out ≡ fault_line fault)

-- Why a document is refused that passes the limit, by the fault of its part within it: a fault in a line comes first; a
-- part that is cut is a document that is too long.
abbrev pub past_limit : DocumentFault → DocumentFault
past_limit DocumentFault.Cut = DocumentFault.Long
past_limit DocumentFault.Long = DocumentFault.Long
past_limit (DocumentFault.Line n) = DocumentFault.Line n
past_limit (DocumentFault.Order n) = DocumentFault.Order n
past_limit (DocumentFault.Campaign n) = DocumentFault.Campaign n

-- What is said of a document that was read whole, and of one that passes the limit, by its part within it.
abbrev pub checks : Judging
checks Rest.Whole bytes outcome out =
    ((rec : Record) × (cert : Cert) × IsDocument bytes rec cert × Judges rec cert outcome out)
    ⊎ ((fault : DocumentFault) × IsFault bytes fault × Refuses fault outcome out)
checks Rest.PastLimit part outcome out =
    ((rec : Record) × (cert : Cert) × IsDocument part rec cert × Refuses DocumentFault.Long outcome out)
    ⊎ ((fault : DocumentFault) × IsFault part fault × Refuses (past_limit fault) outcome out)

-- What a check gives to who goes on with a document: the record of an accepted certificate, of which nothing was written
-- yet; or how the check ended otherwise, with what is said of the document written.
abbrev pub IsChecked : Rest → List ℕ → List ℕ → Checked → Type 0
IsChecked rest bytes out (Checked.Accepted rec bound) =
    (rest ≡ Rest.Whole) × (out ≡ []) × (cert : Cert) × IsDocument bytes rec cert × IsVerdict rec cert (Verdict.Accepted bound)
    × IsBound rec (Verdict.Accepted bound)
IsChecked rest bytes out (Checked.Ended outcome) = checks rest bytes outcome out × (outcome ≢ Outcome.Done)

-- a document has one answer
abbrev pub HasOneAnswer : Type 0
HasOneAnswer =
    (rest : Rest) (bytes : List ℕ) (outcome other : Outcome) (out another : List ℕ) → checks rest bytes outcome out → checks rest bytes other another
    → (outcome ≡ other) × (out ≡ another)
