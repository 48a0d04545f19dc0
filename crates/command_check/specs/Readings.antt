-- What is read of bytes that are to be a document. Private clauses alone cite this file.
use Rattle.std.specs.Prelude.{◌≡◌, ◌⊎◌, ℕ, List, Result, Ok, Err}
use Rattle.bid_record.specs.declared.record.Record.{Record}
use Rattle.command_runs.specs.declared.outcome.Outcome.{Outcome}
use Rattle.dual_cert.specs.declared.cert.Cert.{Cert}
use Rattle.command_check.specs.Answers.{fault_line}
use Rattle.command_check.specs.Checks.{past_limit}
use Rattle.command_check.specs.Documents.{IsDocument, IsFault}
use Rattle.command_check.specs.declared.document.Checked.{Checked}
use Rattle.command_check.specs.declared.fault.DocumentFault.{DocumentFault}
use Rattle.command_check.specs.declared.reading.Misread.{Misread}
use Rattle.command_check.specs.declared.reading.Parts.{Parts}

-- why no document was read
abbrev pub IsMisread : List ℕ → Misread → Type 0
IsMisread bytes (Misread.Fault fault) = IsFault bytes fault
IsMisread bytes Misread.OutOfMemory = Unit {0}

-- a certificate behind a record
abbrev pub ReadsCert : List ℕ → Record → Result Cert Misread → Type 0
ReadsCert bytes rec (Ok cert) = IsDocument bytes rec cert
ReadsCert bytes rec (Err misread) = IsMisread bytes misread

-- a document
abbrev pub Reads : List ℕ → Result Parts Misread → Type 0
Reads bytes (Ok parts) = IsDocument bytes parts.rec parts.cert
Reads bytes (Err misread) = IsMisread bytes misread

-- a check ended so that refused the bytes for this fault
abbrev pub IsRefused : DocumentFault → List ℕ → Checked → Type 0
IsRefused fault out checked = (checked ≡ Checked.Ended Outcome.Refused) × (out ≡ fault_line fault)

-- why a document is refused that passes the limit, of which this part is within it
abbrev pub IsPast : List ℕ → DocumentFault → Type 0
IsPast part given =
    ((rec : Record) × (cert : Cert) × IsDocument part rec cert × (given ≡ DocumentFault.Long))
    ⊎ ((fault : DocumentFault) × IsFault part fault × (given ≡ past_limit fault))
