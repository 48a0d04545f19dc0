-- A document: a record, and a certificate behind it; or why bytes are none. This project's own.
use Rattle.std.specs.Prelude.{◌≡◌, ◌⊎◌, ℕ, ◌+◌, List, ◌++◌, length}
use Rattle.bid_record.specs.Lines.{document as record_document}
use Rattle.bid_record.specs.Refusals.{IsRefusal as RefusesRecord}
use Rattle.bid_record.specs.declared.fault.RecordFault.{RecordFault}
use Rattle.bid_record.specs.declared.record.Record.{Record}
use Rattle.dual_cert.specs.Lines.{document as cert_document}
use Rattle.dual_cert.specs.Refusals.{IsRanged, IsRefusal as RefusesCert}
use Rattle.dual_cert.specs.declared.cert.Cert.{Cert}
use Rattle.dual_cert.specs.declared.fault.CertFault.{CertFault}
use Rattle.command_check.specs.declared.fault.DocumentFault.{DocumentFault}

-- the bytes are this record with this certificate behind it, whose numbers are in range
abbrev pub IsDocument : List ℕ → Record → Cert → Type 0
IsDocument bytes rec cert = (bytes ≡ record_document rec ++ cert_document cert) × IsRanged cert

-- how many lines a record has: its head, its day, one for each campaign and each impression, and its end
abbrev pub line_count : Record → ℕ
line_count rec = 3 + (length rec.campaigns + length rec.imps)

-- the bytes begin with a record, and this holds of it and of what comes behind it
abbrev pub BehindRecord : (Record → List ℕ → Type 0) → List ℕ → Type 0
BehindRecord Holds bytes = (rec : Record) × (rest : List ℕ) × (bytes ≡ record_document rec ++ rest) × Holds rec rest

-- the bytes behind a record are no certificate, and the document's line n is the first that fails
abbrev pub CertFailsAt : ℕ → Record → List ℕ → Type 0
CertFailsAt n rec rest = (m : ℕ) × RefusesCert rest (CertFault.Line m) × (n ≡ line_count rec + m)

-- the bytes are no document, and this is their first fault; that they are too many is none of theirs
-- Example: a record of seven lines whose certificate fails in its second fails in line 9.
abbrev pub IsFault : List ℕ → DocumentFault → Type 0
IsFault bytes DocumentFault.Cut = RefusesRecord bytes RecordFault.Cut ⊎ BehindRecord (λ rec rest. RefusesCert rest CertFault.Cut) bytes
IsFault bytes DocumentFault.Long = ⊥
IsFault bytes (DocumentFault.Line n) = RefusesRecord bytes (RecordFault.Line n) ⊎ BehindRecord (CertFailsAt n) bytes
IsFault bytes (DocumentFault.Order n) = RefusesRecord bytes (RecordFault.Order n)
IsFault bytes (DocumentFault.Campaign n) = RefusesRecord bytes (RecordFault.Campaign n)
