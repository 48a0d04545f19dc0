-- The document of a closed day, by the day's history. This project's own.
use Rattle.std.specs.Prelude.{◌≡◌, ◌≤◌, ℕ, List, ◌++◌, length}
use Rattle.adx_io.specs.declared.rest.Rest.{Rest}
use Rattle.bid_record.specs.Lines.{document as record_document}
use Rattle.bid_record.specs.declared.record.Record.{Record}
use Rattle.cert_check.specs.declared.verdict.Verdict.{Verdict}
use Rattle.command_check.specs.Answers.{verdict_line}
use Rattle.command_check.specs.Checks.{checks}
use Rattle.command_runs.specs.Limits.{document_limit}
use Rattle.command_runs.specs.declared.outcome.Outcome.{Outcome}
use Rattle.day_close.specs.Closing.{IsClosing}
use Rattle.day_rules.specs.declared.entry.Entry.{Entry}
use Rattle.deal_floor.specs.declared.roster.Roster.{Roster}
use Rattle.dual_cert.specs.Lines.{document as cert_document}
use Rattle.dual_cert.specs.declared.cert.Cert.{Cert}
use Rattle.dual_cert.specs.Assignments.{Assignment}
use Rattle.dual_cert.specs.Certificates.{IsCertificate}
use Rattle.served_record.specs.Served.{IsRecordOf, earned_in}

-- These bytes are the document of a roster's day with this history: the record of the history, and after it the closer's
-- certificate of that record.
pub record IsClosedDay (r : Roster) (history : List Entry) (out : List ℕ) : Type 0 where
  pub day : Record
  pub cert : Cert
  pub served : IsRecordOf r.day r.campaigns history day
  pub closing : IsClosing day cert
  pub spelled : out ≡ record_document day ++ cert_document cert
  -- The certificate meets the rules of every certificate, so that a checker accepts it;
  pub accepted : IsCertificate day cert
  -- and no assignment of the day's impressions earns more than its bound.
  pub hindsight : (picks : Assignment) → earned_in picks r.campaigns history ≤ cert.bound
  -- The command `check`, which reads no more than its limit, accepts these bytes, with this bound.
  pub checked : length out ≤ document_limit → checks Rest.Whole out Outcome.Done (verdict_line (Verdict.Accepted cert.bound))

-- a history has one document
abbrev pub HasOneDocument : Type 0
HasOneDocument = (r : Roster) (history : List Entry) (out other : List ℕ) → IsClosedDay r history out → IsClosedDay r history other → out ≡ other
