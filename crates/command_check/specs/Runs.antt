-- How the command `check` ran over a source and a sink, told by its exit status. This project's own.
use Rattle.std.specs.Prelude.{◌≡◌, ◌≤◌, ◌++◌, ℕ, List, [], Option, Result, Ok, Err}
use Rattle.adx_io.specs.Streams.{Tape, Took, WhereTold}
use Rattle.adx_io.specs.declared.rest.Rest.{Rest}
use Rattle.adx_io.specs.declared.stop.Stop.{Stop}
use Rattle.bid_record.specs.Lines.{document as record_document}
use Rattle.bid_record.specs.declared.record.Record.{Record}
use Rattle.command_runs.specs.Documents.{document}
use Rattle.command_runs.specs.Meanings.{Wrote}
use Rattle.command_runs.specs.Statuses.{status_by}
use Rattle.command_runs.specs.Limits.{document_limit}
use Rattle.command_runs.specs.declared.outcome.Outcome.{Outcome}
use Rattle.dual_cert.specs.declared.cert.Cert.{Cert}
use Rattle.dual_cert.specs.Assignments.{Assignment, earned}
use Rattle.dual_cert.specs.Lines.{document as cert_document}
use Rattle.command_check.specs.Answers.{accepted_line}
use Rattle.command_check.specs.Checks.{checks}

-- some bytes were judged so, also where the source doesn't tell which
abbrev pub HasJudged : Result Outcome Stop → Type 0
HasJudged (Ok outcome) = (rest : Rest) × (bytes out : List ℕ) × checks rest bytes outcome out
HasJudged (Err stop) = Unit {0}

-- The document was read, and the sink took what is said of it; or the run stopped. The exit status tells how it ended.
pub record ChecksInput (tape tape_now : Option Tape) (held held_now : Option (List ℕ)) (status : ℕ) : Type 0 where
  pub ended : Result Outcome Stop
  pub told : status ≡ status_by ended
  pub judged : HasJudged ended
  pub wrote : WhereTold tape tape_now (λ before now. Wrote (document document_limit checks) before.left now.left held held_now ended)

-- All of the input is a record with a certificate after it: no assignment of the record's impressions earns more than the
-- certificate's bound, and the sink took the line that has it.
-- Example: the record of three impressions with bound 514 in docs/FORMATS.md, and the line {"answer":"check","bound":514}.
pub record IsAccepted (input left : List ℕ) (held held_now : Option (List ℕ)) : Type 0 where
  pub rec : Record
  pub cert : Cert
  pub spelled : input ≡ record_document rec ++ cert_document cert
  pub all_read : left ≡ []
  pub bound : (picks : Assignment) → earned picks rec ≤ cert.bound
  pub took : Took held held_now (accepted_line cert.bound)

-- the same of the input that a source tells
abbrev pub AcceptsInput : Option Tape → Option Tape → Option (List ℕ) → Option (List ℕ) → Type 0
AcceptsInput tape tape_now held held_now = WhereTold tape tape_now (λ before now. IsAccepted before.left now.left held held_now)
