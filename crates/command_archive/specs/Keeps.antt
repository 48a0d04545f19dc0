-- What the command means that keeps a closed day. This project's own.
use Rattle.std.specs.Prelude.{◌≡◌, ◌≢◌, ℕ, Result, Ok, Err, ⊤}
use Rattle.adx_io.specs.Streams.{WhereTold}
use Rattle.adx_io.specs.declared.rest.Rest.{Rest}
use Rattle.adx_io.specs.declared.sink.Sink as sink
use Rattle.adx_io.specs.declared.source.Source as source
use Rattle.adx_io.specs.declared.stop.Stop.{Stop}
use Rattle.command_archive.specs.Courses.{PutsUpgraded, put_text}
use Rattle.bid_record.specs.declared.record.Record.{Record}
use Rattle.cert_check.specs.Verdicts.{IsBound, IsVerdict}
use Rattle.cert_check.specs.declared.verdict.Verdict.{Verdict}
use Rattle.command_archive.specs.Endings.{LeavesUnanswered, outcome_by}
use Rattle.command_check.specs.Checks.{checks}
use Rattle.command_check.specs.Documents.{IsDocument}
use Rattle.command_runs.specs.Documents.{Judging, document}
use Rattle.command_runs.specs.Meanings.{MayPut}
use Rattle.command_runs.specs.Runs.{RunsAs}
use Rattle.command_runs.specs.Limits.{document_limit}
use Rattle.command_runs.specs.declared.outcome.Outcome.{Outcome}
use Rattle.day_archive.specs.Answers.{HasKeeperCause, TellsPut}
use Rattle.day_archive.specs.declared.keeper.Keeper as keeper
use Rattle.day_archive.specs.declared.refusal.KeeperRefusal.{KeeperRefusal}
use Rattle.dual_cert.specs.declared.cert.Cert.{Cert}
use Rattle.command_archive.specs.Rows.{rows_of}

-- What came beside a document. The keeper wasn't asked; or memory was refused, so that it gave no answer; or the rows of
-- this record were put, behind which this certificate stands, which is accepted with this bound, and the keeper answered so.
pub data Keeping : Type 0 where
  unasked : Keeping
  unanswered : Keeping
  answered : Record → Cert → ℕ → Result Unit KeeperRefusal → Keeping

-- What is said of a document. Where the keeper isn't asked, what the check says, and the certificate isn't accepted. Else
-- the document is this record with this certificate, and what the keeper answered is said.
-- Example: a document whose certificate isn't accepted leaves the keeper as it was.
abbrev pub keeps : Keeping → Judging
keeps unasked rest bytes outcome out = checks rest bytes outcome out × (outcome ≢ Outcome.Done)
keeps unanswered rest bytes outcome out = ⊥
keeps (answered rec cert bound answer) Rest.Whole bytes outcome out =
    IsDocument bytes rec cert × (outcome ≡ outcome_by answer) × (out ≡ put_text (rows_of rec bound) answer)
keeps (answered rec cert bound answer) Rest.PastLimit bytes outcome out = ⊥

-- how a run may end that asks nothing of its keeper: by its document, its source, its sink or its memory
abbrev pub EndsUnasked : Result Outcome Stop → Type 0
EndsUnasked (Ok Outcome.Refused) = ⊤
EndsUnasked (Ok Outcome.NotAccepted) = ⊤
EndsUnasked (Ok other) = ⊥
EndsUnasked (Err stop) = ⊤

-- The keeper answered so to the rows of a record, whose certificate is accepted: what it kept, the count of its faults,
-- and how the run may end.
pub record LeavesAnswered {P : Type 0} (k : keeper.Ghosts P) (old new : P) (rec : Record) (cert : Cert) (bound : ℕ)
    (answer : Result Unit KeeperRefusal) (ended : Result Outcome Stop) : Type 0 where
  pub accepted : IsVerdict rec cert (Verdict.Accepted bound)
  pub is_bound : IsBound rec (Verdict.Accepted bound)
  pub day : TellsPut (rows_of rec bound) answer
  pub kept : WhereTold (k.contents old) (k.contents new) (PutsUpgraded (rows_of rec bound) answer)
  pub cause : HasKeeperCause (k.faults old) (k.faults new) answer
  pub ends : MayPut (outcome_by answer) ended

-- what a run leaves of its keeper, where it ends so
abbrev pub LeavesKept : {P : Type 0} → keeper.Ghosts P → P → P → Keeping → Result Outcome Stop → Type 0
LeavesKept k old new unasked ended = (new ≡ old) × EndsUnasked ended
LeavesKept k old new unanswered ended = LeavesUnanswered k old new ended
LeavesKept k old new (answered rec cert bound answer) ended = LeavesAnswered k old new rec cert bound answer ended

-- The command ran so over a source, a sink and a keeper, and its exit status tells how it ended.
abbrev pub KeepsAs : {S K P : Type 0} → source.Ghosts S → sink.Ghosts K → keeper.Ghosts P → S → S → K → K → P → P → ℕ → Type 0
KeepsAs s k p = RunsAs s k (LeavesKept p) (λ c. document document_limit (keeps c))
