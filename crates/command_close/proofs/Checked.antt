-- The document of a closed day is one that `check` accepts.
use Rattle.std.proofs.Common.{◌≡◌, ℕ, List, ◌++◌, inl, refl}
use Rattle.adx_io.specs.declared.rest.Rest.{Rest}
use Rattle.bid_record.specs.Lines.{document as record_document}
use Rattle.bid_record.specs.declared.record.Record.{Record}
use Rattle.cert_check.specs.declared.verdict.Verdict.{Verdict}
use Rattle.command_check.specs.Answers.{verdict_line}
use Rattle.command_check.specs.Checks.{checks}
use Rattle.command_runs.specs.declared.outcome.Outcome.{Outcome}
use Rattle.day_close.specs.Closing.{IsClosing}
use Rattle.day_close.proofs.Accepted.{closing_holds}
use Rattle.dual_cert.specs.Lines.{document as cert_document}
use Rattle.dual_cert.specs.declared.cert.Cert.{Cert}
use Rattle.dual_cert.proofs.Duality.{weak_duality}
use Rattle.ratio_law.proofs.Amounts.{closing_ranged}

pub closed_checked : (day : Record) (cert : Cert) (out : List ℕ) → IsClosing day cert → out ≡ record_document day ++ cert_document cert
    → checks Rest.Whole out Outcome.Done (verdict_line (Verdict.Accepted cert.bound))
closed_checked day cert out closing spelled =
    let rules = closing_holds day cert closing in
    inl (
      day,
      cert,
      (spelled, closing_ranged day cert closing),
      record {
        verdict = Verdict.Accepted cert.bound;
        rules = (rules, refl);
        bound = λ picks. weak_duality day cert picks rules;
        ends = refl;
        written = refl;
      },
    )
