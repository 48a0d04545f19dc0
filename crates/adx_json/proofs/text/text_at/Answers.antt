use Rattle.std.proofs.Common.{subst, sym}
use Rattle.adx_json.specs.Found.{FoundText}
use Rattle.adx_json.proofs.Unescaped.{one_run}
use Rattle.adx_json.proofs.text.text_at.Goals as goal

pub returns-in-Some-clause-found : goal.returns-in-Some-clause-found
returns-in-Some-clause-found c =
    let bytes = c.args.bytes.now in
    let run = c.unescaped_run.result.0.now in
    let behind = c.unescaped_run.result.1.now in
    let cut = c.unescaped_run.ensures in
    subst (λ t. FoundText bytes t c.in-Some.rest.now) (sym c.in_ok-ascii_text.ensures) (one_run bytes run behind c.in-Some.rest.now cut.whole c.in-Some.ensures cut.bare cut.ascii)
