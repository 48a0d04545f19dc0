use Rattle.std.proofs.Common.{sym, ◌∙◌}
use Rattle.adx_json.proofs.Scans.{scan_more}
use Rattle.adx_json.proofs.number.scanned.Goals as goal

pub bytes-preserved : goal.bytes-preserved
bytes-preserved c =
    scan_more c.args.bytes.now c.bytes.numeral c.in-Some-next.next c.bytes.left.now c.in-Some.byte.now c.in-Some.rest.now c.bytes.invariant c.in-Some.ensures.cases.0 (sym c.next.ensures ∙ c.in-Some-next.is)
