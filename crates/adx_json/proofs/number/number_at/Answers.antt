use Rattle.std.proofs.Common.{◌-◌, length, refl, sym, ◌∙◌}
use Rattle.adx_json.proofs.Scans.{scan_found, scan_refused, cut_before}
use Rattle.adx_json.proofs.number.number_at.Goals as goal

pub returns-then-not-may_end-clause-stops : goal.returns-then-not-may_end-clause-stops
returns-then-not-may_end-clause-stops c fs =
    scan_refused c.args.bytes.now c.scanned-numeral.result.0 c.scanned-numeral.result.1.now c.scanned-numeral.ensures (sym c.may_end.ensures ∙ c.if-not-may_end.true) fs

pub returns-clause-found : goal.returns-clause-found
returns-clause-found c =
    let s = c.scanned-numeral.ensures in
    let left = c.scanned-numeral.result.1.now in
    let cut = cut_before c.args.bytes.now s.number left (length c.args.bytes.now - length left) s.whole refl in
    let text = c.in_ok-ascii_text.ensures ∙ c.split_at.ensures.front ∙ cut.0 in
    let rest = c.split_at.ensures.back ∙ cut.1 in
    rw (text, rest) (scan_found c.args.bytes.now c.scanned-numeral.result.0 left s (sym c.may_end.ensures ∙ c.if-not-may_end.false))
