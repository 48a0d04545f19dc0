use Rattle.std.proofs.Common.{sym, ap, ◌∙◌, length, List, ℕ, Some, arith}
use Rattle.bid_record.proofs.Texts.{named_none, named_some}
use Rattle.bid_record.proofs.text.named.Goals as goal

pub returns-in_default : goal.returns-in_default
returns-in_default c = named_none c.args.bytes.now c.in_default.ensures.cases.0

pub returns-in-Ok-Some : goal.returns-in-Ok-Some
returns-in-Ok-Some c =
    let text = c.in-Ok.ensures.cases in
    let is = rw c.in-Ok-Some.field-0-is at c.in-Ok-Some.ensures.some in
    let sized = rw c.in-Ok-Some.field-0-is at c.in-Ok-Some.ensures.sized in
    let len = ap (λ (s : List ℕ). length s) text.0 in
    named_some c.args.bytes.now text.1 (omega (arith, len, sized.0)) (omega (arith, len, sized.1)) ∙ ap Some (sym (is ∙ text.0))
