use Rattle.std.proofs.Common.{Some, None, subst, ◌≡◌, List, ℕ}
use Rattle.memchr.specs.Find.{IsFirstByte, is_byte}
use Rattle.notice_macros.proofs.Cuts.{cut_before, cut_behind, cut_parts, no_byte}
use Rattle.notice_macros.proofs.template.cut_at.Goals as goal

found : (m at : ℕ) (text bytes : List ℕ) → bytes ≡ text → IsFirstByte (is_byte m) bytes (Some at) → IsFirstByte (is_byte m) text (Some at)
found m at text bytes same h = subst (λ s. IsFirstByte (is_byte m) s (Some at)) same h

pub range-requires-clause-end_boundary : goal.range-requires-clause-end_boundary
range-requires-clause-end_boundary c =
    cut_before c.args.mark c.args.text.now c.in_ok-at.at c.requires (found _ _ _ _ c.as_bytes.ensures.value (c.in_ok-at.ensures {u = tt}))

pub range_from-requires : goal.range_from-requires
range_from-requires c _ =
    cut_behind c.args.mark c.args.text.now c.in_ok-at.at c.requires c.utf8.text (found _ _ _ _ c.as_bytes.ensures.value (c.in_ok-at.ensures {u = tt}))

pub returns-in_err-at : goal.returns-in_err-at
returns-in_err-at c =
    let none = no_byte c.args.mark c.args.text.now (subst (λ s. IsFirstByte (is_byte c.args.mark) s None) c.as_bytes.ensures.value (c.in_err-at.ensures {u = tt})) in
    rw c.from_residual.ensures none

pub returns : goal.returns
returns c =
    cut_parts c.args.mark c.args.text.now c.range.result.now c.range_from.result.now c.in_ok-at.at (found _ _ _ _ c.as_bytes.ensures.value (c.in_ok-at.ensures {u = tt})) c.range.ensures.value c.range_from.ensures.value
