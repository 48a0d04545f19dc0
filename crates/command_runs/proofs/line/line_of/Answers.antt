use Rattle.std.proofs.Common.{◌≡◌, ℕ, List, [], ◌∷◌, ◌++◌, inl, sym, ◌∙◌}
use Rattle.std.proofs.lemmas.List.{append_assoc}
use Rattle.adx_io.specs.Lines.{HasNoNewline}
use Rattle.command_runs.specs.FirstLines.{IsFirstLine}
use Rattle.command_runs.proofs.line.line_of.Goals as goal

cut : (document line rest : List ℕ) → document ≡ line ++ 10 ∷ rest → HasNoNewline line → IsFirstLine document line
cut document line rest is one = (one, (rest, is ∙ sym (append_assoc line (10 ∷ []) rest)))

pub returns-then-line-gt-LINE_LIMIT-clause-none : goal.returns-then-line-gt-LINE_LIMIT-clause-none
returns-then-line-gt-LINE_LIMIT-clause-none c =
    let found = c.in-Some.ensures in
    inl (c.in-Some.line.now, cut c.args.document.now c.in-Some.line.now c.in-Some.field-0-1.now found.0 found.1, c.if-line-gt-LINE_LIMIT.true)

pub returns-else-line-gt-LINE_LIMIT-clause-found : goal.returns-else-line-gt-LINE_LIMIT-clause-found
returns-else-line-gt-LINE_LIMIT-clause-found c =
    let found = c.in-Some.ensures in
    (cut c.args.document.now c.in-Some.line.now c.in-Some.field-0-1.now found.0 found.1, c.if-line-gt-LINE_LIMIT.false)
