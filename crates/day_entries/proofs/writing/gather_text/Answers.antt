use Rattle.std.proofs.Common.{sym, ◌∙◌}
use Rattle.day_entries.proofs.Steps.{adds_text, adds_no_text}
use Rattle.day_entries.proofs.writing.gather_text.Goals as goal

pub returns-in_ok-gather-clause-ok : goal.returns-in_ok-gather-clause-ok
returns-in_ok-gather-clause-ok c = adds_text c.args.numbers _ _ _ c.args.text.now c.in_ok-gather_long.ensures.ok c.in_ok-gather.ensures.ok c.requires.utf8

pub returns-else-not-is_empty-clause-ok : goal.returns-else-not-is_empty-clause-ok
returns-else-not-is_empty-clause-ok c = adds_no_text c.args.numbers _ _ c.args.text.now c.in_ok-gather_long.ensures.ok (sym c.is_empty.ensures ∙ c.if-not-is_empty.false) c.requires.utf8
