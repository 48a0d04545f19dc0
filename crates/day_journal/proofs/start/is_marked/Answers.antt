-- By what comes after the first byte.
use Rattle.std.proofs.Common.{sym, ◌∙◌}
use Rattle.std.proofs.lemmas.Bool.{false≢true}
use Rattle.day_journal.proofs.Starts.{marked_2, marked_else}
use Rattle.day_journal.proofs.start.is_marked.Goals as goal

pub returns-else-old : goal.returns-else-old
returns-else-old c = (
  λ yes. marked_2 c.args.first.now (c.has_behind-new.ensures.0 yes),
  λ is. c.has_behind-new.ensures.1 (marked_else c.args.first.now (λ old. false≢true (sym c.if-old.false ∙ c.has_behind-old.ensures.1 old)) is),
)
