-- The bills that the texts ask for.
use Rattle.std.proofs.Common.{◌∙◌, ap₂}
use Rattle.command_words.specs.Taken.{reconcile_with}
use Rattle.command_words.proofs.reading.reconcile_asked.Goals as goal

pub returns-clause-read : goal.returns-clause-read
returns-clause-read c = c.reconciled.ensures.read ∙ ap₂ reconcile_with c.in_ok-journal.ensures c.in_ok-bidder.ensures
