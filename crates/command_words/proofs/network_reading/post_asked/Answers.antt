-- The notices that the texts ask for.
use Rattle.std.proofs.Common.{◌∙◌, ap₂}
use Rattle.command_words.specs.NetworkTaken.{post_with}
use Rattle.command_words.proofs.network_reading.post_asked.Goals as goal

pub returns-clause-read : goal.returns-clause-read
returns-clause-read c = c.posted.ensures.read ∙ ap₂ post_with c.in_ok-roster.ensures c.in_ok-journal.ensures
