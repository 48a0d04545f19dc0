-- The days that the texts ask for.
use Rattle.std.proofs.Common.{◌∙◌}
use Rattle.command_words.proofs.Rows.{same_five}
use Rattle.command_words.proofs.reading.archive_listed.Goals as goal

pub returns-clause-read : goal.returns-clause-read
returns-clause-read c =
    c.days_listed.ensures.read
    ∙ same_five _ _ _ _ _ _ _ _ _ _ c.in_ok-archive.ensures c.in_ok-seat.ensures c.in_ok-cid.ensures c.in_ok-first.ensures c.in_ok-last.ensures
