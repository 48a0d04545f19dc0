-- The connections that the texts ask for.
use Rattle.std.proofs.Common.{◌∙◌}
use Rattle.command_words.proofs.NetworkRows.{same_four}
use Rattle.command_words.proofs.network_reading.serve_asked.Goals as goal

pub returns-clause-read : goal.returns-clause-read
returns-clause-read c =
    c.served.ensures.read
    ∙ same_four _ _ _ _ _ _ _ _ c.in_ok-roster.ensures c.in_ok-journal.ensures c.port_found-port.ensures c.workers_found-workers.ensures.value
