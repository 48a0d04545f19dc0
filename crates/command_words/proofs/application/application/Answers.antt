-- One row more.
use Rattle.command_words.proofs.Builds.{next_row}
use Rattle.command_words.proofs.application.application.Goals as goal

pub loop-row-preserved : goal.loop-row-preserved
loop-row-preserved c =
    next_row c.loop-row.program c.in_ok-command_of_row.field-0 c.in_ok-program.program c.rows-row-items.result.now c.loop-row.row-index _ c.loop-row-test.true c.loop-row.invariant
    c.in_ok-command_of_row.ensures c.in_ok-program.ensures
