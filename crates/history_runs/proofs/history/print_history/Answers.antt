-- What was printed was put, or a prefix of it.
use Rattle.history_runs.proofs.Printed.{printed_part, printed_whole}
use Rattle.history_runs.proofs.history.print_history.Goals as goal

pub returns-in-Ok-clause-puts : goal.returns-in-Ok-clause-puts
returns-in-Ok-clause-puts g c = printed_whole g.P.Print.prints c.args.roster.now c.args.entries.now _ _ c.in-Ok.ensures.printed

pub returns-in-Err-clause-puts : goal.returns-in-Err-clause-puts
returns-in-Err-clause-puts g c = printed_part g.P.Print.prints c.args.roster.now c.args.entries.now _ _ c.in-Err.stop c.in-Err.ensures.printed
