-- The line was put, or a prefix of it.
use Rattle.std.proofs.Common.{◌∙◌, ◌++◌, ℕ, List, ap}
use Rattle.ratio_law.specs.Line.{ratio_line}
use Rattle.history_runs.proofs.Putting.{puts_out}
use Rattle.command_close.proofs.measuring.put_line.Goals as goal

pub returns-in-Ok-clause-puts : goal.returns-in-Ok-clause-puts
returns-in-Ok-clause-puts g c =
    let line = ratio_line c.args.numbers.now in
    puts_out _ _ line c.put_out.result (c.in-Ok.ensures ∙ ap (λ (out : List ℕ). out ++ line) c.requires.unwritten) c.put_out.ensures.all c.put_out.ensures.fault c.put_out.ensures.front
