use Rattle.day_rules.proofs.Running.{run_legal}
use Rattle.day_rules.proofs.laws.runs_stay_legal.Goals as goal

pub returns : goal.returns
returns c = run_legal
