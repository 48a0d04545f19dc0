use Rattle.day_rules.proofs.Running.{plain_books_hold}
use Rattle.day_rules.proofs.laws.calls_taken_once.Goals as goal

pub returns : goal.returns
returns c = plain_books_hold
