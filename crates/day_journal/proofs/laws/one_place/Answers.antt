use Rattle.day_journal.proofs.Apart.{one_bad, one_no_head}
use Rattle.day_journal.proofs.laws.one_place.Goals as goal

pub returns : goal.returns
returns c = record { bad_length = one_bad; no_head = one_no_head }
