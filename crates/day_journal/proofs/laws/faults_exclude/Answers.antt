use Rattle.day_journal.proofs.Apart.{stands_or_bad, stands_or_no_head, bad_or_no_head}
use Rattle.day_journal.proofs.laws.faults_exclude.Goals as goal

pub returns : goal.returns
returns c = record { bad_length = stands_or_bad; no_head = stands_or_no_head; both = bad_or_no_head }
