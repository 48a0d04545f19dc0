use Rattle.day_journal.proofs.Once.{one_format, stands_once}
use Rattle.day_journal.proofs.laws.stands_once.Goals as goal

pub returns : goal.returns
returns c = record { payloads = stands_once; format = λ format other file first rest others. one_format format other file first rest others }
