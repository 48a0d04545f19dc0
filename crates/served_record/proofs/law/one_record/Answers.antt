use Rattle.served_record.proofs.OneRecord.{same_records}
use Rattle.served_record.proofs.law.one_record.Goals as goal

pub returns : goal.returns
returns c = same_records
