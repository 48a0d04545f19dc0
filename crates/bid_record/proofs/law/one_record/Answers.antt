use Rattle.bid_record.proofs.ReadLines.{same_records}
use Rattle.bid_record.proofs.law.one_record.Goals as goal

pub returns : goal.returns
returns c = same_records
