use Rattle.std.proofs.Common.{refl}
use Rattle.bid_record.proofs.ReadLines.{found_at}
use Rattle.bid_record.proofs.read.whole.Goals as goal

pub returns : goal.returns
returns c = found_at c.args.bytes.now _ c.args.rest.now _ c.args.rows.campaigns.items c.args.rows.imps.items c.requires c.from.ensures c.from-2.ensures refl
