-- The campaigns after the entries so far.
use Rattle.std.proofs.Common.{◌≡◌, take}
use Rattle.std.specs.List.{All}
use Rattle.bid_record.specs.Records.{IsCampaign}
use Rattle.served_record.specs.Days.{campaign_rows}
use Rattle.served_record.proofs.heading.campaign_rows.Given as goal

abbrev pub invariant-loop-entry : goal.invariant-loop-entry
invariant-loop-entry l = record {
  rows : l.rows.items ≡ campaign_rows l.campaigns (take l.entry-index l.entries);
  sound : All (IsCampaign 2) l.rows.items;
}
