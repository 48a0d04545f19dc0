-- The rows so far and those of the campaigns after are the rows of all.
use Rattle.std.proofs.Common.{◌≡◌, ◌++◌, drop}
use Rattle.std.specs.List.{All}
use Rattle.bid_record.specs.Records.{IsCampaign}
use Rattle.served_record.specs.Steps.{opened_rows}
use Rattle.served_record.proofs.heading.opened_rows.Given as goal

abbrev pub invariant-loop-campaign : goal.invariant-loop-campaign
invariant-loop-campaign l = record {
  rows : l.rows.items ++ opened_rows (drop l.campaign-index l.campaigns) ≡ opened_rows l.campaigns;
  sound : All (IsCampaign 2) l.rows.items;
}
