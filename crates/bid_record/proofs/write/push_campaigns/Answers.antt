use Rattle.std.proofs.Common.{ℕ, ◌+◌, ◌++◌, List, [], map, take, get_or, ap, ◌∙◌, None}
use Rattle.std.specs.List.{flat_map, enumerate_from}
use Rattle.std.specs.String.{string_bytes}
use Rattle.adx_units.specs.Money.{units}
use Rattle.bid_record.specs.declared.rows.CampaignRow.{CampaignRow}
use Rattle.formats.specs.Parts.{ended}
use Rattle.bid_record.specs.Lines.{campaign_line}
use Rattle.formats.proofs.NumberedLines.{numbered_more, numbered_all, joined, at_default}
use Rattle.bid_record.proofs.write.push_campaigns.Goals as goal

no_row : CampaignRow
no_row = record { seat = []; cid = []; budget = units 0; changes = None }

pub loop-i-preserved : goal.loop-i-preserved
loop-i-preserved c =
    let xs : List CampaignRow = c.args.campaigns.now in
    let pieces : ℕ → List ℕ = λ n. flat_map ended (map campaign_line (take n (enumerate_from 0 xs))) in
    joined (string_bytes c.args.out.now) (string_bytes c.loop-i.out) (string_bytes c.push_campaign.new.out) (pieces c.loop-i.i) (ended (campaign_line (c.loop-i.i, get_or xs c.loop-i.i no_row))) (pieces (c.loop-i.i + 1))
    (c.in_ok-push_campaign.ensures ∙ ap (λ (row : CampaignRow). string_bytes c.loop-i.out ++ ended (campaign_line (c.loop-i.i, row))) (at_default xs c.loop-i.i c.index-campaigns-i.result no_row c.loop-i-test.true c.index-campaigns-i.is))
    c.loop-i.invariant
    (numbered_more ended campaign_line xs c.loop-i.i no_row c.loop-i-test.true)

pub returns : goal.returns
returns c =
    let xs : List CampaignRow = c.args.campaigns.now in
    c.loop-i.invariant ∙ ap (λ (t : List ℕ). string_bytes c.args.out.now ++ t) (numbered_all ended campaign_line xs c.loop-i.i c.loop-i-test.false)
