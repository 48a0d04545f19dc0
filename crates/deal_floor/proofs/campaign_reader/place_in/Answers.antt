use Rattle.std.proofs.Common.{sym, ap, ◌∙◌}
use Rattle.deal_floor.specs.Forms.{place_by_name}
use Rattle.deal_floor.proofs.BidderSteps.{names}
use Rattle.deal_floor.proofs.CampaignSteps.{place_is}
use Rattle.deal_floor.proofs.campaign_reader.place_in.Goals as goal

pub returns-in-Some-clause-place : goal.returns-in-Some-clause-place
returns-in-Some-clause-place c =
    c.place_of_name.ensures.place ∙ sym (place_is c.args.bidders.now c.in-Some.name.now) ∙ ap (place_by_name (names c.args.bidders.now)) c.in-Some.ensures
