-- What a roster opens. This project's own.
use Rattle.std.specs.Prelude.{map}
use Rattle.day_rules.specs.Terms.{terms_of}
use Rattle.deal_floor.specs.declared.campaign.Campaign.{Campaign}
use Rattle.deal_floor.specs.declared.roster.Roster.{Roster}
use Rattle.adx_desk.specs.Histories.{DeskTerms}

-- what the desk of a roster is opened with
abbrev pub desk_terms : Roster → DeskTerms
desk_terms r = record {
  day = terms_of (map (λ (c : Campaign). c.budget) r.campaigns) (record { auctions = r.limits.auctions; bids = r.limits.bids; text = r.limits.text });
  digest = r.digest;
}
