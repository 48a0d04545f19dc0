-- Private, cited by the sales of a day alone: the awards that an impression, or an ask, makes.
use Rattle.std.specs.Prelude.{◌≡◌, ℕ, ◌+◌, ◌<◌, List, map}
use Rattle.std.specs.List.{flat_map, range_with_len}
use Rattle.adx_units.specs.declared.offer.Offer.{Offer}
use Rattle.allocator_core.specs.declared.reason.TheConstants.{AWARDED}
use Rattle.notice_book.specs.declared.award.Award.{Award}
use Rattle.day_rules.specs.declared.ask.Ask.{Ask}
use Rattle.day_rules.specs.Books.{Sale, award_of, awarded_offers, sales_of}

abbrev pub sold_at : ℕ → Offer → Sale
sold_at now o = record { campaign = o.campaign; charge = o.charge.0; deadline = now + o.life }

-- the awards of an impression, of the ask at a place, at its moment
abbrev pub imp_awards : ℕ → ℕ → List Offer → ℕ → List Award
imp_awards place now offers imp = map (λ o. award_of place (sold_at now o)) (awarded_offers offers imp)

-- the awards of the first impressions
abbrev pub awards_below : ℕ → ℕ → List Offer → ℕ → List Award
awards_below place now offers imps = flat_map (imp_awards place now offers) (range_with_len 0 imps)

abbrev pub ask_awards : ℕ → Ask → List Award
ask_awards place a = map (award_of place) (sales_of a)

-- an awarded offer is of one of the campaigns
abbrev pub IsSoldTo : ℕ → Offer → Type 0
IsSoldTo campaigns o = o.reason ≡ AWARDED → o.campaign < campaigns
