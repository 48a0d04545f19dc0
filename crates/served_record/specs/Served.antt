-- The record of a day that was served, by its history: all that was admitted for each impression, the offers that
-- were awarded, and how each award ended. The impressions are those of the hindsight problem of Mehta, Saberi,
-- Vazirani and Vazirani, "AdWords and Generalized Online Matching", JACM 2007; the rest is this project's own.
use Rattle.std.specs.Prelude.{◌≡◌, ℕ, min, List, [], map, length, filter, Bool, ◌&&◌, ◌==◌, Option, Some, None, is_some, position, slice_index_or}
use Rattle.std.specs.List.{enumerate_from, flat_map, range_with_len, sum_by}
use Rattle.std.specs.Option.{option_map_or}
use Rattle.adx_units.specs.declared.offer.Offer.{Offer}
use Rattle.deal_floor.specs.declared.campaign.Campaign.{Campaign}
use Rattle.allocator_core.specs.declared.reason.TheConstants.{AWARDED}
use Rattle.notice_book.specs.declared.award.End.{End as AwardEnd}
use Rattle.day_rules.specs.declared.ask.Ask.{Ask}
use Rattle.day_rules.specs.declared.entry.Entry.{Entry}
use Rattle.day_rules.specs.Asks.{is_decided}
use Rattle.day_rules.specs.Books.{awards_of, committed}
use Rattle.day_rules.specs.Entries.{asked}
use Rattle.bid_record.specs.declared.record.Record.{Record}
use Rattle.bid_record.specs.declared.rows.CampaignRow.{CampaignRow}
use Rattle.bid_record.specs.declared.rows.Charge.{Charge}
use Rattle.bid_record.specs.declared.rows.End.{End}
use Rattle.bid_record.specs.declared.rows.End.TheVariants.{Live, Billed, Lost, Expired}
use Rattle.bid_record.specs.declared.rows.ImpName.{ImpName}
use Rattle.bid_record.specs.declared.rows.ImpRow.{ImpRow}
use Rattle.dual_cert.specs.Assignments.{Assignment, Impression, assigned, impressions}
use Rattle.day_close.specs.Closing.{money_in}
use Rattle.served_record.specs.Days.{campaign_rows}

-- the offer was admitted for that impression: it was awarded, it lost to another, or its budget didn't hold it
abbrev pub is_admitted : ℕ → Offer → Bool
is_admitted imp o = is_decided o.reason && o.imp == imp

-- all offers that were admitted for an impression, in the order of the ask's bids
abbrev pub admitted : ℕ → List Offer → List Offer
admitted imp offers = filter (is_admitted imp) offers

-- what an offer charges, and whom
abbrev pub charge_of : Offer → Charge
charge_of o = record { campaign = o.campaign; charge = o.charge }

-- an ask's impression is all that was admitted for it
abbrev pub impression_of : Ask → ℕ → Impression
impression_of a imp = map charge_of (admitted imp a.offers)

-- the offer won
abbrev pub is_awarded : Offer → Bool
is_awarded o = o.reason == AWARDED

-- the place of the awarded offer among those that were admitted for the impression
abbrev pub chosen_of : Ask → ℕ → Option ℕ
chosen_of a imp = position is_awarded (admitted imp a.offers)

-- the auction's id and the impression's
abbrev pub name_of : Ask → ℕ → Option ImpName
name_of a imp = Some (record { auction = a.auction; imp = slice_index_or a.imps imp [] })

-- what each impression of an ask has, in their order
abbrev pub each_of : {X : Type 0} → (Ask → ℕ → X) → Ask → List X
each_of f a = map (f a) (range_with_len 0 (length a.imps))

-- what each impression of each ask of a history has, in the order of asks and then of impressions
abbrev pub each_in : {X : Type 0} → (Ask → ℕ → X) → List Entry → List X
each_in f history = flat_map (λ e. option_map_or (each_of f) (asked e) []) history

-- the impressions of a history
abbrev pub impressions_in : List Entry → List Impression
impressions_in history = each_in impression_of history

-- how a record says the end of an award: an award without an end is live
-- Example: of four impressions with chosen places 0, none, 1, 0 the ends `billed`, `-`, `expired`, `live` are
-- those of awards 0, 1 and 2
abbrev pub end_told : Option AwardEnd → End
end_told None = Live
end_told (Some AwardEnd.Billed) = Billed
end_told (Some AwardEnd.Lost) = Lost
end_told (Some AwardEnd.Expired) = Expired

-- an offer of the impression won
abbrev pub has_chosen : ImpRow → Bool
has_chosen row = is_some row.chosen

-- the ends of the chosen offers, in the order of the rows
abbrev pub ends_of : List ImpRow → List (Option End)
ends_of rows = map (λ (row : ImpRow). row.end) (filter has_chosen rows)

-- the record is that of a day with these campaigns of a roster and this history
pub record IsRecordOf (day : List ℕ) (campaigns : List Campaign) (history : List Entry) (r : Record) : Type 0 where
  pub format : r.format ≡ 2
  pub day_is : r.day ≡ day
  -- with the budgets at the end of the history, and how often each changed
  pub campaigns_are : r.campaigns ≡ campaign_rows campaigns history
  pub names : map (λ (row : ImpRow). row.name) r.imps ≡ each_in name_of history
  pub impressions_are : impressions r ≡ impressions_in history
  pub chosen : map (λ (row : ImpRow). row.chosen) r.imps ≡ each_in chosen_of history
  -- the n-th chosen offer, from 0, is award n, and has its end
  pub ends : ends_of r.imps ≡ map (λ w. Some (end_told w.end)) (awards_of history)
  -- what the awards of the record take from a campaign is its committed money
  pub money : (campaign : ℕ) → money_in r.imps campaign ≡ committed history campaign

-- what an assignment of a history's impressions earns: for each campaign the lesser of its budget at the end and its charges
abbrev pub earned_in : Assignment → List Campaign → List Entry → ℕ
earned_in picks campaigns history =
    sum_by (λ (p : ℕ × CampaignRow). min p.1.budget.0 (assigned picks (impressions_in history) p.0)) (enumerate_from 0 (campaign_rows campaigns history))
