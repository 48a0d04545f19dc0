-- Private, cited by helpers alone: what a history sold, as it is gathered entry by entry.
use Rattle.std.specs.Prelude.{ℕ, List, [], ◌∷◌, length, Bool, ◌&&◌, ◌==◌, if◌then◌else◌, Option, None, slice_get, option_map, option_and_then}
use Rattle.std.specs.List.{enumerate_from, flat_map, range_with_len}
use Rattle.std.specs.Option.{option_map_or}
use Rattle.adx_units.specs.declared.offer.Offer.{Offer}
use Rattle.allocator_core.specs.declared.reason.TheConstants.{AWARDED}
use Rattle.command_reconcile.specs.declared.bill.Bill.{Bill}
use Rattle.command_reconcile.specs.DayBills.{billed_award, is_of_bidder}
use Rattle.command_reconcile.specs.declared.day_bills.Sale.{Sale}
use Rattle.day_rules.specs.Books.{ask_at}
use Rattle.day_rules.specs.Entries.{asked}
use Rattle.day_rules.specs.declared.ask.Ask.{Ask}
use Rattle.day_rules.specs.declared.entry.Entry.{Entry}
use Rattle.deal_floor.specs.declared.campaign.Campaign.{Campaign}
use Rattle.notice_book.specs.declared.award.Award.{Award}

-- the offer was awarded for the impression
abbrev pub is_sold : ℕ → Offer → Bool
is_sold imp o = o.reason == AWARDED && o.imp == imp

abbrev pub sale_by : ℕ → Offer → Sale
sale_by place o = record { ask = place; campaign = o.campaign; charge = o.charge }

-- what an offer of the ask at a place sold for an impression, what all its offers did, and what the ask did
abbrev pub sold_at : ℕ → ℕ → Offer → List Sale
sold_at place imp o = if is_sold imp o then sale_by place o ∷ [] else []

abbrev pub sold_for : ℕ → List Offer → ℕ → List Sale
sold_for place offers imp = flat_map (sold_at place imp) offers

abbrev pub sold_of : ℕ → Ask → List Sale
sold_of place a = flat_map (sold_for place a.offers) (range_with_len 0 (length a.imps))

-- what the entry at a place sold, and what a history did
abbrev pub sold_by : ℕ × Entry → List Sale
sold_by p = option_map_or (sold_of p.0) (asked p.1) []

abbrev pub sold : List Entry → List Sale
sold history = flat_map sold_by (enumerate_from 0 history)

-- what an award sold
abbrev pub sale_of : Award → Sale
sale_of w = record { ask = w.ask; campaign = w.campaign; charge = w.charge }

-- the bill of what was sold, where a campaign of that bidder owes it
abbrev pub owed_sale : List Campaign → ℕ → List Entry → Sale → Option Bill
owed_sale campaigns bidder history s =
    if is_of_bidder campaigns bidder s.campaign
    then option_map (λ (a : Ask). record { auction = a.auction; price = s.charge }) (ask_at history s.ask)
    else None

-- the bill that an entry records, by what was sold
abbrev pub sale_bill : List Campaign → ℕ → List Entry → List Sale → Entry → Option Bill
sale_bill campaigns bidder history sales e =
    option_and_then (owed_sale campaigns bidder history) (option_and_then (slice_get sales) (billed_award e))
