-- The bills of a day's history that the campaigns of one bidder owe. This project's own.
use Rattle.std.specs.Prelude.{ℕ, List, Bool, false, ◌==◌, if◌then◌else◌, Option, Some, None, position, slice_get, option_map, option_and_then}
use Rattle.std.specs.List.{filter_map}
use Rattle.std.specs.Option.{option_map_or}
use Rattle.std.specs.Str.{bytes_eq}
use Rattle.command_reconcile.specs.declared.bill.Bill.{Bill}
use Rattle.day_rules.specs.Books.{ask_at, made}
use Rattle.day_rules.specs.declared.ask.Ask.{Ask}
use Rattle.day_rules.specs.declared.entry.Entry.{Entry}
use Rattle.deal_floor.specs.declared.campaign.Campaign.{Campaign}
use Rattle.deal_floor.specs.declared.place.Place.{Place}
use Rattle.notice_book.specs.declared.award.Award.{Award}

-- the place of the bidder with that name among those of a roster
abbrev pub place_named : List ℕ → List Place → Option ℕ
place_named name bidders = position (λ (p : Place). bytes_eq p.name name) bidders

-- the campaign is that bidder's
abbrev pub is_of_bidder : List Campaign → ℕ → ℕ → Bool
is_of_bidder campaigns bidder campaign = option_map_or (λ (c : Campaign). c.bidder == bidder) (slice_get campaigns campaign) false

-- the award that an entry bills
abbrev pub billed_award : Entry → Option ℕ
billed_award (Entry.Ask a) = None
billed_award (Entry.Win n) = None
billed_award (Entry.Bill n) = Some n
billed_award (Entry.Loss n) = None
billed_award (Entry.Expire now) = None
billed_award (Entry.Budget campaign change budget) = None

-- the bill of an award: the id of its auction, and its charge
abbrev pub bill_of : List Entry → Award → Option Bill
bill_of history w = option_map (λ (a : Ask). record { auction = a.auction; price = w.charge }) (ask_at history w.ask)

-- the same where a campaign of that bidder owes it
abbrev pub owed_bill : List Campaign → ℕ → List Entry → Award → Option Bill
owed_bill campaigns bidder history w = if is_of_bidder campaigns bidder w.campaign then bill_of history w else None

-- the bill that an entry of a history records, where that bidder owes it
abbrev pub entry_bill : List Campaign → ℕ → List Entry → Entry → Option Bill
entry_bill campaigns bidder history e =
    option_and_then (owed_bill campaigns bidder history) (option_and_then (slice_get (made history)) (billed_award e))

-- the bills of a history that a bidder owes, in the order of their entries
abbrev pub day_bills : List Campaign → ℕ → List Entry → List Bill
day_bills campaigns bidder history = filter_map (entry_bill campaigns bidder history) history
