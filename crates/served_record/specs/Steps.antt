-- Private, cited by helpers alone: the rows of a record one after another, and the awards and campaigns of a history entry
-- by entry.
use Rattle.std.specs.Prelude.{ℕ, ◌+◌, ◌≤◌, ◌<◌, ◌^◌, List, [], ◌∷◌, ◌++◌, length, find, map, All, Some, Bool, ◌&&◌, ◌==◌, if◌then◌else◌, Option, is_some, option_map, option_and_then, slice_get}
use Rattle.std.specs.Option.{ForSome}
use Rattle.std.specs.List.{cons_option, flat_map, range_with_len, sum_by}
use Rattle.adx_units.specs.Changed.{changed_at}
use Rattle.adx_units.specs.declared.offer.Offer.{Offer}
use Rattle.adx_units.specs.declared.units.Units.{Units}
use Rattle.campaign_book.specs.Accounts.{IsBudget}
use Rattle.deal_floor.specs.declared.campaign.Campaign.{Campaign}
use Rattle.allocator_core.specs.declared.reason.TheConstants.{AWARDED}
use Rattle.notice_book.specs.AwardList.{Counts, expired_by, noticed}
use Rattle.notice_book.specs.declared.award.Award.{Award}
use Rattle.notice_book.specs.declared.kind.NoticeKind.{NoticeKind}
use Rattle.day_rules.specs.declared.ask.Ask.{Ask}
use Rattle.day_rules.specs.declared.entry.Entry.{Entry}
use Rattle.day_rules.specs.Books.{award_of, sale_of}
use Rattle.day_rules.specs.Entries.{asked}
use Rattle.bid_record.specs.Records.{IsImpName}
use Rattle.bid_record.specs.declared.rows.CampaignRow.{CampaignRow}
use Rattle.bid_record.specs.declared.rows.End.{End}
use Rattle.bid_record.specs.declared.rows.ImpRow.{ImpRow}
use Rattle.served_record.specs.Served.{chosen_of, end_told, impression_of, name_of}

-- how award n ended
abbrev pub end_at : List Award → ℕ → Option End
end_at awards n = option_map (λ (w : Award). end_told w.end) (slice_get awards n)

-- the row of an ask's impression, whose chosen offer is award n
abbrev pub row_by : List Award → ℕ → Ask → ℕ → ImpRow
row_by awards n a imp = record {
  name = name_of a imp;
  offers = impression_of a imp;
  chosen = chosen_of a imp;
  end = option_and_then (λ place. end_at awards n) (chosen_of a imp);
}

-- how many offers were chosen for an impression
abbrev pub sold_for : Ask → ℕ → ℕ
sold_for a imp = if is_some (chosen_of a imp) then 1 else 0

-- the rows of some impressions of an ask, whose first chosen offer is award n
abbrev pub rows_for : List Award → ℕ → Ask → List ℕ → List ImpRow
rows_for awards n a [] = []
rows_for awards n a (imp ∷ imps) = row_by awards n a imp ∷ rows_for awards (n + sold_for a imp) a imps

-- how many offers were chosen for some impressions of an ask
abbrev pub sold_of : Ask → List ℕ → ℕ
sold_of a imps = sum_by (sold_for a) imps

abbrev pub imps_of : Ask → List ℕ
imps_of a = range_with_len 0 (length a.imps)

-- how many offers an entry's ask has chosen
abbrev pub sold_by : Entry → ℕ
sold_by (Entry.Ask a) = sold_of a (imps_of a)
sold_by (Entry.Win n) = 0
sold_by (Entry.Bill n) = 0
sold_by (Entry.Loss n) = 0
sold_by (Entry.Expire now) = 0
sold_by (Entry.Budget campaign change budget) = 0

abbrev pub rows_by : List Award → ℕ → Entry → List ImpRow
rows_by awards n (Entry.Ask a) = rows_for awards n a (imps_of a)
rows_by awards n (Entry.Win m) = []
rows_by awards n (Entry.Bill m) = []
rows_by awards n (Entry.Loss m) = []
rows_by awards n (Entry.Expire now) = []
rows_by awards n (Entry.Budget campaign change budget) = []

-- the rows of entries, whose first chosen offer is award n
abbrev pub rows_in : List Award → ℕ → List Entry → List ImpRow
rows_in awards n [] = []
rows_in awards n (e ∷ es) = rows_by awards n e ++ rows_in awards (n + sold_by e) es

abbrev pub sold_in : List Entry → ℕ
sold_in es = sum_by sold_by es

-- an ask has at most 1,024 offers
abbrev pub AsksFew : Entry → Type 0
AsksFew e = ForSome (asked e) (λ a. length a.offers ≤ 1024)

-- the row has a name, which is one
abbrev pub IsNamed : ImpRow → Type 0
IsNamed row = ForSome row.name IsImpName

-- the offer was awarded for the impression
abbrev pub is_award : ℕ → Offer → Bool
is_award imp o = o.reason == AWARDED && o.imp == imp

-- the award of an ask's impression, if it has one
abbrev pub award_for : ℕ → Ask → ℕ → Option Award
award_for place a imp = option_map (λ o. award_of place (sale_of a o)) (find (is_award imp) a.offers)

abbrev pub awards_for : ℕ → Ask → List ℕ → List Award
awards_for place a imps = flat_map (λ imp. cons_option (award_for place a imp) []) imps

-- the awards after an entry at a place
abbrev pub awards_after : ℕ → Entry → List Award → List Award
awards_after place (Entry.Ask a) awards = awards ++ awards_for place a (imps_of a)
awards_after place (Entry.Win n) awards = noticed NoticeKind.Win n awards
awards_after place (Entry.Bill n) awards = noticed NoticeKind.Bill n awards
awards_after place (Entry.Loss n) awards = noticed NoticeKind.Loss n awards
awards_after place (Entry.Expire now) awards = expired_by now awards
awards_after place (Entry.Budget campaign change budget) awards = awards

-- the ask's moment and numbers fit
pub record AskFits (awards : List Award) (a : Ask) : Type 0 where
  pub now : a.now < 2 ^ 63
  pub few : length awards + length a.imps < 2 ^ 32

-- the entry may follow these awards
abbrev pub Fits : List Award → Entry → Type 0
Fits awards (Entry.Ask a) = AskFits awards a
Fits awards (Entry.Win n) = Counts NoticeKind.Win n awards
Fits awards (Entry.Bill n) = Counts NoticeKind.Bill n awards
Fits awards (Entry.Loss n) = Counts NoticeKind.Loss n awards
Fits awards (Entry.Expire now) = Unit {0}
Fits awards (Entry.Budget campaign change budget) = Unit {0}

-- a campaign of a roster before any change
abbrev pub opened_row : Campaign → CampaignRow
opened_row c = record { seat = c.seat; cid = c.cid; budget = c.budget; changes = Some 0 }

abbrev pub opened_rows : List Campaign → List CampaignRow
opened_rows campaigns = map opened_row campaigns

-- a campaign after a change of its budget
abbrev pub rebudgeted : Units → CampaignRow → CampaignRow
rebudgeted budget row = record row { budget = budget; changes = option_map (λ n. n + 1) row.changes }

-- the campaigns after an entry
abbrev pub rows_after : Entry → List CampaignRow → List CampaignRow
rows_after (Entry.Ask a) rows = rows
rows_after (Entry.Win n) rows = rows
rows_after (Entry.Bill n) rows = rows
rows_after (Entry.Loss n) rows = rows
rows_after (Entry.Expire now) rows = rows
rows_after (Entry.Budget campaign change budget) rows = changed_at (rebudgeted budget) campaign rows

-- there is room in the count for one change more
abbrev pub MayChange : CampaignRow → Type 0
MayChange row = ForSome row.changes (λ n. n + 1 < 2 ^ 32)

-- a change may come after these campaigns
pub record IsChange (rows : List CampaignRow) (campaign : ℕ) (budget : Units) : Type 0 where
  pub known : campaign < length rows
  pub budget_is : IsBudget budget
  pub few : All MayChange rows

-- the entry may come after these campaigns
abbrev pub MayCome : List CampaignRow → Entry → Type 0
MayCome rows (Entry.Ask a) = Unit {0}
MayCome rows (Entry.Win n) = Unit {0}
MayCome rows (Entry.Bill n) = Unit {0}
MayCome rows (Entry.Loss n) = Unit {0}
MayCome rows (Entry.Expire now) = Unit {0}
MayCome rows (Entry.Budget campaign change budget) = IsChange rows campaign budget
