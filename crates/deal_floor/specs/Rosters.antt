-- The roster of a day: what its object has to be, and the roster that it is. A member that is null is there, and isn't of
-- its form. This project's own.
use Rattle.std.specs.Prelude.{◌≡◌, ℕ, List, [], ◌∷◌, map, length, Bool, not, nat_le, is_some, is_ok, codes, Option, Some, None}
use Rattle.std.specs.List.{list_all}
use Rattle.std.specs.Option.{unwrap_or}
use Rattle.adx_json.specs.Tree.{Tree, null, list, no_items, item}
use Rattle.adx_json.specs.FoundMembers.{member_within}
use Rattle.adx_json.specs.Rows.{Form, form, Row, row, test, test_whole, value_whole, within, depending, each, all_count, first_fault, Says}
use Rattle.adx_json.specs.Spelling.{spelling}
use Rattle.sha2.specs.Sha256.{sha256}
use Rattle.adx_json.specs.Values.{text_in, text_or_empty, items_in, texts_in, or_zero, is_text_if_given, is_list_if_given, is_object_if_given, are_texts_if_given}
use Rattle.rtb_request.specs.Amounts.{an_id, units_or_zero}
use Rattle.adx_units.specs.Among.{is_among}
use Rattle.deal_floor.specs.Forms.{is_date_text, text_or, is_whole_if_given, whole_or, is_path_if_given, budget_in, place_in}
use Rattle.deal_floor.specs.Pairs.{Pair, is_pair_among}
use Rattle.deal_floor.specs.declared.campaign.Campaign.{Campaign}
use Rattle.deal_floor.specs.declared.campaign.TheConstants.{MOST_CAMPAIGNS}
use Rattle.deal_floor.specs.declared.place.Place.{Place}
use Rattle.deal_floor.specs.declared.place.TheConstants.{MOST_BIDDERS, MOST_PORT}
use Rattle.deal_floor.specs.declared.roster.Roster.{Roster}
use Rattle.deal_floor.specs.declared.roster.TheConstants.{MOST_NOW}
use Rattle.deal_floor.specs.declared.limits.TheConstants.{MOST_AUCTIONS, MOST_BIDS, MOST_TEXT}
use Rattle.deal_floor.specs.declared.fault.RosterFault.{RosterFault}
use Rattle.deal_floor.specs.declared.fault.RosterFault.TheVariants.{BadField, Repeated, TooMany}
use Rattle.deal_floor.specs.declared.fault.Field.TheVariants as fields

-- a text, or another where it is absent
abbrev pub a_text_or : List ℕ → Form (List ℕ)
a_text_or absent = form is_text_if_given (text_or absent)

-- a whole number of at most a bound, or another where it is absent
abbrev pub a_whole_or : ℕ → ℕ → Form ℕ
a_whole_or absent most = form (is_whole_if_given most) (whole_or absent most)

-- the name of a bidder, empty if it is absent
abbrev pub name_in : Option Tree → List ℕ
name_in o = text_or_empty (member_within (codes "name") o)

-- what the object of a bidder after those with these names has to be, and where the bidder listens
abbrev pub bidder_rows : List (List ℕ) → List (Row Place RosterFault)
bidder_rows names =
    row member_within (codes "name") an_id (λ (p : Place). p.name) (BadField fields.BidderName)
    ∷ row member_within (codes "host") (a_text_or (codes "127.0.0.1")) (λ (p : Place). p.host) (BadField fields.BidderHost)
    ∷ row member_within (codes "port") (a_whole_or 80 MOST_PORT) (λ (p : Place). p.port) (BadField fields.BidderPort)
    ∷ row member_within (codes "path") (form is_path_if_given (text_or (codes "/"))) (λ (p : Place). p.path) (BadField fields.BidderPath)
    ∷ test_whole (λ o. not (is_among names (name_in o))) (λ o. Repeated (length names))
    ∷ []

-- the seat and the cid of a campaign, empty if absent
abbrev pub pair_in : Option Tree → Pair
pair_in o = (text_or_empty (member_within (codes "seat") o), text_or_empty (member_within (codes "cid") o))

-- what the object of a campaign after those with these pairs has to be, in a roster whose bidders have these names, and
-- the campaign that it is; its bidder is a place in the list
abbrev pub campaign_rows : List (List ℕ) → List Pair → List (Row Campaign RosterFault)
campaign_rows names pairs =
    row member_within (codes "bidder") (form (λ v. is_some (place_in names v)) (λ v. or_zero (place_in names v)))
    (λ (c : Campaign). c.bidder) (BadField fields.CampaignBidder)
    ∷ row member_within (codes "seat") an_id (λ (c : Campaign). c.seat) (BadField fields.CampaignSeat)
    ∷ row member_within (codes "cid") an_id (λ (c : Campaign). c.cid) (BadField fields.CampaignCid)
    ∷ row member_within (codes "budget") (form (λ v. is_ok (budget_in v)) (λ v. units_or_zero (budget_in v)))
    (λ (c : Campaign). c.budget) (BadField fields.CampaignBudget)
    ∷ test_whole (λ o. not (is_pair_among pairs (pair_in o))) (λ o. Repeated (length pairs))
    ∷ []

-- the items of a roster's member, as they are written
abbrev pub listed : List ℕ → Option Tree → List Tree
listed name o = items_in (member_within name o)

-- the names of a roster's bidders
abbrev pub bidder_names : Option Tree → List (List ℕ)
bidder_names o = map (λ t. name_in (Some t)) (listed (codes "bidders") o)

-- a list of texts
abbrev pub are_texts : Tree → Bool
are_texts t = are_texts_if_given (Some t)

-- lists of texts
abbrev pub lists_of_texts : Form (List (List (List ℕ)))
lists_of_texts = form (λ v. list_all are_texts (items_in v)) (λ v. map (λ t. texts_in (Some t)) (items_in v))

-- a limit of a day, the greatest where it is absent
abbrev pub limit_row : List ℕ → ℕ → (Roster → ℕ) → RosterFault → Row Roster RosterFault
limit_row name most limit f = within member_within (codes "limits") (row member_within name (a_whole_or most most) limit f)

-- what the digest is made of: the list of the day and the campaigns; what is absent is null
abbrev pub digest_tree : Option Tree → Tree
digest_tree o =
    list (item (unwrap_or (member_within (codes "day") o) null) (item (unwrap_or (member_within (codes "campaigns") o) null) no_items))

-- what a roster's object has to be, and the roster that it is: 1 to 16 bidders, 1 to 1,024 campaigns of theirs, and at most
-- one list of replies for each bidder
abbrev pub roster_rows : List (Row Roster RosterFault)
roster_rows =
    row member_within (codes "day") (form (λ v. is_date_text (text_in v)) text_or_empty) (λ (r : Roster). r.day) (BadField fields.Day)
    ∷ row member_within (codes "base") (a_text_or (codes "http://localhost")) (λ (r : Roster). r.base) (BadField fields.Base)
    ∷ row member_within (codes "now") (a_whole_or 0 MOST_NOW) (λ (r : Roster). r.now) (BadField fields.Now)
    ∷ test member_within (codes "bidders") (λ v. nat_le 1 (length (items_in v))) (BadField fields.Bidders)
    ∷ test member_within (codes "bidders") (λ v. nat_le (length (items_in v)) MOST_BIDDERS) TooMany
    ∷ each member_within (codes "bidders") (λ before. bidder_rows (map (λ t. name_in (Some t)) before)) all_count (λ (r : Roster). r.bidders)
    ∷ test member_within (codes "campaigns") (λ v. nat_le 1 (length (items_in v))) (BadField fields.Campaigns)
    ∷ test member_within (codes "campaigns") (λ v. nat_le (length (items_in v)) MOST_CAMPAIGNS) TooMany
    ∷ depending (λ o. each member_within (codes "campaigns") (λ before. campaign_rows (bidder_names o) (map (λ t. pair_in (Some t)) before))
    all_count (λ (r : Roster). r.campaigns))
    ∷ test member_within (codes "replies") is_list_if_given (BadField fields.Replies)
    ∷ test_whole (λ o. nat_le (length (listed (codes "replies") o)) (length (listed (codes "bidders") o))) (λ o. TooMany)
    ∷ row member_within (codes "replies") lists_of_texts (λ (r : Roster). r.replies) (BadField fields.Replies)
    ∷ test member_within (codes "limits") is_object_if_given (BadField fields.Limits)
    ∷ limit_row (codes "auctions") MOST_AUCTIONS (λ (r : Roster). r.limits.auctions) (BadField fields.LimitsAuctions)
    ∷ limit_row (codes "bids") MOST_BIDS (λ (r : Roster). r.limits.bids) (BadField fields.LimitsBids)
    ∷ limit_row (codes "text") MOST_TEXT (λ (r : Roster). r.limits.text) (BadField fields.LimitsText)
    -- the SHA-256 (FIPS 180-4) of its compact spelling
    ∷ value_whole (λ o. sha256 (spelling (digest_tree o))) (λ (r : Roster). r.digest)
    ∷ []

-- the first fault of a roster's tree
abbrev pub roster_fault : Tree → Option RosterFault
roster_fault t = first_fault roster_rows (Some t)

-- the tree has no fault, and is this roster
abbrev pub IsRoster : Tree → Roster → Type 0
IsRoster t r = (roster_fault t ≡ None) × Says roster_rows (Some t) r
