-- What the readers of a roster's values find: the first fault of a part, and the roster of its parts. But for `given` private:
-- cited by the readers alone.
use Rattle.std.specs.Prelude.{◌≡◌, ℕ, List, [], Bool, map, length, nat_le, codes, option_map, Option, Some, None}
use Rattle.std.specs.Borrow.{Bor}
use Rattle.std.specs.List.{list_all}
use Rattle.std.specs.Option.{unwrap_or}
use Rattle.std.specs.Str.{bytes_eq}
use Rattle.sha2.specs.Sha256.{sha256}
use Rattle.adx_json.specs.declared.tree.Json.{Json}
use Rattle.adx_json.specs.FoundMembers.{member_within}
use Rattle.adx_json.specs.Rows.{first_among, or_else, unless}
use Rattle.adx_json.specs.Spelling.{spelling}
use Rattle.adx_json.specs.Tree.{Tree, item, list, no_items, null}
use Rattle.adx_json.specs.View.{tree_of}
use Rattle.adx_json.specs.Values.{is_list_if_given, is_object_if_given, is_text_if_given, items_in, text_in, texts_in}
use Rattle.deal_floor.specs.declared.campaign.Campaign.{Campaign}
use Rattle.deal_floor.specs.declared.campaign.TheConstants.{MOST_CAMPAIGNS}
use Rattle.deal_floor.specs.declared.fault.Field.TheVariants as fields
use Rattle.deal_floor.specs.declared.fault.RosterFault.{RosterFault}
use Rattle.deal_floor.specs.declared.fault.RosterFault.TheVariants.{BadField, TooMany}
use Rattle.deal_floor.specs.declared.limits.Limits.{Limits}
use Rattle.deal_floor.specs.declared.limits.TheConstants.{MOST_AUCTIONS, MOST_BIDS, MOST_TEXT}
use Rattle.deal_floor.specs.declared.place.Place.{Place}
use Rattle.deal_floor.specs.declared.place.TheConstants.{MOST_BIDDERS}
use Rattle.deal_floor.specs.declared.roster.Roster.{Roster}
use Rattle.deal_floor.specs.declared.roster.TheConstants.{MOST_NOW}
use Rattle.deal_floor.specs.Forms.{is_date_text, is_whole_if_given, text_or}
use Rattle.deal_floor.specs.Rosters.{are_texts, bidder_rows, campaign_rows, name_in, pair_in}

-- the tree of a member that may be absent
abbrev pub given : Option (Bor Json) → Option Tree
given value = option_map (λ t. tree_of t.now) value

-- the names of bidders
abbrev pub names_of : List Place → List (List ℕ)
names_of places = map (λ p. p.name) places

-- a bidder has this name
abbrev pub place_has_name : List ℕ → Place → Bool
place_has_name name p = bytes_eq p.name name

-- the first fault of the day, the base and the moment
abbrev pub head_fault : (day base now : Option Tree) → Option RosterFault
head_fault day base now =
    or_else (unless (is_date_text (text_in day)) (BadField fields.Day))
    (or_else (unless (is_text_if_given base) (BadField fields.Base)) (unless (is_whole_if_given MOST_NOW now) (BadField fields.Now)))

-- that of the bidders
abbrev pub bidder_list_fault : Option Tree → Option RosterFault
bidder_list_fault value =
    or_else (unless (nat_le 1 (length (items_in value))) (BadField fields.Bidders))
    (or_else (unless (nat_le (length (items_in value)) MOST_BIDDERS) TooMany)
    (first_among (λ before. bidder_rows (map (λ t. name_in (Some t)) before)) [] (items_in value)))

-- that of the campaigns of bidders with these names
abbrev pub campaign_list_fault : List (List ℕ) → Option Tree → Option RosterFault
campaign_list_fault names value =
    or_else (unless (nat_le 1 (length (items_in value))) (BadField fields.Campaigns))
    (or_else (unless (nat_le (length (items_in value)) MOST_CAMPAIGNS) TooMany)
    (first_among (λ before. campaign_rows names (map (λ t. pair_in (Some t)) before)) [] (items_in value)))

-- that of the replies to so many bidders
abbrev pub replies_fault : ℕ → Option Tree → Option RosterFault
replies_fault bidders value =
    or_else (unless (is_list_if_given value) (BadField fields.Replies))
    (or_else (unless (nat_le (length (items_in value)) bidders) TooMany)
    (unless (list_all are_texts (items_in value)) (BadField fields.Replies)))

-- that of the limits
abbrev pub limits_fault : Option Tree → Option RosterFault
limits_fault value =
    or_else (unless (is_object_if_given value) (BadField fields.Limits))
    (or_else (unless (is_whole_if_given MOST_AUCTIONS (member_within (codes "auctions") value)) (BadField fields.LimitsAuctions))
    (or_else (unless (is_whole_if_given MOST_BIDS (member_within (codes "bids") value)) (BadField fields.LimitsBids))
    (or_else (unless (is_whole_if_given MOST_TEXT (member_within (codes "text") value)) (BadField fields.LimitsText)) None)))

-- the digest of a roster, by its day and its campaigns
abbrev pub digest_by : (day campaigns : Option Tree) → List ℕ
digest_by day campaigns = sha256 (spelling (list (item (unwrap_or day null) (item (unwrap_or campaigns null) no_items))))

-- the roster is of these parts, with the members of the object that are taken as they are
pub record HasParts (r : Roster) (date : List ℕ) (moment : ℕ) (places : List Place) (found : List Campaign) (lists : List Tree) (bounds : Limits)
    (base_tree day_tree campaign_trees : Option Tree) : Type 0 where
  pub day : r.day ≡ date
  pub base : r.base ≡ text_or (codes "http://localhost") base_tree
  pub now : r.now ≡ moment
  pub bidders : r.bidders ≡ places
  pub campaigns : r.campaigns ≡ found
  pub replies : r.replies ≡ map (λ t. texts_in (Some t)) lists
  pub limits : r.limits ≡ bounds
  pub digest : r.digest ≡ digest_by day_tree campaign_trees
