-- An object without a fault says a roster.
use Rattle.std.proofs.Common.{◌≡◌, ◌≤◌, ◌^◌, ℕ, List, [], ◌∷◌, ◌++◌, map, length, Bool, true, false, not, ◌&&◌, is_ok, is_some, nat_le, codes, Option, Some, None, refl, sym, ap, ap₂, ◌∙◌, subst, append-nil, arith}
use Rattle.std.specs.List.{AllZip}
use Rattle.std.proofs.Math.Seq.{append_snoc}
use Rattle.std.proofs.lemmas.Bool.{leb-true, lt-ltb}
use Rattle.std.proofs.lemmas.List.{length-map, map-append}
use Rattle.std.proofs.lemmas.Slice.Zip.{AllZip-long}
use Rattle.std.specs.Option.{unwrap_or}
use Rattle.adx_json.specs.Tree.{Tree}
use Rattle.adx_json.specs.FoundMembers.{member_within}
use Rattle.adx_json.specs.Named.{member_in}
use Rattle.adx_json.specs.Rows.{Says, first_among}
use Rattle.adx_json.specs.Values.{items_in, or_empty, or_zero, text_in, text_or_empty, texts_in}
use Rattle.adx_json.proofs.Listing.{Say, holds, none_among, none_at}
use Rattle.adx_units.specs.Among.{is_among}
use Rattle.adx_units.specs.Number.{begins_with}
use Rattle.rtb_request.specs.Amounts.{units_or_zero}
use Rattle.rtb_request.specs.Distinct.{all_distinct}
use Rattle.rtb_request.proofs.Distinct.{distinct_more}
use Rattle.deal_floor.specs.Forms.{budget_in, is_date, is_date_text, is_path, is_path_if_given, place_in, text_or, whole_or}
use Rattle.deal_floor.specs.Pairs.{is_pair_among, all_pairs_distinct, have_bidders}
use Rattle.deal_floor.specs.Rosters.{bidder_names, bidder_rows, campaign_rows, name_in, pair_in, roster_fault, roster_rows}
use Rattle.deal_floor.specs.declared.campaign.Campaign.{Campaign}
use Rattle.deal_floor.specs.declared.fault.Field.TheVariants as fields
use Rattle.deal_floor.specs.declared.fault.RosterFault.TheVariants.{BadField, Repeated, TooMany}
use Rattle.deal_floor.specs.declared.limits.Limits.{Limits}
use Rattle.deal_floor.specs.declared.limits.TheConstants.{MOST_AUCTIONS, MOST_BIDS, MOST_TEXT}
use Rattle.deal_floor.specs.declared.place.Place.{Place}
use Rattle.deal_floor.specs.declared.place.TheConstants.{MOST_PORT}
use Rattle.deal_floor.specs.declared.roster.Roster.{Roster}
use Rattle.deal_floor.specs.declared.roster.TheConstants.{MOST_NOW}
use Rattle.deal_floor.proofs.BidderSteps.{names_are, names_in}
use Rattle.deal_floor.proofs.CampaignSteps.{pairs_are, pairs_in}
use Rattle.deal_floor.proofs.PairsMore.{pairs_more}
use Rattle.script_lines.proofs.Bounds.{budget_is, place_low, whole_or_low}

not_true : (a : Bool) → not a ≡ true → a ≡ false
not_true true h = cc
not_true false h = refl

-- a bidder
path_text : (o : Option (List ℕ)) → is_path o ≡ true → begins_with 47 (unwrap_or o (codes "/")) ≡ true
path_text None h = refl
path_text (Some p) h = h

path_slash : (v : Option Tree) → is_path_if_given v ≡ true → begins_with 47 (text_or (codes "/") v) ≡ true
path_slash None h = refl
path_slash (Some t) h = path_text (text_in (Some t)) h

abbrev place_at : (t : Tree) → begins_with 47 (text_or (codes "/") (member_in (codes "path") t)) ≡ true → Place
place_at t slash = record {
  name = name_in (Some t);
  host = text_or (codes "127.0.0.1") (member_in (codes "host") t);
  port = whole_or 80 MOST_PORT (member_in (codes "port") t);
  path = text_or (codes "/") (member_in (codes "path") t);
  slash_first = slash;
}

places_at : (before ts : List Tree) → first_among (λ us. bidder_rows (names_in us)) before ts ≡ None → (ps : List Place) × AllZip (Say (bidder_rows [])) ts ps
places_at before [] h = ([], tt)
places_at before (t ∷ ts) h =
    let parts = none_among (λ us. bidder_rows (names_in us)) before t ts h in
    let path = member_in (codes "path") t in
    let slash = holds (is_path_if_given path) (BadField fields.BidderPath) (none_at 3 (bidder_rows (names_in before)) (Some t) parts.0) in
    let rest = places_at (before ++ t ∷ []) ts parts.1 in
    (place_at t (path_slash path slash) ∷ rest.0, ((refl, (refl, (refl, (refl, (tt, tt))))), rest.1))

names_differ : (before ts : List Tree) → all_distinct (names_in before) ≡ true → first_among (λ us. bidder_rows (names_in us)) before ts ≡ None
    → all_distinct (names_in before ++ names_in ts) ≡ true
names_differ before [] h k = ap all_distinct (append-nil (names_in before)) ∙ h
names_differ before (t ∷ ts) h k =
    let parts = none_among (λ us. bidder_rows (names_in us)) before t ts k in
    let ns = names_in before in
    let name = name_in (Some t) in
    let fresh = holds (not (is_among ns name)) (Repeated (length ns)) (none_at 4 (bidder_rows ns) (Some t) parts.0) in
    let more : names_in (before ++ t ∷ []) ≡ ns ++ name ∷ [] = map-append (λ (u : Tree). name_in (Some u)) before (t ∷ []) in
    let distinct = ap all_distinct more ∙ distinct_more ns name h (not_true (is_among ns name) fresh) in
    ap all_distinct (sym (append_snoc ns name (names_in ts)) ∙ ap (λ l. l ++ names_in ts) (sym more)) ∙ names_differ (before ++ t ∷ []) ts distinct parts.1

-- a campaign
abbrev budget_of_tree : Tree → ℕ
budget_of_tree t = (units_or_zero (budget_in (member_in (codes "budget") t))).0

abbrev campaign_at : (names : List (List ℕ)) (t : Tree) → (1 ≤ budget_of_tree t) × (budget_of_tree t ≤ 10 ^ 15) → Campaign
campaign_at names t budget = record {
  bidder = or_zero (place_in names (member_in (codes "bidder") t));
  seat = text_or_empty (member_in (codes "seat") t);
  cid = text_or_empty (member_in (codes "cid") t);
  budget = units_or_zero (budget_in (member_in (codes "budget") t));
  positive = budget.0;
  in_range = budget.1;
}

abbrev HasCampaigns : List (List ℕ) → List Tree → Type 0
HasCampaigns names ts = (cs : List Campaign) × AllZip (Say (campaign_rows names [])) ts cs × (have_bidders (length names) cs ≡ true)

campaigns_at : (names : List (List ℕ)) (before ts : List Tree) → first_among (λ us. campaign_rows names (pairs_in us)) before ts ≡ None → HasCampaigns names ts
campaigns_at names before [] h = ([], tt, refl)
campaigns_at names before (t ∷ ts) h =
    let parts = none_among (λ us. campaign_rows names (pairs_in us)) before t ts h in
    let rows = campaign_rows names (pairs_in before) in
    let bidder = member_in (codes "bidder") t in
    let budget = member_in (codes "budget") t in
    let placed = holds (is_some (place_in names bidder)) (BadField fields.CampaignBidder) (none_at 0 rows (Some t) parts.0) in
    let paid = holds (is_ok (budget_in budget)) (BadField fields.CampaignBudget) (none_at 3 rows (Some t) parts.0) in
    let rest = campaigns_at names (before ++ t ∷ []) ts parts.1 in
    let known = lt-ltb (or_zero (place_in names bidder)) (length names) (place_low names bidder placed) in
    (campaign_at names t (budget_is budget paid) ∷ rest.0, ((refl, (refl, (refl, (refl, (tt, tt))))), rest.1), ap₂ (λ a b. a && b) known rest.2)

pairs_differ : (names : List (List ℕ)) (before ts : List Tree) → all_pairs_distinct (pairs_in before) ≡ true
    → first_among (λ us. campaign_rows names (pairs_in us)) before ts ≡ None → all_pairs_distinct (pairs_in before ++ pairs_in ts) ≡ true
pairs_differ names before [] h k = ap all_pairs_distinct (append-nil (pairs_in before)) ∙ h
pairs_differ names before (t ∷ ts) h k =
    let parts = none_among (λ us. campaign_rows names (pairs_in us)) before t ts k in
    let ps = pairs_in before in
    let pair = pair_in (Some t) in
    let fresh = holds (not (is_pair_among ps pair)) (Repeated (length ps)) (none_at 4 (campaign_rows names ps) (Some t) parts.0) in
    let more : pairs_in (before ++ t ∷ []) ≡ ps ++ pair ∷ [] = map-append (λ (u : Tree). pair_in (Some u)) before (t ∷ []) in
    let distinct = ap all_pairs_distinct more ∙ pairs_more ps pair h (not_true (is_pair_among ps pair) fresh) in
    ap all_pairs_distinct (sym (append_snoc ps pair (pairs_in ts)) ∙ ap (λ l. l ++ pairs_in ts) (sym more)) ∙ pairs_differ names (before ++ t ∷ []) ts distinct parts.1

-- the limits
abbrev limits_at : Option Tree → Limits
limits_at v = record {
  auctions = whole_or MOST_AUCTIONS MOST_AUCTIONS (member_within (codes "auctions") v);
  bids = whole_or MOST_BIDS MOST_BIDS (member_within (codes "bids") v);
  text = whole_or MOST_TEXT MOST_TEXT (member_within (codes "text") v);
  few_auctions = whole_or_low MOST_AUCTIONS MOST_AUCTIONS (member_within (codes "auctions") v) (omega arith);
  few_bids = whole_or_low MOST_BIDS MOST_BIDS (member_within (codes "bids") v) (omega arith);
  short_text = whole_or_low MOST_TEXT MOST_TEXT (member_within (codes "text") v) (omega arith);
}

date_is : (o : Option (List ℕ)) → is_date_text o ≡ true → is_date (or_empty o) ≡ true
date_is None h = absurd (cc h)
date_is (Some t) h = h

-- a roster
abbrev HasRoster : Tree → Type 0
HasRoster t = (r : Roster) × Says roster_rows (Some t) r

pub some_roster : (t : Tree) → roster_fault t ≡ None → HasRoster t
some_roster t h =
    let m = λ (name : List ℕ). member_in name t in
    let bs = items_in (m (codes "bidders")) in
    let cs = items_in (m (codes "campaigns")) in
    let rs = items_in (m (codes "replies")) in
    let names = bidder_names (Some t) in
    let day = holds (is_date_text (text_in (m (codes "day")))) (BadField fields.Day) (none_at 0 roster_rows (Some t) h) in
    let some_bidder = holds (nat_le 1 (length bs)) (BadField fields.Bidders) (none_at 3 roster_rows (Some t) h) in
    let few_bidders = holds (nat_le (length bs) 16) TooMany (none_at 4 roster_rows (Some t) h) in
    let bidders_hold = none_at 5 roster_rows (Some t) h in
    let some_campaign = holds (nat_le 1 (length cs)) (BadField fields.Campaigns) (none_at 6 roster_rows (Some t) h) in
    let few_campaigns = holds (nat_le (length cs) 1024) TooMany (none_at 7 roster_rows (Some t) h) in
    let campaigns_hold = none_at 8 roster_rows (Some t) h in
    let few_replies = holds (nat_le (length rs) (length bs)) TooMany (none_at 10 roster_rows (Some t) h) in
    let places = places_at [] bs bidders_hold in
    let kept = campaigns_at names [] cs campaigns_hold in
    let texts = map (λ (u : Tree). texts_in (Some u)) rs in
    let many_places : length places.0 ≡ length bs = AllZip-long (Say (bidder_rows [])) bs places.0 places.1 in
    let many_campaigns : length kept.0 ≡ length cs = AllZip-long (Say (campaign_rows names [])) cs kept.0 kept.1 in
    let many_names : length names ≡ length places.0 = length-map bs (λ (u : Tree). name_in (Some u)) ∙ sym many_places in
    let many_replies : length texts ≡ length rs = length-map rs (λ (u : Tree). texts_in (Some u)) in (
      record {
        day = text_or_empty (m (codes "day"));
        base = text_or (codes "http://localhost") (m (codes "base"));
        now = whole_or 0 MOST_NOW (m (codes "now"));
        bidders = places.0;
        campaigns = kept.0;
        replies = texts;
        limits = limits_at (m (codes "limits"));
        digest = _;
        dated = date_is (text_in (m (codes "day"))) day;
        now_in_range = whole_or_low 0 MOST_NOW (m (codes "now")) (omega arith);
        some_bidder = subst (λ n. 1 ≤ n) (sym many_places) (leb-true 1 (length bs) some_bidder);
        few_bidders = subst (λ n. n ≤ 16) (sym many_places) (leb-true (length bs) 16 few_bidders);
        distinct_names = ap all_distinct (sym (names_are bs places.0 places.1)) ∙ names_differ [] bs refl bidders_hold;
        some_campaign = subst (λ n. 1 ≤ n) (sym many_campaigns) (leb-true 1 (length cs) some_campaign);
        few_campaigns = subst (λ n. n ≤ 1024) (sym many_campaigns) (leb-true (length cs) 1024 few_campaigns);
        distinct_pairs = ap all_pairs_distinct (sym (pairs_are names cs kept.0 kept.1)) ∙ pairs_differ names [] cs refl campaigns_hold;
        known_bidders = ap (λ n. have_bidders n kept.0) (sym many_names) ∙ kept.2;
        few_replies = let few = leb-true (length rs) (length bs) few_replies in omega (arith, many_replies, many_places, few);
      },
      (refl, (refl, (refl, (tt, (tt, (places.1, (tt, (tt, (kept.1, (tt, (tt, (refl, (tt, (refl, (refl, (refl, (refl, tt))))))))))))))))),
    )
