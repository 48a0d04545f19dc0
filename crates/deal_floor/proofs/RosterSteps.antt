-- A roster part by part.
use Rattle.std.proofs.Common.{◌≡◌, ℕ, List, [], map, length, codes, Option, Some, None, refl, sym, ap, ◌∙◌, subst}
use Rattle.std.specs.List.{AllZip}
use Rattle.std.proofs.lemmas.Slice.Zip.{AllZip-long}
use Rattle.adx_json.specs.Tree.{Tree}
use Rattle.adx_json.specs.Named.{member_in}
use Rattle.adx_json.specs.FoundMembers.{member_within}
use Rattle.adx_json.specs.Rows.{or_else}
use Rattle.adx_json.specs.Values.{items_in, text_or_empty}
use Rattle.adx_json.proofs.Listing.{Say, fault_at}
use Rattle.deal_floor.specs.Forms.{whole_or}
use Rattle.deal_floor.specs.Reading.{HasParts, bidder_list_fault, campaign_list_fault, head_fault, limits_fault, replies_fault}
use Rattle.deal_floor.specs.Rosters.{IsRoster, bidder_names, bidder_rows, campaign_rows, roster_fault, roster_rows}
use Rattle.deal_floor.specs.declared.campaign.Campaign.{Campaign}
use Rattle.deal_floor.specs.declared.limits.Limits.{Limits}
use Rattle.deal_floor.specs.declared.limits.TheConstants.{MOST_AUCTIONS, MOST_BIDS, MOST_TEXT}
use Rattle.deal_floor.specs.declared.place.Place.{Place}
use Rattle.deal_floor.specs.declared.roster.Roster.{Roster}
use Rattle.deal_floor.specs.declared.roster.TheConstants.{MOST_NOW}
use Rattle.deal_floor.specs.declared.fault.RosterFault.{RosterFault}
use Rattle.deal_floor.proofs.BidderSteps.{names, names_are}

assoc3 : {F : Type 0} (a b c r : Option F) → or_else a (or_else b (or_else c r)) ≡ or_else (or_else a (or_else b c)) r
assoc3 None None None r = refl
assoc3 None None (Some f) r = refl
assoc3 None (Some f) c r = refl
assoc3 (Some f) b c r = refl

module _ (t : Tree) where
  abbrev m : List ℕ → Option Tree
  m name = member_in name t

  abbrev bs : List Tree
  bs = items_in (m (codes "bidders"))

  abbrev cs : List Tree
  cs = items_in (m (codes "campaigns"))

  abbrev row_fault : ℕ → Option RosterFault
  row_fault n = fault_at n roster_rows (Some t)

  -- the five parts
  abbrev head : Option RosterFault
  head = head_fault (m (codes "day")) (m (codes "base")) (m (codes "now"))

  abbrev bidders : Option RosterFault
  bidders = bidder_list_fault (m (codes "bidders"))

  abbrev campaigns : List (List ℕ) → Option RosterFault
  campaigns ns = campaign_list_fault ns (m (codes "campaigns"))

  abbrev replies : ℕ → Option RosterFault
  replies n = replies_fault n (m (codes "replies"))

  abbrev limits : Option RosterFault
  limits = limits_fault (m (codes "limits"))

  parted : roster_fault t ≡ or_else head (or_else bidders (or_else (campaigns (bidder_names (Some t))) (or_else (replies (length bs)) limits)))
  parted =
      assoc3 (row_fault 0) (row_fault 1) (row_fault 2) _ ∙ ap (or_else head)
      (assoc3 (row_fault 3) (row_fault 4) (row_fault 5) _ ∙ ap (or_else bidders)
      (assoc3 (row_fault 6) (row_fault 7) (row_fault 8) _ ∙ ap (or_else (campaigns (bidder_names (Some t)))) (assoc3 (row_fault 9) (row_fault 10) (row_fault 11) _)))

  -- the fault of the first part that has one
  pub head_off : (f : RosterFault) → head ≡ Some f → roster_fault t ≡ Some f
  head_off f h = parted ∙ ap (λ x. or_else x (or_else bidders (or_else (campaigns (bidder_names (Some t))) (or_else (replies (length bs)) limits)))) h

  pub bidders_off : (f : RosterFault) → head ≡ None → bidders ≡ Some f → roster_fault t ≡ Some f
  bidders_off f a h = parted ∙ (λ i. or_else (a i) (or_else (h i) (or_else (campaigns (bidder_names (Some t))) (or_else (replies (length bs)) limits))))

  module _ (ps qs : List Place) (same : qs ≡ ps) (says : AllZip (Say (bidder_rows [])) bs ps) (a : head ≡ None) (b : bidders ≡ None) where
    named : bidder_names (Some t) ≡ names qs
    named = names_are bs ps says ∙ ap names (sym same)

    counted : length bs ≡ length ps
    counted = sym (AllZip-long (Say (bidder_rows [])) bs ps says)

    pub campaigns_off : (f : RosterFault) → campaigns (names qs) ≡ Some f → roster_fault t ≡ Some f
    campaigns_off f h = let c = ap campaigns named ∙ h in parted ∙ (λ i. or_else (a i) (or_else (b i) (or_else (c i) (or_else (replies (length bs)) limits))))

    module _ (found : List Campaign) (told : AllZip (Say (campaign_rows (names qs) [])) cs found) (c : campaigns (names qs) ≡ None) where
      campaigns_none : campaigns (bidder_names (Some t)) ≡ None
      campaigns_none = ap campaigns named ∙ c

      pub replies_off : (f : RosterFault) → replies (length ps) ≡ Some f → roster_fault t ≡ Some f
      replies_off f h =
          let d = ap replies counted ∙ h in parted ∙ (λ i. or_else (a i) (or_else (b i) (or_else (campaigns_none i) (or_else (d i) limits))))

      module _ (rs : List Tree) (are : rs ≡ items_in (m (codes "replies"))) (d : replies (length ps) ≡ None) where
        pub limits_off : (e : Option RosterFault) → limits ≡ e → roster_fault t ≡ e
        limits_off e h =
            let none = ap replies counted ∙ d in parted ∙ (λ i. or_else (a i) (or_else (b i) (or_else (campaigns_none i) (or_else (none i) (h i)))))

        -- the roster, field by field
        pub roster_on : (l : Limits) (r : Roster) (day : List ℕ) (now : ℕ) → limits ≡ None
            → (l.auctions ≡ whole_or MOST_AUCTIONS MOST_AUCTIONS (member_within (codes "auctions") (m (codes "limits"))))
            × (l.bids ≡ whole_or MOST_BIDS MOST_BIDS (member_within (codes "bids") (m (codes "limits"))))
            × (l.text ≡ whole_or MOST_TEXT MOST_TEXT (member_within (codes "text") (m (codes "limits"))))
            → (day ≡ text_or_empty (m (codes "day"))) × (now ≡ whole_or 0 MOST_NOW (m (codes "now")))
            → HasParts r day now ps found rs l (m (codes "base")) (m (codes "day")) (m (codes "campaigns")) → IsRoster t r
        roster_on l r day now e (auctions, bids, text) (day_is, now_is) p =
            let zip : AllZip (Say (bidder_rows [])) bs r.bidders = subst (AllZip (Say (bidder_rows [])) bs) (sym p.bidders) says in
            let told_by : AllZip (Say (campaign_rows (bidder_names (Some t)) [])) cs r.campaigns =
            subst (λ ns. AllZip (Say (campaign_rows ns [])) cs r.campaigns) (sym named) (subst (AllZip (Say (campaign_rows (names qs) [])) cs) (sym p.campaigns) told) in
            let texts = p.replies ∙ ap (map _) are in (
              limits_off None e,
              (
                p.day ∙ day_is,
                (
                  p.base,
                  (
                    p.now ∙ now_is,
                    (
                      tt,
                      (
                        tt,
                        (
                          zip,
                          (
                            tt,
                            (
                              tt,
                              (
                                told_by,
                                (
                                  tt,
                                  (
                                    tt,
                                    (
                                      texts,
                                      (
                                        tt,
                                        (
                                          ap (λ (x : Limits). x.auctions) p.limits ∙ auctions,
                                          (
                                            ap (λ (x : Limits). x.bids) p.limits ∙ bids,
                                            (ap (λ (x : Limits). x.text) p.limits ∙ text, (p.digest, tt)),
                                          ),
                                        ),
                                      ),
                                    ),
                                  ),
                                ),
                              ),
                            ),
                          ),
                        ),
                      ),
                    ),
                  ),
                ),
              ),
            )
