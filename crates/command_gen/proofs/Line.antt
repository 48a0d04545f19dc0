-- The roster line of a generated day is a roster's, by the tree of its value.
use Rattle.std.proofs.Common.{◌≡◌, ◌≢◌, ℕ, List, [], ◌∷◌, length, codes, Bool, true, false, ◌&&◌, nat_lt, inl, inr, AllPairs, Some, None, refl, sym, ap, ◌∙◌, subst, arith}
use Rattle.std.specs.Str.{IsAscii, IsUtf8, bytes_eq}
use Rattle.std.proofs.lemmas.Slice.Zip.{AllZip-long}
use Rattle.std.proofs.lemmas.List.Elements.{All-nil, All-cons}
use Rattle.std.proofs.lemmas.List.Kept.{AllPairs-cons}
use Rattle.std.proofs.lemmas.Bool.{and_parts, ltb-true}
use Rattle.std.proofs.lemmas.Str.{IsUtf8-from_ascii}
use Rattle.std.proofs.lemmas.Str.Ascii.{IsAscii-nil, IsAscii-cons}
use Rattle.sha2.proofs.Facts256.{length-sha256}
use Rattle.adx_units.specs.Number.{is_number}
use Rattle.adx_json.specs.declared.fault.JsonFault.{JsonFault}
use Rattle.adx_json.specs.Grammar.{IsJson}
use Rattle.adx_json.specs.Spelling.{spelling}
use Rattle.adx_json.specs.Tree.{Tree, number, text, list, object, Items, no_items, item, no_members, member}
use Rattle.adx_json.specs.WellFormed.{IsWellFormed, HasUtf8, AreWellFormed, AllHaveUtf8}
use Rattle.adx_json.proofs.Listing.{Say, says_at}
use Rattle.adx_json.proofs.OneTree.{one_json}
use Rattle.adx_json.proofs.Spelled.{spelling_is}
use Rattle.deal_floor.specs.Rosters.{IsRoster, bidder_names, campaign_rows, digest_tree, listed, roster_fault, roster_rows}
use Rattle.deal_floor.specs.declared.roster.Roster.{Roster}
use Rattle.script_lines.specs.Rosters.{IsRosterLine, RefusesRosterLine}
use Rattle.script_lines.specs.declared.refusal.RosterRefusal.{RosterRefusal}
use Rattle.command_gen.specs.Generated.{generated_line}

-- a campaign of the line, by its cid and its budget
abbrev campaign_tree : List ℕ → List ℕ → Tree
campaign_tree cid budget =
    object (member (codes "bidder") (text (codes "b")) (member (codes "seat") (text (codes "s")) (member (codes "cid") (text cid) (member (codes "budget") (number budget) no_members))))

abbrev campaign_items : Items
campaign_items =
    item (campaign_tree (codes "c0") (codes "0.01")) (item (campaign_tree (codes "c1") (codes "0.02"))
    (item (campaign_tree (codes "c2") (codes "0.03")) (item (campaign_tree (codes "c3") (codes "0.04"))
    (item (campaign_tree (codes "c4") (codes "0.05")) (item (campaign_tree (codes "c5") (codes "0.06"))
    (item (campaign_tree (codes "c6") (codes "0.07")) (item (campaign_tree (codes "c7") (codes "0.08"))
    (item (campaign_tree (codes "c8") (codes "0.09")) (item (campaign_tree (codes "c9") (codes "0.1"))
    (item (campaign_tree (codes "c10") (codes "0.11")) (item (campaign_tree (codes "c11") (codes "0.12"))
    (item (campaign_tree (codes "c12") (codes "0.13")) (item (campaign_tree (codes "c13") (codes "0.14"))
    (item (campaign_tree (codes "c14") (codes "0.15")) (item (campaign_tree (codes "c15") (codes "0.16")) no_items)))))))))))))))

-- the value of the line
abbrev generated_tree : Tree
generated_tree =
    object (member (codes "day") (text (codes "2025-01-01"))
    (member (codes "bidders") (list (item (object (member (codes "name") (text (codes "b")) no_members)) no_items))
    (member (codes "campaigns") (list campaign_items) no_members)))

-- the line spells it
line_spelled : spelling generated_tree ≡ generated_line
line_spelled = refl

none_pairs : AllPairs (λ (a b : List ℕ). a ≢ b) []
none_pairs i j d less within = absurd (omega (arith, within))

-- bytes below 128 are text
abbrev are_small : List ℕ → Bool
are_small [] = true
are_small (b ∷ bs) = nat_lt b 128 && are_small bs

small : (bs : List ℕ) → are_small bs ≡ true → IsAscii bs
small [] is = IsAscii-nil
small (b ∷ bs) is = let parts = and_parts (nat_lt b 128) (are_small bs) is in IsAscii-cons b bs (ltb-true b 128 parts.0) (small bs parts.1)

is_text : (bs : List ℕ) → are_small bs ≡ true → IsUtf8 bs
is_text bs is = IsUtf8-from_ascii bs (small bs is)

-- names that are written out differ
differ : (a b : List ℕ) → bytes_eq a a ≡ true → bytes_eq a b ≡ false → a ≢ b
differ a b same other is = absurd (cc (sym (ap (bytes_eq a) is ∙ other) ∙ same))

-- it is a JSON value
campaign_formed : (cid budget : List ℕ) → is_number budget ≡ true → IsWellFormed (campaign_tree cid budget)
campaign_formed cid budget is = (
  AllPairs-cons (λ a b. a ≢ b) (codes "bidder") (codes "seat" ∷ codes "cid" ∷ codes "budget" ∷ [])
      (All-cons (λ b. codes "bidder" ≢ b) (codes "seat") (codes "cid" ∷ codes "budget" ∷ []) (differ (codes "bidder") (codes "seat") refl refl)
      (All-cons (λ b. codes "bidder" ≢ b) (codes "cid") (codes "budget" ∷ []) (differ (codes "bidder") (codes "cid") refl refl)
      (All-cons (λ b. codes "bidder" ≢ b) (codes "budget") [] (differ (codes "bidder") (codes "budget") refl refl) (All-nil (λ b. codes "bidder" ≢ b)))))
      (AllPairs-cons (λ a b. a ≢ b) (codes "seat") (codes "cid" ∷ codes "budget" ∷ [])
      (All-cons (λ b. codes "seat" ≢ b) (codes "cid") (codes "budget" ∷ []) (differ (codes "seat") (codes "cid") refl refl)
      (All-cons (λ b. codes "seat" ≢ b) (codes "budget") [] (differ (codes "seat") (codes "budget") refl refl) (All-nil (λ b. codes "seat" ≢ b))))
      (AllPairs-cons (λ a b. a ≢ b) (codes "cid") (codes "budget" ∷ [])
      (All-cons (λ b. codes "cid" ≢ b) (codes "budget") [] (differ (codes "cid") (codes "budget") refl refl) (All-nil (λ b. codes "cid" ≢ b)))
      (AllPairs-cons (λ a b. a ≢ b) (codes "budget") [] (All-nil (λ b. codes "budget" ≢ b)) none_pairs))),
  (tt, (tt, (tt, (is, tt)))),
)

tree_formed : IsWellFormed generated_tree
tree_formed = (
  AllPairs-cons (λ a b. a ≢ b) (codes "day") (codes "bidders" ∷ codes "campaigns" ∷ [])
      (All-cons (λ b. codes "day" ≢ b) (codes "bidders") (codes "campaigns" ∷ []) (differ (codes "day") (codes "bidders") refl refl)
      (All-cons (λ b. codes "day" ≢ b) (codes "campaigns") [] (differ (codes "day") (codes "campaigns") refl refl) (All-nil (λ b. codes "day" ≢ b))))
      (AllPairs-cons (λ a b. a ≢ b) (codes "bidders") (codes "campaigns" ∷ [])
      (All-cons (λ b. codes "bidders" ≢ b) (codes "campaigns") [] (differ (codes "bidders") (codes "campaigns") refl refl) (All-nil (λ b. codes "bidders" ≢ b)))
      (AllPairs-cons (λ a b. a ≢ b) (codes "campaigns") [] (All-nil (λ b. codes "campaigns" ≢ b)) none_pairs)),
  (tt, (((AllPairs-cons (λ a b. a ≢ b) (codes "name") [] (All-nil (λ b. codes "name" ≢ b)) none_pairs, (tt, tt)), tt), (campaigns, tt))),
)
  where
    campaigns : AreWellFormed campaign_items
    campaigns = (
      campaign_formed (codes "c0") (codes "0.01") refl,
      (
        campaign_formed (codes "c1") (codes "0.02") refl,
        (
          campaign_formed (codes "c2") (codes "0.03") refl,
          (
            campaign_formed (codes "c3") (codes "0.04") refl,
            (
              campaign_formed (codes "c4") (codes "0.05") refl,
              (
                campaign_formed (codes "c5") (codes "0.06") refl,
                (
                  campaign_formed (codes "c6") (codes "0.07") refl,
                  (
                    campaign_formed (codes "c7") (codes "0.08") refl,
                    (
                      campaign_formed (codes "c8") (codes "0.09") refl,
                      (
                        campaign_formed (codes "c9") (codes "0.1") refl,
                        (
                          campaign_formed (codes "c10") (codes "0.11") refl,
                          (
                            campaign_formed (codes "c11") (codes "0.12") refl,
                            (
                              campaign_formed (codes "c12") (codes "0.13") refl,
                              (
                                campaign_formed (codes "c13") (codes "0.14") refl,
                                (
                                  campaign_formed (codes "c14") (codes "0.15") refl,
                                  (
                                    campaign_formed (codes "c15") (codes "0.16") refl,
                                    tt,
                                  ),
                                ),
                              ),
                            ),
                          ),
                        ),
                      ),
                    ),
                  ),
                ),
              ),
            ),
          ),
        ),
      ),
    )

campaign_utf8 : (cid budget : List ℕ) → are_small cid ≡ true → HasUtf8 (campaign_tree cid budget)
campaign_utf8 cid budget is = (
  is_text (codes "bidder") refl,
  is_text (codes "b") refl,
  (
    is_text (codes "seat") refl,
    is_text (codes "s") refl,
    (
      is_text (codes "cid") refl,
      is_text cid is,
      (is_text (codes "budget") refl, tt, tt),
    ),
  ),
)

tree_utf8 : HasUtf8 generated_tree
tree_utf8 = (
  is_text (codes "day") refl,
  is_text (codes "2025-01-01") refl,
  (
    is_text (codes "bidders") refl,
    ((is_text (codes "name") refl, is_text (codes "b") refl, tt), tt),
    (is_text (codes "campaigns") refl, campaigns, tt),
  ),
)
  where
    campaigns : AllHaveUtf8 campaign_items
    campaigns = (
      campaign_utf8 (codes "c0") (codes "0.01") refl,
      (
        campaign_utf8 (codes "c1") (codes "0.02") refl,
        (
          campaign_utf8 (codes "c2") (codes "0.03") refl,
          (
            campaign_utf8 (codes "c3") (codes "0.04") refl,
            (
              campaign_utf8 (codes "c4") (codes "0.05") refl,
              (
                campaign_utf8 (codes "c5") (codes "0.06") refl,
                (
                  campaign_utf8 (codes "c6") (codes "0.07") refl,
                  (
                    campaign_utf8 (codes "c7") (codes "0.08") refl,
                    (
                      campaign_utf8 (codes "c8") (codes "0.09") refl,
                      (
                        campaign_utf8 (codes "c9") (codes "0.1") refl,
                        (
                          campaign_utf8 (codes "c10") (codes "0.11") refl,
                          (
                            campaign_utf8 (codes "c11") (codes "0.12") refl,
                            (
                              campaign_utf8 (codes "c12") (codes "0.13") refl,
                              (
                                campaign_utf8 (codes "c13") (codes "0.14") refl,
                                (
                                  campaign_utf8 (codes "c14") (codes "0.15") refl,
                                  (
                                    campaign_utf8 (codes "c15") (codes "0.16") refl,
                                    tt,
                                  ),
                                ),
                              ),
                            ),
                          ),
                        ),
                      ),
                    ),
                  ),
                ),
              ),
            ),
          ),
        ),
      ),
    )

line_json : IsJson generated_line generated_tree
line_json = subst (λ (l : List ℕ). IsJson l generated_tree) line_spelled (spelling_is generated_tree tree_formed tree_utf8 (omega arith))

-- and a roster
no_fault : roster_fault generated_tree ≡ None
no_fault = refl

-- so it is refused for no cause
pub never_refused : (why : RosterRefusal) → RefusesRosterLine generated_line why → ⊥
never_refused why (inl (t, json, (f, is, told))) =
    let e : None ≡ Some f = sym (ap roster_fault (one_json generated_line t generated_tree json line_json) ∙ no_fault) ∙ is in cc e
never_refused why (inr ((JsonFault.Syntax at), other, is, told)) = is.0.none generated_tree line_json
never_refused why (inr ((JsonFault.Utf8 at), other, is, told)) = is.0.none generated_tree line_json
never_refused why (inr ((JsonFault.Depth at), other, is, told)) = is.0.none generated_tree line_json
never_refused why (inr (JsonFault.OutOfMemory, other, is, told)) = other refl

-- the roster has sixteen campaigns
pub sixteen : (r : Roster) → IsRosterLine generated_line r → length r.campaigns ≡ 16
sixteen r (t, json, is) =
    let says = says_at 8 roster_rows (Some generated_tree) r (subst (λ (u : Tree). IsRoster u r) (one_json generated_line t generated_tree json line_json) is).1 in
    AllZip-long (Say (campaign_rows (bidder_names (Some generated_tree)) [])) (listed (codes "campaigns") (Some generated_tree)) r.campaigns says

-- and a digest of 32 bytes
pub digest_long : (r : Roster) → IsRosterLine generated_line r → length r.digest ≡ 32
digest_long r (t, json, is) = ap length (says_at 16 roster_rows (Some t) r is.1) ∙ length-sha256 (spelling (digest_tree (Some t)))
