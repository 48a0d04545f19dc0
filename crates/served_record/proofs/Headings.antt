-- What a record takes of a roster: its date, and campaigns that differ.
use Rattle.std.proofs.Common.{◌≡◌, ℕ, zero, suc, ◌+◌, ◌≤◌, List, [], ◌∷◌, map, length, refl, sym, ap, ap₂, ◌∙◌, subst, arith, Bool, true, false, not, ◌&&◌, ◌||◌, ◌==◌, if◌then◌else◌, bytes_eq, codes, IsTrue}
use Rattle.std.specs.List.{All, AllPairs, list_all, list_any, enumerate_from}
use Rattle.std.proofs.lemmas.List.{length-map}
use Rattle.std.proofs.lemmas.Slice.Eq.{bytes_eq-Decides}
use Rattle.adx_units.specs.Number.{is_digit}
use Rattle.adx_units.specs.declared.units.Units.{Units}
use Rattle.formats.specs.Days.{is_day, zeroed}
use Rattle.bid_record.specs.Records.{Differ, IsCampaign}
use Rattle.bid_record.specs.declared.rows.CampaignRow.{CampaignRow}
use Rattle.campaign_book.specs.Accounts.{IsBudget}
use Rattle.day_rules.specs.Terms.{AreTerms, terms_of}
use Rattle.day_rules.specs.declared.limits.DayLimits.{DayLimits}
use Rattle.day_rules.specs.declared.limits.TheConstants.{MAX_AUCTIONS, MAX_BIDS, MAX_TEXT}
use Rattle.deal_floor.specs.Forms.{is_date, is_date_byte}
use Rattle.deal_floor.specs.Pairs.{all_pairs_distinct, pair_of, same_pair}
use Rattle.deal_floor.specs.declared.campaign.Campaign.{Campaign}
use Rattle.deal_floor.specs.declared.roster.Roster.{Roster}
use Rattle.day_rules.specs.declared.entry.Entry.{Entry}
use Rattle.served_record.specs.Days.{IsHeading, budgets_of, campaign_row, campaign_rows}
use Rattle.served_record.proofs.Campaigns.{rows_length}

-- the form of a date from a place on, and of so many bytes
abbrev form_byte : ℕ → ℕ
form_byte place = if place == 4 || place == 7 then 45 else 48

abbrev form_from : ℕ → ℕ → List ℕ
form_from place zero = []
form_from place (suc n) = form_byte place ∷ form_from (place + 1) n

digit_zeroed : (b : ℕ) → is_digit b ≡ true → zeroed b ≡ 48
digit_zeroed b h = ap (λ (d : Bool). if d then 48 else b) h

dash_zeroed : (b : ℕ) → (b == 45) ≡ true → zeroed b ≡ 45
dash_zeroed b h = grind (arith, h)

byte_zeroed : (dash : Bool) (b : ℕ) → (if dash then b == 45 else is_digit b) ≡ true → zeroed b ≡ (if dash then 45 else 48)
byte_zeroed true b h = dash_zeroed b h
byte_zeroed false b h = digit_zeroed b h

both_are : (a b : Bool) → (a && b) ≡ true → (a ≡ true) × (b ≡ true)
both_are true b h = (refl, h)
both_are false b h = cc

all_zeroed : (place : ℕ) (t : List ℕ) → list_all (λ (p : ℕ × ℕ). is_date_byte p.0 p.1) (enumerate_from place t) ≡ true → map zeroed t ≡ form_from place (length t)
all_zeroed place [] h = refl
all_zeroed place (b ∷ bs) h =
    let parts = both_are (is_date_byte place b) (list_all (λ (p : ℕ × ℕ). is_date_byte p.0 p.1) (enumerate_from (place + 1) bs)) h in
    ap₂ (λ (x : ℕ) (xs : List ℕ). x ∷ xs) (byte_zeroed (place == 4 || place == 7) b parts.0) (all_zeroed (place + 1) bs parts.1)

ten_long : (t : List ℕ) → (length t == 10) ≡ true → length t ≡ 10
ten_long t h = grind (arith, h)

-- the date of a roster is the day of a record
date_is_day : (t : List ℕ) → is_date t ≡ true → IsTrue (is_day t)
date_is_day t h =
    let parts = both_are (length t == 10) (list_all (λ (p : ℕ × ℕ). is_date_byte p.0 p.1) (enumerate_from 0 t)) h in
    (bytes_eq-Decides (map zeroed t) (codes "0000-00-00")).1 (all_zeroed 0 t parts.1 ∙ ap (form_from 0) (ten_long t parts.0))

or_false : (a b : Bool) → (a || b) ≡ false → (a ≡ false) × (b ≡ false)
or_false false b h = (refl, h)
or_false true b h = cc

not_true : (a b : Bool) → (not a && b) ≡ true → (a ≡ false) × (b ≡ true)
not_true false b h = (refl, h)
not_true true b h = cc

differ_by : (a b : Bool) → (a && b) ≡ false → a ≡ true → b ≡ true → ⊥
differ_by a b h x y = cc

campaigns_differ : (history : List Entry) (m n : ℕ) (c d : Campaign) → same_pair (pair_of c) (pair_of d) ≡ false → Differ (campaign_row history (m, c)) (campaign_row history (n, d))
campaigns_differ history m n c d h same = differ_by (bytes_eq c.seat d.seat) (bytes_eq c.cid d.cid) h ((bytes_eq-Decides c.seat d.seat).1 same.0) ((bytes_eq-Decides c.cid d.cid).1 same.1)

-- a campaign differs from each later one
differs_from : (history : List Entry) (m n : ℕ) (c : Campaign) (cs : List Campaign) → list_any (same_pair (pair_of c)) (map pair_of cs) ≡ false → All (Differ (campaign_row history (m, c))) (map (campaign_row history) (enumerate_from n cs))
differs_from history m n c [] h k d below = absurd (omega (arith, below))
differs_from history m n c (e ∷ es) h zero d below = campaigns_differ history m n c e (or_false (same_pair (pair_of c) (pair_of e)) (list_any (same_pair (pair_of c)) (map pair_of es)) h).0
differs_from history m n c (e ∷ es) h (suc k) d below = differs_from history m (n + 1) c es (or_false (same_pair (pair_of c) (pair_of e)) (list_any (same_pair (pair_of c)) (map pair_of es)) h).1 k d (omega (arith, below))

rows_differ : (history : List Entry) (n : ℕ) (cs : List Campaign) → all_pairs_distinct (map pair_of cs) ≡ true → AllPairs Differ (map (campaign_row history) (enumerate_from n cs))
rows_differ history n [] h i j d less below = absurd (omega (arith, below))
rows_differ history n (c ∷ cs) h i zero d less below = absurd (omega (arith, less))
rows_differ history n (c ∷ cs) h zero (suc j) d less below = differs_from history n (n + 1) c cs (not_true (list_any (same_pair (pair_of c)) (map pair_of cs)) (all_pairs_distinct (map pair_of cs)) h).0 j d (omega (arith, below))
rows_differ history n (c ∷ cs) h (suc i) (suc j) d less below = rows_differ history (n + 1) cs (not_true (list_any (same_pair (pair_of c)) (map pair_of cs)) (all_pairs_distinct (map pair_of cs)) h).1 i j d (omega (arith, less)) (omega (arith, below))

-- the day and the campaigns of a roster are a heading
pub roster_heading : (r : Roster) (history : List Entry) (day : List ℕ) (rows : List CampaignRow) → day ≡ r.day → rows ≡ campaign_rows r.campaigns history → All (IsCampaign 2) rows → IsHeading day rows
roster_heading r history day rows dated_is rows_are sound =
    let long : length rows ≡ length r.campaigns = ap (λ (cs : List CampaignRow). length cs) rows_are ∙ rows_length r.campaigns history in
    record {
      dated = subst (λ (t : List ℕ). IsTrue (is_day t)) (sym dated_is) (date_is_day r.day r.dated);
      some_campaign = omega (arith, long, r.some_campaign);
      few_campaigns = omega (arith, long, r.few_campaigns);
      each_campaign = sound;
      distinct = subst (AllPairs Differ) (sym rows_are) (rows_differ history 0 r.campaigns r.distinct_pairs);
    }

budgets_are : (cs : List Campaign) → All IsBudget (budgets_of cs)
budgets_are [] k d below = absurd (omega (arith, below))
budgets_are (c ∷ cs) zero d below = (c.positive, c.in_range)
budgets_are (c ∷ cs) (suc k) d below = budgets_are cs k d (omega (arith, below))

-- a day may be opened with the budgets of a roster
pub roster_terms : (r : Roster) (budgets : List Units) (limits : DayLimits) → budgets ≡ budgets_of r.campaigns → limits.auctions ≤ MAX_AUCTIONS → limits.bids ≤ MAX_BIDS → limits.text ≤ MAX_TEXT → AreTerms (terms_of budgets limits)
roster_terms r budgets limits are auctions bids text =
    let long : length budgets ≡ length r.campaigns = ap (λ (bs : List Units). length bs) are ∙ length-map r.campaigns (λ (c : Campaign). c.budget) in
    record {
      some_budget = omega (arith, long, r.some_campaign);
      few_budgets = omega (arith, long, r.few_campaigns);
      budgets = subst (All IsBudget) (sym are) (budgets_are r.campaigns);
      auctions = auctions;
      bids = bids;
      text = text;
    }
