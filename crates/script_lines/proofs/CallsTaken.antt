-- The call that a line means is one that a day takes.
use Rattle.std.proofs.Common.{◌≡◌, ℕ, ◌+◌, ◌*◌, ◌≤◌, List, [], ◌∷◌, map, length, Bool, true, false, cond, ◌&&◌, ◌==◌, nat_le, codes, is_ok, Option, Some, None, Result, Ok, Err, get_or, refl, sym, ap, subst, arith}
use Rattle.std.specs.List.{list_all, flat_map, enumerate_from}
use Rattle.std.proofs.lemmas.Bool.{leb-true}
use Rattle.std.proofs.lemmas.List.{length-map, length-append}
use Rattle.std.proofs.lemmas.Slice.Zip.{AllZip-long}
use Rattle.adx_json.specs.Named.{member_in}
use Rattle.adx_json.specs.Tree.{Tree, null, boolean, number, text, list, object}
use Rattle.adx_units.specs.Money.{budget_of}
use Rattle.adx_units.specs.declared.price.PriceFault.{PriceFault}
use Rattle.adx_units.specs.declared.units.Units.{Units}
use Rattle.rtb_request.specs.Amounts.{units_or_zero}
use Rattle.adx_json.specs.Values.{list_items, number_in, text_in, whole_by}
use Rattle.notice_book.specs.declared.kind.NoticeKind.{NoticeKind}
use Rattle.rtb_request.proofs.Distinct.{and_true}
use Rattle.rtb_request.specs.declared.bid_request.BidRequest.{BidRequest}
use Rattle.rtb_response.specs.declared.bid_answer.BidAnswer.{BidAnswer}
use Rattle.day_rules.specs.Replies.{Call, ask, notice, tick, set_budget}
use Rattle.day_rules.specs.Runs.{IsCall}
use Rattle.deal_floor.specs.declared.campaign.Campaign.{Campaign}
use Rattle.deal_floor.specs.declared.roster.Roster.{Roster}
use Rattle.script_lines.specs.Making.{bids_of, all_bids, offer_of, kept_of, ask_of}
use Rattle.script_lines.specs.Parts.{AreOf}
use Rattle.script_lines.proofs.Formed.{well_formed, undecided}
use Rattle.script_lines.proofs.Taking.{count_is}
use Rattle.script_lines.specs.Changes.{change_by, change_in, pair_place}
use Rattle.script_lines.specs.Members.{answers_in, is_null_or_object, ask_moment, change_number, from_one, moment_in}
use Rattle.script_lines.specs.Meanings.{Meaning, calls, refused, GivesAnswer, RequestMeans, AskMeans, MeansBy, change_meaning, notice_meaning, tick_meaning}
use Rattle.script_lines.specs.declared.limits.TheConstants.{LATEST_MOMENT, LAST_CHANGE}
use Rattle.script_lines.proofs.Bounds.{IsBudget, budget_text_is, not_zero, whole_by_low}
use Rattle.script_lines.proofs.BidsFit.{fits_day}

-- the bids of so many answers are at most 64 times as many
few_bids : (bidder : ℕ) (o : Option BidAnswer) → length (bids_of (bidder, o)) ≤ 64
few_bids bidder None = omega arith
few_bids bidder (Some a) =
    let e = count_is bidder a.bidid a.seats in
    let few = a.few in
    omega (arith, e, few)

few_in : (n : ℕ) (answers : List (Option BidAnswer)) → length (flat_map bids_of (enumerate_from n answers)) ≤ 64 * length answers
few_in n [] = omega arith
few_in n (o ∷ os) =
    let e = length-append (bids_of (n, o)) (flat_map bids_of (enumerate_from (n + 1) os)) in
    let first = few_bids n o in
    let rest = few_in (n + 1) os in
    omega (arith, e, first, rest)

-- an ask of a request and answers
asked_taken : (r : BidRequest) (cs : List Campaign) (answers : List (Option BidAnswer)) (now : ℕ) → length answers ≤ 16 → now ≤ LATEST_MOMENT
    → IsCall (length cs) (ask (ask_of r cs answers now))
asked_taken r cs answers now few soon =
    let bids = all_bids answers in
    let offers = map (offer_of r cs) bids in
    let kept = map kept_of (enumerate_from 0 bids) in
    let made : AreOf r cs bids offers kept = record { offers_are = refl; kept_are = refl; fit = λ k d low. fits_day r cs (get_or bids k d) } in
    let many = length-map bids (offer_of r cs) in
    let most = few_in 0 answers in (
      well_formed r cs bids offers kept made (ask_of r cs answers now) refl refl refl (omega (arith, soon)) (omega (arith, many, most, few)),
      undecided r cs bids offers kept made offers refl,
    )

-- the answers of a line are as few as the bidders
answers_by_few : (b : Bool) (ts us : List Tree) (bidders : ℕ) → (b ≡ true → length ts ≤ bidders) → cond b (Some ts) None ≡ Some us → length us ≤ bidders
answers_by_few true ts us bidders low h = let same : ts ≡ us = cc h in subst (λ l. length l ≤ bidders) same (low refl)
answers_by_few false ts us bidders low h = absurd (cc h)

answers_few : (bidders : ℕ) (v : Option Tree) (us : List Tree) → answers_in bidders v ≡ Some us → length us ≤ bidders
answers_few bidders None us h = let same : [] ≡ us = cc h in subst (λ l. length l ≤ bidders) same (omega arith)
answers_few bidders (Some null) us h = absurd (cc h)
answers_few bidders (Some (boolean b)) us h = absurd (cc h)
answers_few bidders (Some (number n)) us h = absurd (cc h)
answers_few bidders (Some (text t)) us h = absurd (cc h)
answers_few bidders (Some (list ts)) us h =
    answers_by_few (nat_le (length (list_items ts)) bidders && list_all is_null_or_object (list_items ts)) (list_items ts) us bidders
    (λ e. leb-true (length (list_items ts)) bidders (and_true (nat_le (length (list_items ts)) bidders) (list_all is_null_or_object (list_items ts)) e).0) h
answers_few bidders (Some (object ms)) us h = absurd (cc h)

moment_soon : (v : Option Tree) (n : ℕ) → moment_in v ≡ Some n → n ≤ LATEST_MOMENT
moment_soon v n h = whole_by_low LATEST_MOMENT (number_in v) n h

ask_soon : (v : Option Tree) (n : ℕ) → ask_moment v ≡ Some n → n ≤ LATEST_MOMENT
ask_soon None n h = let same : 0 ≡ n = cc h in omega (arith, same)
ask_soon (Some t) n h = moment_soon (Some t) n h

request_taken : (r : Roster) (t : Tree) (ts : List Tree) (now : ℕ) (c : Call) → length ts ≤ length r.bidders → now ≤ LATEST_MOMENT
    → RequestMeans r t ts now (calls c) → IsCall (length r.campaigns) c
request_taken r t ts now (ask a) few soon h =
    let long = AllZip-long (GivesAnswer h.asked.id) ts h.answered h.answers in
    let bidders = r.few_bidders in
    subst (λ b. IsCall (length r.campaigns) (ask b)) (sym h.made) (asked_taken h.asked r.campaigns h.answered now (omega (arith, long, few, bidders)) soon)
request_taken r t ts now (notice kind auction award) few soon h = absurd h
request_taken r t ts now (tick moment) few soon h = absurd h
request_taken r t ts now (set_budget change) few soon h = absurd h

ask_taken : (r : Roster) (t : Tree) (answers : Option (List Tree)) (now : Option ℕ) (c : Call)
    → ((ts : List Tree) → answers ≡ Some ts → length ts ≤ length r.bidders) → ((n : ℕ) → now ≡ Some n → n ≤ LATEST_MOMENT)
    → AskMeans r t answers now (calls c) → IsCall (length r.campaigns) c
ask_taken r t None now c few soon h = absurd (cc h)
ask_taken r t (Some ts) None c few soon h = absurd (cc h)
ask_taken r t (Some ts) (Some n) c few soon h = request_taken r t ts n c (few ts refl) (soon n refl) h

-- a meaning is a call that a day takes, or a refusal
abbrev TakenIf : ℕ → Meaning → Type 0
TakenIf n (calls c) = IsCall n c
TakenIf n (refused why) = Unit {0}

notice_taken : (n : ℕ) (kind : Option NoticeKind) (auction : Option (List ℕ)) (award : Option ℕ) → TakenIf n (notice_meaning kind auction award)
notice_taken n None auction award = tt
notice_taken n (Some kind) None award = tt
notice_taken n (Some kind) (Some auction) None = tt
notice_taken n (Some kind) (Some auction) (Some award) = tt

tick_taken : (n : ℕ) (moment : Option ℕ) → ((k : ℕ) → moment ≡ Some k → k ≤ LATEST_MOMENT) → TakenIf n (tick_meaning moment)
tick_taken n None soon = tt
tick_taken n (Some k) soon = let low = soon k refl in omega (arith, low)

-- a number of a change is at least 1, and a budget is in its range
number_taken : (k : Option ℕ) (n : ℕ) → from_one k ≡ Some n → 1 ≤ n
number_taken None n h = absurd (cc h)
number_taken (Some k) n h = by (k == 0) refl h
  where
    by : (b : Bool) → (k == 0) ≡ b → cond b None (Some k) ≡ Some n → 1 ≤ n
    by true zero is = absurd (cc is)
    by false other is = let same : k ≡ n = cc is in let some = not_zero k other in omega arith

change_taken : (n campaign : ℕ) (change : Option ℕ) (budget : Result Units PriceFault) → ((k : ℕ) → change ≡ Some k → 1 ≤ k)
    → ((u : Units) → budget ≡ Ok u → IsBudget u) → TakenIf n (change_meaning (change_by campaign change budget))
change_taken n campaign None budget some range = tt
change_taken n campaign (Some k) (Err fault) some range = tt
change_taken n campaign (Some k) (Ok u) some range = (some k refl, range u refl)

named_taken : (n : ℕ) (campaigns : List Campaign) (seat cid change budget : Option (List ℕ))
    → TakenIf n (change_meaning (change_in campaigns seat cid change budget))
named_taken n campaigns None cid change budget = tt
named_taken n campaigns (Some seat) None change budget = tt
named_taken n campaigns (Some seat) (Some cid) None budget = tt
named_taken n campaigns (Some seat) (Some cid) (Some change) None = tt
named_taken n campaigns (Some seat) (Some cid) (Some change) (Some budget) =
    change_taken n (pair_place campaigns seat cid) (change_number change) (budget_of budget)
    (λ k e. number_taken (whole_by LAST_CHANGE (Some change)) k e)
    (λ u e. subst (λ r. IsBudget (units_or_zero r)) e (budget_text_is (Some budget) (ap is_ok e)))

taken_by : (r : Roster) (t : Tree) (request kind moment budget : Option Tree) (c : Call) → MeansBy r t request kind moment budget (calls c)
    → IsCall (length r.campaigns) c
taken_by r t (Some request) kind moment budget c h = ask_taken r request (answers_in (length r.bidders) (member_in (codes "answers") t)) (ask_moment (member_in (codes "now") t)) c (λ ts e. answers_few (length r.bidders) (member_in (codes "answers") t) ts e) (λ n e. ask_soon (member_in (codes "now") t) n e) h
taken_by r t None (Some kind) moment budget c h = subst (TakenIf (length r.campaigns)) (sym h) (notice_taken (length r.campaigns) _ _ _)
taken_by r t None None (Some moment) budget c h = subst (TakenIf (length r.campaigns)) (sym h) (tick_taken (length r.campaigns) (moment_in (Some moment)) (λ k e. moment_soon (Some moment) k e))
taken_by r t None None None (Some budget) c h =
    subst (TakenIf (length r.campaigns)) (sym h) (named_taken (length r.campaigns) r.campaigns (text_in (member_in (codes "seat") t)) (text_in (member_in (codes "cid") t)) (number_in (member_in (codes "change") t)) (number_in (Some budget)))
taken_by r t None None None None c h = absurd (cc h)
