-- Bids that are taken, one behind the other.
use Rattle.std.proofs.Common.{◌≡◌, ◌≤◌, ◌<◌, ℕ, ◌+◌, List, [], ◌∷◌, ◌++◌, All, take, get_or, length, map, Option, refl, sym, ap, ap₂, ◌∙◌, ◌*◌, subst, append-nil, append_assoc, arith}
use mathlib.Core.List.{reverse}
use Rattle.std.specs.List.{enumerate_from, flat_map, sum_by}
use Rattle.std.proofs.lemmas.List.{length-map, map-append, length-append, take_more}
use Rattle.std.proofs.lemmas.List.Sums.{sum_by-cons}
use Rattle.std.proofs.lemmas.Grind.{flat_map-append}
use Rattle.std.proofs.lemmas.List.Elements.{All-append, All-cons, All-nil}
use Rattle.day_rules.proofs.Lists.{enumerate-append}
use Rattle.adx_units.specs.declared.offer.Offer.{Offer}
use Rattle.rtb_request.specs.declared.bid_request.BidRequest.{BidRequest}
use Rattle.deal_floor.specs.declared.campaign.Campaign.{Campaign}
use Rattle.day_rules.specs.declared.ask.Kept.{Kept}
use Rattle.rtb_response.specs.declared.bid.Bid.{Bid}
use Rattle.rtb_response.specs.declared.bid_answer.SeatBid.{SeatBid}
use Rattle.rtb_response.specs.declared.bid_answer.BidAnswer.{BidAnswer}
use Rattle.script_lines.specs.Making.{SeatedBid, seated, bids_of_seat, bids_of, all_bids, offer_of, kept_of}
use Rattle.script_lines.specs.Parts.{AreOf, FitsDay}

-- a seat's bids more
pub seat_more : (r : BidRequest) (cs : List Campaign) (bids more : List SeatedBid) (offers more_offers : List Offer) (kept more_kept : List Kept) (place : ℕ)
    → more_offers ≡ offers ++ map (offer_of r cs) more → All (FitsDay r cs) more → place ≡ length offers → more_kept ≡ kept ++ map kept_of (enumerate_from place more)
    → AreOf r cs bids offers kept → AreOf r cs (bids ++ more) more_offers more_kept
seat_more r cs bids more offers more_offers kept more_kept place put fit at put_kept h =
    let counted : place ≡ 0 + length bids = at ∙ ap length h.offers_are ∙ length-map bids (offer_of r cs) ∙ omega arith in
    record {
      offers_are = put ∙ ap (λ os. os ++ map (offer_of r cs) more) h.offers_are ∙ sym (map-append (offer_of r cs) bids more);
      kept_are =
          put_kept
          ∙ ap₂ (λ ks n. ks ++ map kept_of (enumerate_from n more)) h.kept_are counted
          ∙ sym (map-append kept_of (enumerate_from 0 bids) (enumerate_from (0 + length bids) more))
          ∙ sym (ap (map kept_of) (enumerate-append 0 bids more));
      fit = All-append (FitsDay r cs) bids more h.fit fit;
    }

-- an offer more of a seat
pub offers_more : (r : BidRequest) (cs : List Campaign) (f : Bid → SeatedBid) (bids : List Bid) (i : ℕ) (b d : Bid) (old offers more : List Offer) (o : Offer)
    → i < length bids → b ≡ get_or bids i d → offers ≡ old ++ map (offer_of r cs) (map f (take i bids)) → more ≡ offers ++ o ∷ [] → o ≡ offer_of r cs (f b)
    → more ≡ old ++ map (offer_of r cs) (map f (take (i + 1) bids))
offers_more r cs f bids i b d old offers more o low at before put is =
    let g = offer_of r cs in
    let x = get_or bids i d in
    put
    ∙ ap₂ (λ os y. os ++ y ∷ []) before (is ∙ ap (λ c. g (f c)) at)
    ∙ append_assoc old (map g (map f (take i bids))) (g (f x) ∷ [])
    ∙ ap (λ os. old ++ os) (sym (map-append g (map f (take i bids)) (f x ∷ [])) ∙ ap (map g) (sym (map-append f (take i bids) (x ∷ [])) ∙ sym (ap (map f) (take_more bids i d low))))

-- and it fits
pub fits_more : (r : BidRequest) (cs : List Campaign) (f : Bid → SeatedBid) (bids : List Bid) (i : ℕ) (b d : Bid)
    → i < length bids → b ≡ get_or bids i d → All (FitsDay r cs) (map f (take i bids)) → FitsDay r cs (f b) → All (FitsDay r cs) (map f (take (i + 1) bids))
fits_more r cs f bids i b d low at before here =
    let x = get_or bids i d in
    subst (All (FitsDay r cs)) (sym (ap (map f) (take_more bids i d low) ∙ map-append f (take i bids) (x ∷ [])))
    (All-append (FitsDay r cs) (map f (take i bids)) (f x ∷ []) before (All-cons (FitsDay r cs) (f x) [] (subst (λ c. FitsDay r cs (f c)) at here) (All-nil (FitsDay r cs))))

-- a bid's texts behind those of the seat's bids before it
pub text_more : (f : Bid → SeatedBid) (taken : List Bid) (b : Bid) (first place : ℕ) (old kept more : List Kept) (k : Kept)
    → kept ≡ old ++ map kept_of (enumerate_from first (map f taken)) → more ≡ kept ++ k ∷ [] → place ≡ first + length taken → k ≡ kept_of (place, f b)
    → more ≡ old ++ map kept_of (enumerate_from first (map f (taken ++ b ∷ [])))
text_more f taken b first place old kept more k before put at is =
    let bids = map f taken in
    let n = first + length bids in
    put
    ∙ ap₂ (λ ks y. ks ++ y ∷ []) before (is ∙ ap (λ m. kept_of (m, f b)) (at ∙ ap (λ m. first + m) (sym (length-map taken f))))
    ∙ append_assoc old (map kept_of (enumerate_from first bids)) (kept_of (n, f b) ∷ [])
    ∙ ap (λ ks. old ++ ks)
    (sym (map-append kept_of (enumerate_from first bids) ((n, f b) ∷ []))
    ∙ ap (map kept_of) (sym (enumerate-append first bids (f b ∷ [])) ∙ sym (ap (enumerate_from first) (map-append f taken (b ∷ [])))))

pub placed_more : {X : Type 0} (first place : ℕ) (taken : List X) (x : X) → place ≡ first + length taken → place + 1 ≡ first + length (taken ++ x ∷ [])
placed_more first place taken x at = let e = length-append taken (x ∷ []) in omega arith

-- the next seat's bids fit
pub seat_fits : (bidder : ℕ) (bidid : List ℕ) (seats taken : List SeatBid) (s : SeatBid) (rest : List SeatBid) (before now most : ℕ)
    → (taken ++ s ∷ []) ++ rest ≡ seats
    → now ≡ before + length (flat_map (bids_of_seat bidder bidid) taken) → before + length (flat_map (bids_of_seat bidder bidid) seats) < most
    → now + length s.bids < most
seat_fits bidder bidid seats taken s rest before now most whole counted few =
    let f = bids_of_seat bidder bidid in
    let parts : length (flat_map f seats) ≡ (length (flat_map f taken) + (length (f s) + 0)) + length (flat_map f rest) =
    sym (ap (λ l. length (flat_map f l)) whole)
    ∙ ap length (flat_map-append f (taken ++ s ∷ []) rest)
    ∙ length-append (flat_map f (taken ++ s ∷ [])) (flat_map f rest)
    ∙ ap (λ n. n + length (flat_map f rest)) (ap length (flat_map-append f taken (s ∷ [])) ∙ length-append (flat_map f taken) (f s ++ []) ∙ ap (λ n. length (flat_map f taken) + n) (length-append (f s) [])) in
    let here : length (f s) ≡ length s.bids = length-map s.bids (seated bidder bidid s) in
    omega arith

-- an answer has as many bids as its seats together
pub count_is : (bidder : ℕ) (bidid : List ℕ) (seats : List SeatBid)
    → length (flat_map (bids_of_seat bidder bidid) seats) ≡ sum_by (λ (s : SeatBid). length s.bids) seats
count_is bidder bidid [] = refl
count_is bidder bidid (s ∷ seats) =
    length-append (bids_of_seat bidder bidid s) (flat_map (bids_of_seat bidder bidid) seats)
    ∙ ap₂ (λ m n. m + n) (length-map s.bids (seated bidder bidid s)) (count_is bidder bidid seats)
    ∙ sym (sum_by-cons (λ (t : SeatBid). length t.bids) s seats)

-- an answer more
pub answered_more : (taken : List (Option BidAnswer)) (a : Option BidAnswer) → all_bids (taken ++ a ∷ []) ≡ all_bids taken ++ bids_of (length taken, a)
answered_more taken a =
    let long : 0 + length taken ≡ length taken = omega arith in
    ap (flat_map bids_of) (enumerate-append 0 taken (a ∷ [])) ∙ ap (λ n. flat_map bids_of (enumerate_from 0 taken ++ (n, a) ∷ [])) long
    ∙ flat_map-append bids_of (enumerate_from 0 taken) ((length taken, a) ∷ []) ∙ ap (λ l. all_bids taken ++ l) (append-nil (bids_of (length taken, a)))

-- a bidder's bids more
pub taken_on : (r : BidRequest) (cs : List Campaign) (taken : List (Option BidAnswer)) (a : Option BidAnswer) (bidder : ℕ) (offers : List Offer) (kept : List Kept)
    → bidder ≡ length taken → AreOf r cs (all_bids taken ++ bids_of (bidder, a)) offers kept → AreOf r cs (all_bids (taken ++ a ∷ [])) offers kept
taken_on r cs taken a bidder offers kept at h =
    subst (λ bids. AreOf r cs bids offers kept) (ap (λ n. all_bids taken ++ bids_of (n, a)) at ∙ sym (answered_more taken a)) h

-- no more were taken than there are
pub taken_within : {X : Type 0} (n : ℕ) (taken left all : List X) → n ≡ length taken → taken ++ reverse left ≡ all → n ≤ length all
taken_within n taken left all is behind =
    let e = ap length behind in let f = length-append taken (reverse left) in omega arith

-- a seat's bids more, behind those of the seats before it
pub seat_on : (r : BidRequest) (cs : List Campaign) (bidder : ℕ) (bidid : List ℕ) (bids : List SeatedBid) (taken : List SeatBid) (s : SeatBid) (offers : List Offer) (kept : List Kept)
    → AreOf r cs ((bids ++ flat_map (bids_of_seat bidder bidid) taken) ++ bids_of_seat bidder bidid s) offers kept
    → AreOf r cs (bids ++ flat_map (bids_of_seat bidder bidid) (taken ++ s ∷ [])) offers kept
seat_on r cs bidder bidid bids taken s offers kept h =
    let f = bids_of_seat bidder bidid in
    subst (λ xs. AreOf r cs xs offers kept)
    (append_assoc bids (flat_map f taken) (f s) ∙ ap (λ l. bids ++ l) (ap (λ l. flat_map f taken ++ l) (sym (append-nil (f s))) ∙ sym (flat_map-append f taken (s ∷ [])))) h

-- and so many more offers
pub count_on : (bidder : ℕ) (bidid : List ℕ) (taken : List SeatBid) (s : SeatBid) (before now new : ℕ)
    → now ≡ before + length (flat_map (bids_of_seat bidder bidid) taken) → new ≡ now + length s.bids → new ≡ before + length (flat_map (bids_of_seat bidder bidid) (taken ++ s ∷ []))
count_on bidder bidid taken s before now new counted more =
    let f = bids_of_seat bidder bidid in
    let whole : length (flat_map f (taken ++ s ∷ [])) ≡ length (flat_map f taken) + (length (f s) + 0) =
    ap length (flat_map-append f taken (s ∷ [])) ∙ length-append (flat_map f taken) (f s ++ []) ∙ ap (λ n. length (flat_map f taken) + n) (length-append (f s) []) in
    let here : length (f s) ≡ length s.bids = length-map s.bids (seated bidder bidid s) in
    omega arith

-- its bids fit where 64 do
pub answer_fits : (bidder : ℕ) (bidid : List ℕ) (seats : List SeatBid) (before most : ℕ) → sum_by (λ (s : SeatBid). length s.bids) seats ≤ 64
    → before + 64 < most → before + length (flat_map (bids_of_seat bidder bidid) seats) < most
answer_fits bidder bidid seats before most few room = let e = count_is bidder bidid seats in omega arith

pub answer_few : (bidder : ℕ) (bidid : List ℕ) (seats : List SeatBid) (before after : ℕ) → sum_by (λ (s : SeatBid). length s.bids) seats ≤ 64
    → after ≡ before + length (flat_map (bids_of_seat bidder bidid) seats) → after ≤ before + 64
answer_few bidder bidid seats before after few counted = let e = count_is bidder bidid seats in omega arith

-- the bids of so many answers are as many as an ask takes
pub few_in_all : (i n answers bidders : ℕ) → n ≤ 64 * i → i ≤ answers → answers ≤ bidders → bidders ≤ 16 → n ≤ 1024
few_in_all i n answers bidders few within fit most = omega arith

pub few_more : (i n m : ℕ) → n ≤ 64 * i → m ≤ n + 64 → m ≤ 64 * (i + 1)
few_more i n m few more = omega arith
