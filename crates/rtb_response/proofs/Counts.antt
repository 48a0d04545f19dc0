-- Seat by seat: the bids that are counted, and whether each seat has a list of bids; what seats that have one say.
use Rattle.std.proofs.Common.{◌≡◌, ℕ, ◌+◌, ◌≤◌, List, [], ◌∷◌, ◌++◌, drop, length, min, nat_le, Bool, true, false, cond, ◌&&◌, Option, Some, None, refl, sym, ap, ap₂, ◌∙◌, arith}
use Rattle.std.specs.List.{AllZip, list_all, sum_by}
use Rattle.std.proofs.Math.ListN.{drop_of_length-le}
use Rattle.std.proofs.lemmas.Bool.{le-leb}
use Rattle.std.proofs.lemmas.List.{length-map}
use Rattle.std.proofs.lemmas.List.Sums.{sum_by-cons}
use Rattle.std.proofs.lemmas.Slice.Zip.{AllZip-long}
use Rattle.adx_json.specs.Tree.{Tree}
use Rattle.adx_json.specs.View.{tree_of, trees_of}
use Rattle.adx_json.specs.declared.tree.Json.{Json}
use Rattle.adx_json.specs.Rows.{first_among, first_fault, or_else}
use Rattle.adx_json.proofs.Listing.{Say}
use Rattle.rtb_response.specs.Answers.{bid_count, seat_rows}
use Rattle.rtb_response.specs.Bids.{bid_rows}
use Rattle.rtb_response.specs.Seats.{bids_in, has_bids}
use Rattle.rtb_response.specs.declared.bid_answer.SeatBid.{SeatBid}
use Rattle.rtb_response.specs.declared.fault.AnswerFault.{AnswerFault}
use Rattle.rtb_response.specs.declared.fault.AnswerFault.TheVariants.{BadField}
use Rattle.rtb_response.specs.declared.fault.Field.TheVariants.{SeatbidBid}

pub fails_here : (t : Tree) (ts us : List Tree) (whole : Bool) → us ≡ t ∷ ts → has_bids t ≡ false → list_all has_bids us ≡ whole → whole ≡ false
fails_here t ts us whole left none h = sym h ∙ ap (list_all has_bids) left ∙ ap (λ b. b && list_all has_bids ts) none

pub goes_on : (t : Tree) (ts us : List Tree) (whole : Bool) → us ≡ t ∷ ts → has_bids t ≡ true → list_all has_bids us ≡ whole → list_all has_bids ts ≡ whole
goes_on t ts us whole left has h = sym (ap (λ b. b && list_all has_bids ts) has) ∙ sym (ap (list_all has_bids) left) ∙ h

pub length_is : (bids : List Json) (t : Tree) → trees_of bids ≡ bids_in t → length bids ≡ length (bids_in t)
length_is bids t h = sym (length-map bids tree_of) ∙ ap length h

pub counted_on : (n len m k whole : ℕ) (t : Tree) (ts us : List Tree) → us ≡ t ∷ ts → len ≡ length (bids_in t) → m ≡ min len 65 → k ≡ min (n + m) 65
    → min (n + bid_count us) 65 ≡ whole → min (k + bid_count ts) 65 ≡ whole
counted_on n len m k whole t ts us left is em ek h =
    let e : bid_count us ≡ length (bids_in t) + bid_count ts = ap bid_count left ∙ sum_by-cons (λ (u : Tree). length (bids_in u)) t ts in omega arith

pub counted_all : (seats : List Json) (i n whole : ℕ) → length seats ≤ i → n ≤ 65 → min (n + bid_count (trees_of (drop i seats))) 65 ≡ whole → n ≡ whole
counted_all seats i n whole end small h =
    let e : bid_count (trees_of (drop i seats)) ≡ 0 = ap (λ l. bid_count (trees_of l)) (drop_of_length-le seats end) in omega arith

pub each_has : (seats : List Json) (i : ℕ) (whole : Bool) → length seats ≤ i → list_all has_bids (trees_of (drop i seats)) ≡ whole → whole ≡ true
each_has seats i whole end h = sym h ∙ ap (λ l. list_all has_bids (trees_of l)) (drop_of_length-le seats end)

-- bids have no fault, and a seat has one where it has no list of bids
bids_faultless : (before ts : List Tree) → first_among (λ us. bid_rows) before ts ≡ None
bids_faultless before [] = refl
bids_faultless before (t ∷ ts) = bids_faultless (before ++ t ∷ []) ts

abbrev pub seat_fault : Bool → Option AnswerFault
seat_fault has = cond has None (Some (BadField SeatbidBid))

one_fault : (t : Tree) → first_fault seat_rows (Some t) ≡ seat_fault (has_bids t)
one_fault t = by (has_bids t)
  where
    by : (has : Bool) → or_else (seat_fault has) (or_else (first_among (λ us. bid_rows) [] (bids_in t)) None) ≡ seat_fault has
    by true = ap (λ o. or_else o None) (bids_faultless [] (bids_in t))
    by false = refl

pub seats_fault : (before ts : List Tree) → first_among (λ us. seat_rows) before ts ≡ seat_fault (list_all has_bids ts)
seats_fault before [] = refl
seats_fault before (t ∷ ts) = ap₂ or_else (one_fault t) (seats_fault (before ++ t ∷ []) ts) ∙ by (has_bids t)
  where
    by : (has : Bool) → or_else (seat_fault has) (seat_fault (list_all has_bids ts)) ≡ seat_fault (has && list_all has_bids ts)
    by true = refl
    by false = refl

-- the seats of some trees have as many bids as these
pub seats_bids : (ts : List Tree) (ss : List SeatBid) → AllZip (Say seat_rows) ts ss → sum_by (λ (s : SeatBid). length s.bids) ss ≡ bid_count ts
seats_bids [] [] h = refl
seats_bids [] (s ∷ ss) h = absurd h
seats_bids (t ∷ ts) [] h = absurd h
seats_bids (t ∷ ts) (s ∷ ss) h =
    sum_by-cons (λ (r : SeatBid). length r.bids) s ss ∙ ap₂ (λ m n. m + n) (AllZip-long (Say bid_rows) (bids_in t) s.bids h.0.1.1.1.0) (seats_bids ts ss h.1)
    ∙ sym (sum_by-cons (λ (u : Tree). length (bids_in u)) t ts)

-- the seats that were read have no more bids than the most
pub few_bids : (ss items : List SeatBid) (ts : List Tree) (n : ℕ) → ss ≡ items → AllZip (Say seat_rows) ts items → n ≡ min (bid_count ts) 65 → n ≤ 64
    → sum_by (λ (s : SeatBid). length s.bids) ss ≤ 64
few_bids ss items ts n same says counted few =
    let e : sum_by (λ (s : SeatBid). length s.bids) ss ≡ bid_count ts = ap (sum_by (λ (s : SeatBid). length s.bids)) same ∙ seats_bids ts items says in
    omega arith

-- as many bids as may be were counted
pub few_told : (ts us : List Tree) (n : ℕ) → ts ≡ us → n ≡ min (bid_count ts) 65 → n ≤ 64 → nat_le (bid_count us) 64 ≡ true
few_told ts us n same counted few = let e : bid_count ts ≡ bid_count us = ap bid_count same in le-leb (bid_count us) 64 (omega arith)
