-- A bidder's answer (OpenRTB 2.6, sections 4.2.1 BidResponse and 4.2.2 SeatBid): its bids, or its first fault.
-- This project's own: the order of the tests, the limit of bids, that USD is the one currency, and that the bids of a
-- seat win together or not at all where the text of `group` is `1`.
use Rattle.std.specs.Prelude.{◌≡◌, ℕ, List, [], ◌∷◌, length, Bool, is_some, ◌&&◌, nat_le, codes, Option, Some, None}
use Rattle.std.specs.List.{sum_by}
use Rattle.adx_json.specs.Tree.{Tree}
use Rattle.adx_json.specs.Rows.{Row, test, value, each, all_count, first_fault, Says}
use Rattle.adx_json.specs.Values.{given, given_within, text_in, text_or_empty, items_in, is_text, is_absent_or, is_list_if_given, is_number_text}
use Rattle.rtb_response.specs.Bids.{bid_rows}
use Rattle.rtb_response.specs.declared.bid.TheConstants.{MOST_BIDS}
use Rattle.rtb_response.specs.declared.bid_answer.BidAnswer.{BidAnswer}
use Rattle.rtb_response.specs.declared.bid_answer.SeatBid.{SeatBid}
use Rattle.rtb_response.specs.declared.fault.Field.TheVariants.{Seatbid, SeatbidBid}
use Rattle.rtb_response.specs.declared.fault.AnswerFault.{AnswerFault}
use Rattle.rtb_response.specs.declared.fault.AnswerFault.TheVariants.{NoId, OtherId, OtherCurrency, BadField, TooManyBids}

-- there is a list
abbrev pub is_list : Option Tree → Bool
is_list v = is_some v && is_list_if_given v

-- what a seat's object has to be, and the seat that it is: its name, whether all its bids have to win together, and its
-- bids in their order
abbrev pub seat_rows : List (Row SeatBid AnswerFault)
seat_rows =
    test given_within (codes "bid") is_list (BadField SeatbidBid)
    ∷ value given_within (codes "seat") text_or_empty (λ (s : SeatBid). s.seat)
    ∷ value given_within (codes "group") (is_number_text (codes "1")) (λ (s : SeatBid). s.all_or_none)
    ∷ each given_within (codes "bid") (λ others. bid_rows) all_count (λ (s : SeatBid). s.bids)
    ∷ []

-- how many bids some seats have together
abbrev pub bid_count : List Tree → ℕ
bid_count seats = sum_by (λ seat. length (items_in (given (codes "bid") seat))) seats

-- what the object of an answer to an auction has to be, and the answer that it is: the seats in their order
abbrev pub answer_rows : List ℕ → List (Row BidAnswer AnswerFault)
answer_rows auction =
    test given_within (codes "id") (λ v. is_some (text_in v)) NoId
    ∷ test given_within (codes "id") (is_text auction) OtherId
    ∷ test given_within (codes "cur") (is_absent_or (codes "USD")) OtherCurrency
    ∷ test given_within (codes "seatbid") is_list_if_given (BadField Seatbid)
    ∷ each given_within (codes "seatbid") (λ others. seat_rows) all_count (λ (a : BidAnswer). a.seats)
    ∷ test given_within (codes "seatbid") (λ v. nat_le (bid_count (items_in v)) MOST_BIDS) TooManyBids
    ∷ value given_within (codes "bidid") text_or_empty (λ (a : BidAnswer). a.bidid)
    ∷ []

-- the first fault of an answer to an auction
abbrev pub answer_fault : List ℕ → Tree → Option AnswerFault
answer_fault auction t = first_fault (answer_rows auction) (Some t)

-- the tree has no fault as an answer to the auction, and is this answer
abbrev pub IsAnswer : List ℕ → Tree → BidAnswer → Type 0
IsAnswer auction t a = (answer_fault auction t ≡ None) × Says (answer_rows auction) (Some t) a
