-- What a bidder answers to a request (OpenRTB 2.6, sections 4.2.1 BidResponse, 4.2.2 SeatBid, 4.2.3 Bid): for each
-- impression a bid at each price that reaches its floor, in the order of impressions and then of prices. This project's
-- own: the members and their order, the notice URLs with two of the macros of section 4.4, and that there are at most 64
-- bids.
use Rattle.std.specs.Prelude.{ℕ, List, [], ◌∷◌, ◌++◌, take, nat_le, codes, if◌then◌else◌, Option, Some, None}
use Rattle.std.specs.List.{enumerate_from, flat_map}
use Rattle.adx_json.specs.Tree.{Tree, text, number, list, object, items_of, members_of}
use Rattle.adx_units.specs.Money.{price_text}
use Rattle.notice_book.specs.declared.kind.NoticeKind.{NoticeKind}
use Rattle.rtb_request.specs.declared.bid_request.BidRequest.{BidRequest}
use Rattle.rtb_request.specs.declared.imp.Imp.{Imp}
use Rattle.bidder_core.specs.BidIds.{bid_id}
use Rattle.bidder_core.specs.declared.answer.TheConstants.{MOST_BIDS}
use Rattle.bidder_core.specs.declared.price_line.Price.{Price}
use Rattle.bidder_core.specs.declared.price_line.PriceLine.{PriceLine}

-- the path of a notice's URL, up to the bid's id
abbrev pub path_of : NoticeKind → List ℕ
path_of NoticeKind.Win = codes "/n/win?a=${AUCTION_ID}&b="
path_of NoticeKind.Bill = codes "/n/bill?a=${AUCTION_ID}&b="
path_of NoticeKind.Loss = codes "/n/loss?a=${AUCTION_ID}&b="

-- a loss tells no price
abbrev pub told_price : NoticeKind → List ℕ
told_price NoticeKind.Win = codes "&p=${AUCTION_PRICE}"
told_price NoticeKind.Bill = codes "&p=${AUCTION_PRICE}"
told_price NoticeKind.Loss = []

-- where a notice of a bid goes
abbrev pub notice_url : List ℕ → List ℕ → NoticeKind → List ℕ
notice_url base id kind = base ++ (path_of kind ++ (id ++ told_price kind))

-- the member of a bid that has the URL of a notice
abbrev pub name_of : NoticeKind → List ℕ
name_of NoticeKind.Win = codes "nurl"
name_of NoticeKind.Bill = codes "burl"
name_of NoticeKind.Loss = codes "lurl"

-- that member, with the URL
abbrev pub notice_member : List ℕ → List ℕ → NoticeKind → List ℕ × Tree
notice_member base id kind = (name_of kind, text (notice_url base id kind))

-- the members of a bid that say where its notices go
abbrev pub notice_members : List ℕ → List ℕ → List (List ℕ × Tree)
notice_members base id =
    notice_member base id NoticeKind.Win ∷ notice_member base id NoticeKind.Bill ∷ notice_member base id NoticeKind.Loss ∷ []

-- those before them
abbrev pub offer_members : List ℕ → Imp → Price → List (List ℕ × Tree)
offer_members id imp p =
    (codes "id", text id)
    ∷ (codes "impid", text imp.id)
    ∷ (codes "price", number (price_text p.price.0))
    ∷ (codes "cid", text p.cid)
    ∷ []

-- the bid for an impression at a price, each with its place
abbrev pub bid_tree : PriceLine → ℕ → Imp → ℕ → Price → Tree
bid_tree line imp_place imp price_place p =
    object (members_of (offer_members (bid_id imp_place price_place) imp p ++ notice_members line.base (bid_id imp_place price_place)))

-- that bid, where the price is at least the impression's floor
abbrev pub offered : PriceLine → ℕ → Imp → ℕ × Price → List Tree
offered line imp_place imp (price_place, p) =
    if nat_le imp.floor.0 p.price.0 then bid_tree line imp_place imp price_place p ∷ [] else []

-- the bids for an impression
abbrev pub imp_bids : PriceLine → ℕ × Imp → List Tree
imp_bids line (place, imp) = flat_map (offered line place imp) (enumerate_from 0 line.prices)

-- the bids for the impressions of an auction
abbrev pub auction_bids : PriceLine → List Imp → List Tree
auction_bids line imps = take MOST_BIDS (flat_map (imp_bids line) (enumerate_from 0 imps))

-- the answer with these bids
abbrev pub answer_tree : List ℕ → List ℕ → List Tree → Tree
answer_tree auction seat bids =
    object (members_of
    ((codes "id", text auction)
    ∷ (codes "seatbid", list (items_of (object (members_of ((codes "seat", text seat) ∷ (codes "bid", list (items_of bids)) ∷ [])) ∷ [])))
    ∷ (codes "cur", text (codes "USD"))
    ∷ []))

-- no answer where there is no bid
abbrev pub answer_with : List ℕ → List ℕ → List Tree → Option Tree
answer_with auction seat [] = None
answer_with auction seat (b ∷ bs) = Some (answer_tree auction seat (b ∷ bs))

-- the answer to an auction of that id with those impressions; none where no price reaches a floor
abbrev pub answer_for : PriceLine → List ℕ → List Imp → Option Tree
answer_for line auction imps = answer_with auction line.seat (auction_bids line imps)

-- the answer to a request
abbrev pub answer_to : PriceLine → BidRequest → Option Tree
answer_to line request = answer_for line request.id request.imps
