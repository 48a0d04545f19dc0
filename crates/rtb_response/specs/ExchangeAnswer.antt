-- The exchange's answer to a request (OpenRTB 2.6, sections 4.2.1 BidResponse, 4.2.2 SeatBid, 4.2.3 Bid): the object
-- with one element of `seatbid` for each award. This project's own: the members and their order.
use Rattle.std.specs.Prelude.{ℕ, List, [], ◌∷◌, map, codes, decimal}
use Rattle.adx_json.specs.Tree.{Tree, text, number, list, object, items_of, Members, no_members, member}
use Rattle.adx_json.specs.View.{tree_of}
use Rattle.adx_units.specs.Money.{price_text}
use Rattle.adx_json.specs.Walks.{members_by}
use Rattle.rtb_response.specs.Bodies.{passed_on}
use Rattle.rtb_response.specs.Notices.{notice_url}
use Rattle.rtb_response.specs.declared.notice.Notice.{Notice}
use Rattle.rtb_response.specs.declared.notice.Notice.TheVariants.{Win, Bill, Loss}
use Rattle.rtb_response.specs.declared.sold.Sold.{Sold}

-- members, and others behind them
abbrev pub followed_by : Members → Members → Members
followed_by no_members more = more
followed_by (member n t ms) more = member n t (followed_by ms more)

-- the notice URLs of an award
abbrev pub notice_members : (Notice → List ℕ) → Members
notice_members url =
    member (codes "nurl") (text (url Win))
    (member (codes "burl") (text (url Bill))
    (member (codes "lurl") (text (url Loss)) no_members))

-- the bid of an award: its number as the id, its impression and its charge, then the members that are passed on, then
-- the notice URLs. A body that is no object has no members.
abbrev pub bid_tree : (ℕ → Notice → List ℕ) → Sold → Tree
bid_tree url s =
    object
    (member (codes "id") (text (decimal s.award))
    (member (codes "impid") (text s.imp)
    (member (codes "price") (number (price_text s.charge.0))
    (followed_by (passed_on (members_by (tree_of s.body))) (notice_members (url s.award))))))

-- the seat of an award, with its one bid
abbrev pub seat_tree : (ℕ → Notice → List ℕ) → Sold → Tree
seat_tree url s =
    object
    (member (codes "seat") (text s.seat)
    (member (codes "bid") (list (items_of (bid_tree url s ∷ []))) no_members))

-- the exchange's answer to the auction with that id; its notices go to the base
abbrev pub answer_tree : List ℕ → List ℕ → List Sold → Tree
answer_tree auction base sold =
    object
    (member (codes "id") (text auction)
    (member (codes "seatbid") (list (items_of (map (seat_tree (notice_url base auction)) sold)))
    (member (codes "cur") (text (codes "USD")) no_members)))
