-- A bid of an answer (OpenRTB 2.6, section 4.2.3, Bid): what it says by its members.
-- This project's own: that a bid with a fault is kept and known by `whole` and by its price's fault, that of `adomain` and
-- `cat` the texts alone count, and that seconds are a whole number below 2^31.
use Rattle.std.specs.Prelude.{List, [], ◌∷◌, Bool, ◌&&◌, is_some, codes, Option}
use Rattle.std.specs.Option.{unwrap_or}
use Rattle.adx_json.specs.Tree.{Tree, null}
use Rattle.adx_json.specs.Rows.{Row, value, value_whole}
use Rattle.adx_json.specs.Values.{given_within, text_in, text_or_empty, texts_in, whole_or_zero}
use Rattle.rtb_response.specs.Prices.{price_in}
use Rattle.rtb_response.specs.Bodies.{body}
use Rattle.rtb_response.specs.declared.bid.Bid.{Bid}
use Rattle.rtb_response.specs.declared.bid.TheConstants.{MOST_SECONDS}
use Rattle.rtb_response.specs.declared.fault.AnswerFault.{AnswerFault}

-- an object with texts `id` and `impid` and a price, which may have a fault
abbrev pub is_whole_bid : Option Tree → Bool
is_whole_bid o =
    is_some (text_in (given_within (codes "id") o)) && is_some (text_in (given_within (codes "impid") o))
    && is_some (given_within (codes "price") o)

-- the bid that an object is; a text that is absent is empty
abbrev pub bid_rows : List (Row Bid AnswerFault)
bid_rows =
    value_whole is_whole_bid (λ (b : Bid). b.whole)
    ∷ value given_within (codes "id") text_or_empty (λ (b : Bid). b.id)
    ∷ value given_within (codes "impid") text_or_empty (λ (b : Bid). b.impid)
    ∷ value given_within (codes "price") price_in (λ (b : Bid). b.price)
    ∷ value given_within (codes "nurl") text_or_empty (λ (b : Bid). b.nurl)
    ∷ value given_within (codes "burl") text_or_empty (λ (b : Bid). b.burl)
    ∷ value given_within (codes "lurl") text_or_empty (λ (b : Bid). b.lurl)
    ∷ value given_within (codes "adid") text_or_empty (λ (b : Bid). b.adid)
    ∷ value given_within (codes "adomain") texts_in (λ (b : Bid). b.adomain)
    ∷ value given_within (codes "cid") text_or_empty (λ (b : Bid). b.cid)
    ∷ value given_within (codes "cat") texts_in (λ (b : Bid). b.cat)
    ∷ value given_within (codes "dealid") text_in (λ (b : Bid). b.dealid)
    ∷ value given_within (codes "exp") (whole_or_zero MOST_SECONDS) (λ (b : Bid). b.exp)
    ∷ value_whole (λ o. body (unwrap_or o null)) (λ (b : Bid). b.body)
    ∷ []
