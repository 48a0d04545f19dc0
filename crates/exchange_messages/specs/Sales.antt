-- The exchange's answer to a request for bids (OpenRTB 2.6, sections 4.2.1 to 4.2.3): the awards of the ask that the history
-- keeps, each with the members of its bid's body, whose markup has its macros replaced (section 4.4). This project's own:
-- which members are passed on, and what a body that is no object gives.
use Rattle.std.specs.Prelude.{◌≡◌, ◌≢◌, ◌⊎◌, ℕ, List, [], filter, length, Bool, ◌&&◌, ◌==◌, find, slice_index_or, codes, unwrap_or, Option, Some, None}
use Rattle.std.specs.List.{AllZip, flat_map, enumerate_from, range_with_len}
use Rattle.adx_json.specs.Tree.{Tree, null, text}
use Rattle.adx_json.specs.Grammar.{IsJson}
use Rattle.adx_json.specs.Faults.{IsFault}
use Rattle.adx_json.specs.Named.{member_in, with_member}
use Rattle.adx_json.specs.Spelling.{spelling}
use Rattle.adx_json.specs.View.{tree_of}
use Rattle.adx_json.specs.declared.fault.JsonFault.{JsonFault}
use Rattle.adx_units.specs.declared.offer.Offer.{Offer}
use Rattle.allocator_core.specs.declared.reason.TheConstants.{AWARDED}
use Rattle.answer_lines.specs.Answers.{campaign_text}
use Rattle.day_rules.specs.declared.ask.Ask.{Ask}
use Rattle.day_rules.specs.declared.ask.Kept.{Kept}
use Rattle.deal_floor.specs.declared.roster.Roster.{Roster}
use Rattle.deal_floor.specs.declared.campaign.Campaign.{Campaign}
use Rattle.notice_macros.specs.Expansion.{markup_expansion}
use Rattle.notice_macros.specs.declared.values.Values.{Values}
use Rattle.rtb_response.specs.ExchangeAnswer.{answer_tree}
use Rattle.rtb_response.specs.declared.sold.Sold.{Sold}
use Rattle.adx_json.specs.Values.{text_in}
use Rattle.http_service.specs.Replies.{lent}

-- a bid with its place was awarded for the impression
abbrev pub is_award_for : ℕ → ℕ × Offer → Bool
is_award_for imp p = p.1.reason == AWARDED && p.1.imp == imp

-- the awarded bids of an ask with their places, in the order of its impressions
abbrev pub sold_bids : Ask → List (ℕ × Offer)
sold_bids a = flat_map (λ imp. filter (is_award_for imp) (enumerate_from 0 a.offers)) (range_with_len 0 (length a.imps))

-- the texts that are kept of the bid at a place; none where there are none
abbrev pub no_texts : ℕ → Kept
no_texts place = record { bid = place; seat = []; bidid = []; adid = []; nurl = []; burl = []; lurl = []; body = [] }

-- the texts that are kept of the bid at a place, or empty ones. markup_values a o k: what the macros of its markup
-- represent: its charge is the price, and there is no loss
abbrev pub texts_at : List Kept → ℕ → Kept
texts_at kept place = unwrap_or (find (λ k. k.bid == place) kept) (no_texts place)

-- the id of the impression that an offer is for
abbrev pub imp_sold : Ask → Offer → List ℕ
imp_sold a o = slice_index_or a.imps o.imp []

-- what the macros of an award's markup represent: its charge is the price, and there is no loss
abbrev pub markup_values : Ask → Offer → Kept → Values
markup_values a o k = record {
  auction = lent a.auction;
  bidid = lent k.bidid;
  imp = lent (imp_sold a o);
  seat = lent k.seat;
  adid = lent k.adid;
  price = Some o.charge;
  loss = 0;
}

-- a body with its markup's macros replaced; one without a text of markup stays
abbrev pub with_markup : Values → Tree → Option (List ℕ) → Tree
with_markup values t None = t
with_markup values t (Some markup) = with_member (codes "adm") (text (markup_expansion values markup)) t

-- the body with the macros of its `adm` replaced; a body without that text stays as it is
abbrev pub expanded : Values → Tree → Tree
expanded values t = with_markup values t (text_in (member_in (codes "adm") t))

-- the tree of a kept body; a text that is no JSON has no members
abbrev pub HasTree : List ℕ → Tree → Type 0
HasTree body t = IsJson body t ⊎ ((f : JsonFault) × (f ≢ JsonFault.OutOfMemory) × IsFault body f × (t ≡ null))

-- the body of an awarded offer at a place, as the exchange's answer passes it on
abbrev pub IsBodySold : Ask → Offer → ℕ → Tree → Type 0
IsBodySold a offer place sold =
    (t : Tree) × HasTree (texts_at a.kept place).body t × (sold ≡ expanded (markup_values a offer (texts_at a.kept place)) t)

-- an award with its number, of an offer at a place: what the exchange's answer says of it
pub record IsSold (campaigns : List Campaign) (a : Ask) (award : ℕ × (ℕ × Offer)) (s : Sold) : Type 0 where
  pub number : s.award ≡ award.0
  pub imp : s.imp ≡ imp_sold a award.1.1
  pub seat : s.seat ≡ campaign_text (λ c. c.seat) campaigns award.1.1.campaign
  pub charge : s.charge ≡ award.1.1.charge
  pub tree : Tree
  pub kept : HasTree (texts_at a.kept award.1.0).body tree
  pub body : tree_of s.body ≡ expanded (markup_values a award.1.1 (texts_at a.kept award.1.0)) tree

-- the exchange's answer to an ask that was awarded: its awards, whose numbers run on from its first
abbrev pub IsSale : Roster → Ask → List ℕ → Type 0
IsSale r a body =
    (sold : List Sold) × AllZip (IsSold r.campaigns a) (enumerate_from a.first (sold_bids a)) sold
    × (body ≡ spelling (answer_tree a.auction r.base sold))
