-- What an outbox keeps of the awards that may still give a post. This project's own.
use Rattle.std.specs.Prelude.{◌≡◌, ℕ, ◌+◌, ◌-◌, ◌^◌, min, List, map, filter, length, Bool, ◌&&◌, ◌||◌, not, ◌==◌, if◌then◌else◌, Option, Some, None, slice_get, option_and_then}
use Rattle.std.specs.List.{flat_map, enumerate_from, range_with_len}
use Rattle.adx_units.specs.declared.offer.Offer.{Offer}
use Rattle.adx_units.specs.declared.units.Units.{Units}
use Rattle.notice_macros.specs.declared.values.Values.{Values}
use Rattle.notice_macros.specs.Expansion.{url_expansion}
use Rattle.notice_book.specs.declared.award.Award.{Award}
use Rattle.notice_book.specs.Rules.{is_open, may_end, may_win}
use Rattle.day_rules.specs.declared.ask.Ask.{Ask}
use Rattle.day_rules.specs.declared.ask.Kept.{Kept}
use Rattle.day_rules.specs.declared.entry.Entry.{Entry}
use Rattle.day_rules.specs.Books.{award_of}
use Rattle.outbox.specs.declared.post.Post.{Post}
use Rattle.outbox.specs.declared.post.PostKind.{PostKind}
use Rattle.outbox.specs.declared.row.Row.{Row}
use Rattle.outbox.specs.Bids.{Bid, awarded_bids, bid_of, is_award, texts_at}
use Rattle.outbox.specs.Posts.{post_of, shown}

-- there is a text
abbrev pub is_some_text : List ℕ → Bool
is_some_text text = not (length text == 0)

-- a bill, a loss or a moment may still end the award, and then asks for a post; or a win may still be told
abbrev pub may_post : Bid × Award → Bool
may_post p =
    (may_end p.1 && (is_some_text p.0.texts.burl || is_some_text p.0.texts.lurl))
    || (may_win p.1 && is_some_text p.0.texts.nurl)

-- a bid with what became of its award
abbrev pub row_with : Bid × Award → Row
row_with p = record {
  auction = p.0.auction;
  imp = p.0.imp;
  seat = p.0.texts.seat;
  bidid = p.0.texts.bidid;
  adid = p.0.texts.adid;
  nurl = p.0.texts.nurl;
  burl = p.0.texts.burl;
  lurl = p.0.texts.lurl;
  charge = p.0.charge;
  deadline = p.1.deadline;
  won = p.1.won;
}

-- what is kept of an award: nothing once no post of it can come
abbrev pub row_of : Bid × Award → Option Row
row_of p = if may_post p then Some (row_with p) else None

-- the deadline of an award that is kept and open
abbrev pub deadline_of : Bid × Award → Option ℕ
deadline_of p = if is_open p.1.end && may_post p then Some p.1.deadline else None

-- what is kept of award n of a history
abbrev pub row_at : List Entry → ℕ → Option Row
row_at history n = option_and_then row_of (slice_get (awarded_bids history) n)

-- its deadline, where it is kept and open
abbrev pub deadline_at : List Entry → ℕ → Option ℕ
deadline_at history n = option_and_then deadline_of (slice_get (awarded_bids history) n)

-- a win may still be told, of an award that is open or billed
abbrev pub may_be_told : Row → Bool
may_be_told r = not r.won && is_some_text r.nurl

-- what ends an open award may ask for a post
abbrev pub may_be_ended : Row → Bool
may_be_ended r = is_some_text r.burl || is_some_text r.lurl

-- what the macros of a row's URLs stand for
abbrev pub row_values : Row → Option Units → ℕ → Values
row_values r price loss = record {
  auction = shown r.auction;
  bidid = shown r.bidid;
  imp = shown r.imp;
  seat = shown r.seat;
  adid = shown r.adid;
  price = price;
  loss = loss;
}

-- these values show those of a row
pub record AreValues (v : Values) (r : Row) (sold_at : Option Units) (number : ℕ) : Type 0 where
  pub auction : v.auction.now ≡ r.auction
  pub bidid : v.bidid.now ≡ r.bidid
  pub imp : v.imp.now ≡ r.imp
  pub seat : v.seat.now ≡ r.seat
  pub adid : v.adid.now ≡ r.adid
  pub price : v.price ≡ sold_at
  pub loss : v.loss ≡ number

-- what tells of a row's win, its bill and its loss
abbrev pub row_win : ℕ → Row → List Post
row_win place r = post_of place PostKind.Nurl (url_expansion (row_values r (Some r.charge) 0) r.nurl)

-- the post of a row's bill
abbrev pub row_bill : ℕ → Row → List Post
row_bill place r = post_of place PostKind.Burl (url_expansion (row_values r (Some r.charge) 0) r.burl)

-- the post of a row's loss
abbrev pub row_loss : ℕ → ℕ → Row → List Post
row_loss place loss r = post_of place PostKind.Lurl (url_expansion (row_values r None loss) r.lurl)

-- the row of an awarded offer with texts; it is open until its moment and its life are over
abbrev pub row_by : Ask → Offer → Kept → Row
row_by a o texts = row_with (
  bid_of a texts o,
  award_of 0 (record {
    campaign = o.campaign;
    charge = o.charge.0;
    deadline = min (a.now + o.life) (2 ^ 64 - 1);
  }),
)

-- with the texts that are kept of its bid
abbrev pub row_made : Ask → ℕ × Offer → Row
row_made a p = row_by a p.1 (texts_at a.kept p.0)

-- the rows of all that an ask awarded for an impression, and of all that it awarded
abbrev pub rows_for : Ask → ℕ → List Row
rows_for a imp = map (row_made a) (filter (is_award imp) (enumerate_from 0 a.offers))

-- the rows of all that an ask awarded
abbrev pub rows_made : Ask → List Row
rows_made a = flat_map (rows_for a) (range_with_len 0 (length a.imps))
