-- The posts of a history: the notice URLs that its entries ask for (OpenRTB 2.6, Bid, nurl, burl and lurl), with their
-- macros replaced (section 4.4). Which entry asks for which is this project's own.
use Rattle.std.specs.Prelude.{ℕ, List, [], ◌∷◌, ◌++◌, length, ◌==◌, if◌then◌else◌, Option, Some, None, slice_get}
use Rattle.std.specs.List.{flat_map}
use Rattle.std.specs.Option.{option_map_or}
use Rattle.std.specs.Borrow.{Bor}
use Rattle.adx_units.specs.declared.offer.Offer.{Offer}
use Rattle.adx_units.specs.declared.units.Units.{Units}
use Rattle.allocator_core.specs.declared.reason.TheConstants.{AWARDED, LOST_TO_HIGHER}
use Rattle.notice_book.specs.declared.award.Award.{Award}
use Rattle.notice_book.specs.Rules.{is_due}
use Rattle.notice_macros.specs.declared.values.Values.{Values}
use Rattle.notice_macros.specs.Expansion.{url_expansion}
use Rattle.day_rules.specs.declared.ask.Ask.{Ask}
use Rattle.day_rules.specs.declared.ask.Kept.{Kept}
use Rattle.day_rules.specs.declared.entry.Entry.{Entry}
use Rattle.outbox.specs.declared.post.Post.{Post}
use Rattle.outbox.specs.declared.post.PostKind.{PostKind}
use Rattle.outbox.specs.declared.post.TheConstants.{OPPORTUNITY_EXPIRED}
use Rattle.outbox.specs.Bids.{Bid, awarded, awarded_bids, bid_of}

-- a text as the values of a template hold it, behind a reference
abbrev pub shown : List ℕ → Bor (List ℕ)
shown text = record { ref_ptr = (0, 0); now = text }

-- what the macros of a bid's URLs stand for, with a price or without one, and with a loss number
abbrev pub values_of : Bid → Option Units → ℕ → Values
values_of b price loss = record {
  auction = shown b.auction;
  bidid = shown b.texts.bidid;
  imp = shown b.imp;
  seat = shown b.texts.seat;
  adid = shown b.texts.adid;
  price = price;
  loss = loss;
}

-- the post of a URL that an entry asks for; none where the URL is empty
abbrev pub post_of : ℕ → PostKind → List ℕ → List Post
post_of place kind url = if length url == 0 then [] else record { entry = place; kind = kind; url = url } ∷ []

-- what tells of a win: the nurl, with the charge
-- Example: an award of 2,500,000 units with the nurl `http://n/w?${AUCTION_PRICE}` gives `http://n/w?2.5` when it
-- is won.
abbrev pub win_post : ℕ → Bid → List Post
win_post place b = post_of place PostKind.Nurl (url_expansion (values_of b (Some b.charge) 0) b.texts.nurl)

-- what tells of a bill: the burl, with the charge
abbrev pub bill_post : ℕ → Bid → List Post
bill_post place b = post_of place PostKind.Burl (url_expansion (values_of b (Some b.charge) 0) b.texts.burl)

-- what tells of a loss: the lurl, without a price, and with the number of the loss
abbrev pub loss_post : ℕ → ℕ → Bid → List Post
loss_post place loss b = post_of place PostKind.Lurl (url_expansion (values_of b None loss) b.texts.lurl)

-- what an ask tells the bidder of an offer with kept texts: its loss, unless it was awarded
abbrev pub offer_post : ℕ → Ask → Kept → Offer → List Post
offer_post place a k o = if o.reason == AWARDED then [] else loss_post place o.reason (bid_of a k o)

abbrev pub lost_post : ℕ → Ask → Kept → List Post
lost_post place a k = option_map_or (offer_post place a k) (slice_get a.offers k.bid) []

-- what a moment tells of an award that it ends
abbrev pub due_post : ℕ → ℕ → Bid × Award → List Post
due_post place now p = if is_due now p.1 then loss_post place OPPORTUNITY_EXPIRED p.0 else []

-- what a notice tells of the award with that number
abbrev pub award_post : (Bid → List Post) → List Entry → ℕ → List Post
award_post post before n = option_map_or post (slice_get (awarded before) n) []

-- the posts that an entry asks for, behind the entries before it: an ask those of the bids that it lost, in their order,
-- a win, a bill or a loss that of its award, a moment those of the awards that it ends, in their order, and a change of a
-- budget none
abbrev pub posts_by : List Entry → Entry → List Post
posts_by before (Entry.Ask a) = flat_map (lost_post (length before) a) a.kept
posts_by before (Entry.Win n) = award_post (win_post (length before)) before n
posts_by before (Entry.Bill n) = award_post (bill_post (length before)) before n
posts_by before (Entry.Loss n) = award_post (loss_post (length before) LOST_TO_HIGHER) before n
posts_by before (Entry.Expire now) = flat_map (due_post (length before) now) (awarded_bids before)
posts_by before (Entry.Budget campaign change budget) = []

-- the posts of some entries behind others, one entry after the other
abbrev pub posts_behind : List Entry → List Entry → List Post
posts_behind before [] = []
posts_behind before (e ∷ es) = posts_by before e ++ posts_behind (before ++ e ∷ []) es

-- the posts of a history
abbrev pub posts_of : List Entry → List Post
posts_of history = posts_behind [] history
