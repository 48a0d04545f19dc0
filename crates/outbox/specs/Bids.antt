-- The bids that a history tells of: whose auction and impression they are for, their charge and their texts. This
-- project's own.
use Rattle.std.specs.Prelude.{ℕ, List, [], map, filter, length, Bool, ◌&&◌, ◌==◌, find, slice_get, unwrap_or, zip}
use Rattle.std.specs.List.{flat_map, enumerate_from, range_with_len}
use Rattle.std.specs.Option.{option_map_or}
use Rattle.adx_units.specs.declared.offer.Offer.{Offer}
use Rattle.adx_units.specs.declared.units.Units.{Units}
use Rattle.allocator_core.specs.declared.reason.TheConstants.{AWARDED}
use Rattle.notice_book.specs.declared.award.Award.{Award}
use Rattle.day_rules.specs.declared.ask.Ask.{Ask}
use Rattle.day_rules.specs.declared.ask.Kept.{Kept}
use Rattle.day_rules.specs.declared.entry.Entry.{Entry}
use Rattle.day_rules.specs.Books.{awards_of}
use Rattle.day_rules.specs.Entries.{asked}

-- a bid: the ids of its auction and of its impression, its charge, and its texts
pub record Bid : Type 0 where
  pub auction : List ℕ
  pub imp : List ℕ
  pub charge : Units
  pub texts : Kept

-- the id of an impression of an ask; nothing where the bid named none of it
abbrev pub imp_id : Ask → ℕ → List ℕ
imp_id a imp = unwrap_or (slice_get a.imps imp) []

-- a bid of an ask, with its texts
abbrev pub bid_of : Ask → Kept → Offer → Bid
bid_of a texts o = record { auction = a.auction; imp = imp_id a o.imp; charge = o.charge; texts = texts }

-- no text
abbrev pub no_texts : ℕ → Kept
no_texts place = record { bid = place; seat = []; bidid = []; adid = []; nurl = []; burl = []; lurl = []; body = [] }

-- the texts that are kept of the bid at a place
abbrev pub texts_at : List Kept → ℕ → Kept
texts_at kept place = unwrap_or (find (λ k. k.bid == place) kept) (no_texts place)

-- the bid was awarded for the impression
abbrev pub is_award : ℕ → ℕ × Offer → Bool
is_award imp p = p.1.reason == AWARDED && p.1.imp == imp

-- the bids that an ask awarded for an impression
abbrev pub awarded_for : Ask → ℕ → List Bid
awarded_for a imp =
    map (λ (p : ℕ × Offer). bid_of a (texts_at a.kept p.0) p.1) (filter (is_award imp) (enumerate_from 0 a.offers))

-- the bids that an ask awarded, in the order of its impressions
abbrev pub awarded_by : Ask → List Bid
awarded_by a = flat_map (awarded_for a) (range_with_len 0 (length a.imps))

-- the awarded bids of a history; the n-th, from 0, is that of award n
abbrev pub awarded : List Entry → List Bid
awarded history = flat_map (λ e. option_map_or awarded_by (asked e) []) history

-- the awarded bids of a history, each with what became of its award
abbrev pub awarded_bids : List Entry → List (Bid × Award)
awarded_bids history = zip (awarded history) (awards_of history)
