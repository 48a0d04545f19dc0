-- The books of a history: its awards, how they end, and each campaign's money. This project's own.
-- Example: an ask with one award of 2,500,000 at deadline 3,610, then an expiry at 3,611: the award's end is
-- Expired, reserved and billed are 0.
use Rattle.std.specs.Prelude.{ℕ, ◌+◌, max, List, [], ◌∷◌, map, length, drop, filter, Bool, false, ◌&&◌, nat_lt, ◌==◌, if◌then◌else◌, Option, Some, None, is_some, slice_get, option_map, option_and_then, unwrap_or}
use Rattle.std.specs.List.{flat_map, filter_map, enumerate_from, range_with_len, sum_by, count_by, list_any}
use Rattle.std.specs.Option.{option_or, option_map_or}
use Rattle.adx_units.specs.Money.{units}
use Rattle.adx_units.specs.declared.offer.Offer.{Offer}
use Rattle.adx_units.specs.declared.units.Units.{Units}
use Rattle.allocator_core.specs.declared.reason.TheConstants.{AWARDED}
use Rattle.campaign_book.specs.Accounts.{Account}
use Rattle.notice_book.specs.declared.award.Award.{Award}
use Rattle.notice_book.specs.declared.award.End.{End}
use Rattle.notice_book.specs.declared.kind.NoticeKind.{NoticeKind}
use Rattle.notice_book.specs.Rules.{end_by_kind, is_open, is_billed, may_end, may_win}
use Rattle.day_rules.specs.declared.ask.Ask.{Ask}
use Rattle.day_rules.specs.declared.ask.Kept.{Kept}
use Rattle.day_rules.specs.declared.entry.Entry.{Entry}
use Rattle.day_rules.specs.declared.limits.TheConstants.{KEPT_OVERHEAD}
use Rattle.day_rules.specs.Entries.{Notice, notice_of, asked, noticed, expired, counts}

-- what was sold: whose charge it is, how much, and the last moment at which it is still open
pub record Sale : Type 0 where
  pub campaign : ℕ
  pub charge : ℕ
  pub deadline : ℕ

-- the offers of an impression that were awarded
abbrev pub awarded_offers : List Offer → ℕ → List Offer
awarded_offers offers imp = filter (λ o. o.reason == AWARDED && o.imp == imp) offers

-- what an awarded offer of an ask sold
abbrev pub sale_of : Ask → Offer → Sale
sale_of a o = record { campaign = o.campaign; charge = o.charge.0; deadline = a.now + o.life }

-- what an ask sold, in the order of its impressions
abbrev pub sales_of : Ask → List Sale
sales_of a = flat_map (λ imp. map (sale_of a) (awarded_offers a.offers imp)) (range_with_len 0 (length a.imps))

-- an award as its ask made it, at a place of the history: not won, and open
abbrev pub award_of : ℕ → Sale → Award
award_of place s = record {
  ask = place;
  campaign = s.campaign;
  charge = units s.charge;
  won = false;
  end = None;
  deadline = s.deadline;
}

-- the awards that the entry at a place makes
abbrev pub made_by : ℕ → Entry → List Award
made_by place e = option_map_or (λ a. map (award_of place) (sales_of a)) (asked e) []

-- the awards of a history as their asks made them; the n-th, from 0, has the number n
abbrev pub made : List Entry → List Award
made history = flat_map (λ (p : ℕ × Entry). made_by p.0 p.1) (enumerate_from 0 history)

-- how a notice ends award n, if it does
abbrev pub end_by_notice : ℕ → Notice → Option End
end_by_notice n x = if n == x.award then end_by_kind x.kind else None

-- how a moment ends an award with that deadline, if it does
abbrev pub end_by_moment : ℕ → ℕ → Option End
end_by_moment deadline now = if nat_lt deadline now then Some End.Expired else None

-- how an entry ends award n, if it does
abbrev pub end_by : ℕ → Award → Entry → Option End
end_by n w e =
    option_or (option_and_then (end_by_notice n) (noticed e)) (option_and_then (end_by_moment w.deadline) (expired e))

-- how award n ended, if it did: by the first entry after its ask that ends it
abbrev pub end_of : ℕ → Award → List Entry → Option End
end_of n w history = slice_get (filter_map (end_by n w) (drop (w.ask + 1) history)) 0

-- a win of award n is in the history
abbrev pub is_won : ℕ → List Entry → Bool
is_won n history = list_any (counts (notice_of NoticeKind.Win n)) history

-- the award as the history leaves it
abbrev pub left_by : List Entry → ℕ × Award → Award
left_by history p = record p.1 { won = is_won p.0 history; end = end_of p.0 p.1 history }

-- the awards of a history, with what became of each
unfoldable pub awards_of : List Entry → List Award
awards_of history = map (left_by history) (enumerate_from 0 (made history))

-- what an award takes from a campaign where its end passes a test
abbrev pub charge_where : (Option End → Bool) → ℕ → Award → ℕ
charge_where test campaign w = if w.campaign == campaign && test w.end then w.charge.0 else 0

-- the money of a campaign's awards without an end
abbrev pub reserved_in : List Award → ℕ → ℕ
reserved_in awards campaign = sum_by (charge_where is_open campaign) awards

-- the money of a campaign's awards that were billed
abbrev pub billed_in : List Award → ℕ → ℕ
billed_in awards campaign = sum_by (charge_where is_billed campaign) awards

-- the reserved, the billed and the committed money of a campaign after a history
abbrev pub reserved : List Entry → ℕ → ℕ
reserved history campaign = reserved_in (awards_of history) campaign

-- the billed money of a campaign after a history
abbrev pub billed : List Entry → ℕ → ℕ
billed history campaign = billed_in (awards_of history) campaign

-- both together
abbrev pub committed : List Entry → ℕ → ℕ
committed history campaign = reserved history campaign + billed history campaign

-- the account of a campaign with its budget, by the awards
abbrev pub account_in : List Award → ℕ × Units → Account
account_in awards p = record { budget = p.1.0; reserved = reserved_in awards p.0; billed = billed_in awards p.0 }

-- the accounts of all campaigns with their budgets, by the awards
abbrev pub accounts_in : List Units → List Award → List Account
accounts_in budgets awards = map (account_in awards) (enumerate_from 0 budgets)

-- the numbers of the awards whose end passes a test, in order
abbrev pub numbers_where : (Option End → Bool) → List Award → List ℕ
numbers_where test awards =
    map (λ (p : ℕ × Award). p.0) (filter (λ (p : ℕ × Award). test p.1.end) (enumerate_from 0 awards))

-- how many entries notices and moments may still add: one that ends each open award, and one win of each that may be won
abbrev pub entries_to_come : List Award → ℕ
entries_to_come awards = count_by may_end awards + count_by may_win awards

-- the moment that an entry brings: of an ask or an expiry, and 0 else
abbrev pub moment_of : Entry → ℕ
moment_of e = max (option_map_or (λ a. a.now) (asked e) 0) (unwrap_or (expired e) 0)

-- the greatest moment of a history
abbrev pub latest : List Entry → ℕ
latest [] = 0
latest (e ∷ es) = max (moment_of e) (latest es)

-- the ask at a place, with the place
abbrev pub placed_ask : ℕ × Entry → Option (ℕ × Ask)
placed_ask p = option_map (λ a. (p.0, a)) (asked p.1)

-- the asks of a history, each with its place
abbrev pub asks_of : List Entry → List (ℕ × Ask)
asks_of history = filter_map placed_ask (enumerate_from 0 history)

-- the ask at a place of the history
abbrev pub ask_at : List Entry → ℕ → Option Ask
ask_at history place = option_and_then asked (slice_get history place)

-- the number of asks of a history
abbrev pub ask_count : List Entry → ℕ
ask_count history = count_by (λ e. is_some (asked e)) history

-- the number of recorded bids of a history
abbrev pub bid_count : List Entry → ℕ
bid_count history = sum_by (λ e. option_map_or (λ a. length a.offers) (asked e) 0) history

-- the bytes of a kept bid's texts
abbrev pub text_size : Kept → ℕ
text_size k =
    length k.seat + (length k.bidid + (length k.adid + (length k.nurl + (length k.burl + (length k.lurl + length k.body)))))

-- what the kept bids of an ask count
abbrev pub kept_size : Ask → ℕ
kept_size a = sum_by (λ k. KEPT_OVERHEAD + text_size k) a.kept

-- the kept text of a history
abbrev pub text_count : List Entry → ℕ
text_count history = sum_by (λ e. option_map_or kept_size (asked e) 0) history
