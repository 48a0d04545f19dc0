-- An exchange as a world of two books has it: its roster's campaigns, its day, and its outbox. This project's own.
use Rattle.std.specs.Prelude.{◌≡◌, ℕ, ◌+◌, ◌≤◌, List, [], ◌++◌, drop, take, length, map, Option, Some, None, Result, OnOk, option_and_then, option_map, slice_get}
use Rattle.adx_units.specs.declared.memory.OutOfMemory.{OutOfMemory}
use Rattle.day_rules.specs.Books.{ask_at, awards_of}
use Rattle.day_rules.specs.DayState.{DayState, IsDay}
use Rattle.day_rules.specs.Replies.{Call, reply, with_entry}
use Rattle.day_rules.specs.Terms.{Terms, terms_of}
use Rattle.day_rules.specs.declared.ask.Ask.{Ask}
use Rattle.day_rules.specs.declared.entry.Entry.{Entry}
use Rattle.deal_floor.specs.declared.campaign.Campaign.{Campaign}
use Rattle.deal_floor.specs.declared.roster.Roster.{Roster}
use Rattle.notice_book.specs.declared.award.Award.{Award}
use Rattle.outbox.specs.Following.{HasFollowed, OutboxState}
use Rattle.outbox.specs.Posts.{posts_behind}
use Rattle.outbox.specs.declared.post.Post.{Post}

-- a roster's campaigns, its day and its outbox
pub record ExchangeState : Type 0 where
  pub campaigns : List Campaign
  pub day : DayState
  pub outbox : OutboxState

-- what the day of a roster is opened with
abbrev pub day_terms : Roster → Terms
day_terms r =
    terms_of (map (λ (c : Campaign). c.budget) r.campaigns)
    (record { auctions = r.limits.auctions; bids = r.limits.bids; text = r.limits.text })

-- an exchange of a roster before its first call
pub record IsOpened (r : Roster) (e : ExchangeState) : Type 0 where
  pub campaigns : e.campaigns ≡ r.campaigns
  pub terms : e.day.terms ≡ day_terms r
  pub history : e.day.history ≡ []
  pub legal : IsDay e.day.terms e.day.history
  pub followed : HasFollowed [] e.outbox
  pub pending : e.outbox.pending ≡ []
  pub undeliverable : e.outbox.undeliverable ≡ 0

-- What holds of every exchange: its day is legal and has a budget for each campaign, and its outbox has followed a front
-- of the history. Private, cited by the type alone.
pub record IsExchange (campaigns : List Campaign) (terms : Terms) (history : List Entry) (o : OutboxState) : Type 0 where
  pub day : IsDay terms history
  pub budgets : length terms.budgets ≡ length campaigns
  pub front : o.followed ≤ length history
  pub followed : HasFollowed (take o.followed history) o

-- the day has these entries, and nothing else changed but what there is memory for
pub record HasHistory (entries : List Entry) (old new : ExchangeState) : Type 0 where
  pub history : new.day.history ≡ entries
  pub terms : new.day.terms ≡ old.day.terms
  pub campaigns : new.campaigns ≡ old.campaigns
  pub outbox : new.outbox ≡ old.outbox

-- the exchange was called: the day's reply adds its entry, where it adds one, and the history is legal
pub record IsCalled (c : Call) (old new : ExchangeState) : Type 0 where
  pub has : HasHistory (with_entry old.day.history (reply old.day.terms old.day.history c).entry) old new
  pub legal : IsDay new.day.terms new.day.history

-- memory was wanting: nothing changed but what there is memory for
abbrev pub IsKept : ExchangeState → ExchangeState → Type 0
IsKept old new = HasHistory old.day.history old new

-- the auction of an award
abbrev pub auction_of : List Entry → ℕ → Option (List ℕ)
auction_of history n =
    option_map (λ (a : Ask). a.auction) (option_and_then (λ (w : Award). ask_at history w.ask) (slice_get (awards_of history) n))

-- a notice of an award, under its auction; there is none where there is no such award
abbrev pub IsNoticed : Option (List ℕ) → (List ℕ → Call) → ExchangeState → ExchangeState → Type 0
IsNoticed None c old new = new ≡ old
IsNoticed (Some auction) c old new = IsCalled (c auction) old new

-- the entries that the outbox didn't follow yet
abbrev pub not_followed : ExchangeState → List Entry
not_followed e = drop e.outbox.followed e.day.history

-- the posts of the first so many of them
abbrev pub next_posts : ℕ → ExchangeState → List Post
next_posts n e = posts_behind (take e.outbox.followed e.day.history) (take n (not_followed e))

-- So many of those entries were followed, all of them unless memory was wanting: their posts are the last that are
-- pending.
pub record FollowsOn (result : Result Unit OutOfMemory) (old new : ExchangeState) : Type 0 where
  pub entries : ℕ
  pub few : entries ≤ length (not_followed old)
  pub all : OnOk result (entries ≡ length (not_followed old))
  pub followed : HasFollowed (take (old.outbox.followed + entries) old.day.history) new.outbox
  pub pending : new.outbox.pending ≡ old.outbox.pending ++ next_posts entries old
  pub undeliverable : new.outbox.undeliverable ≡ old.outbox.undeliverable
  pub day : new.day ≡ old.day
  pub campaigns : new.campaigns ≡ old.campaigns

-- the exchange started anew: it keeps the history, and its outbox begins again before the first entry
pub record IsRestarted (old new : ExchangeState) : Type 0 where
  pub followed : HasFollowed [] new.outbox
  pub pending : new.outbox.pending ≡ []
  pub undeliverable : new.outbox.undeliverable ≡ 0
  pub day : new.day ≡ old.day
  pub campaigns : new.campaigns ≡ old.campaigns
