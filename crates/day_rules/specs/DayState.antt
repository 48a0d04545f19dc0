-- What a contract sees of a day: its terms, its history, and what there is memory for. This project's own.
use Rattle.std.specs.Prelude.{◌≡◌, ℕ, ◌+◌, ◌*◌, ◌≤◌, List, length, Option, Some, None, ◌==◌, if◌then◌else◌, option_and_then, slice_get, slice_index_or}
use Rattle.day_rules.specs.declared.ask.Ask.{Ask}
use Rattle.day_rules.specs.declared.entry.Entry.{Entry}
use Rattle.day_rules.specs.Books.{awards_of, entries_to_come, sales_of}
use Rattle.day_rules.specs.Legal.{IsLegal}
use Rattle.day_rules.specs.Terms.{Terms, AreTerms}

-- for how many more entries and awards there is memory, the auction whose ask may be the next entry: its id
-- is in the map of ids with the next place of the history, and for how many more changes of each campaign's budget
pub record Room : Type 0 where
  pub entries : ℕ
  pub awards : ℕ
  pub prepared : Option (List ℕ)
  pub changes : List ℕ

-- a day: what it was opened with, what happened, and what there is memory for
pub record DayState : Type 0 where
  pub terms : Terms
  pub history : List Entry
  pub room : Room

-- the id that a map has after those of so many asks, if its place is the next one of the history
abbrev pub next_id : ℕ → ℕ → List (List ℕ × ℕ) → Option (List ℕ)
next_id asks place ids =
    option_and_then (λ (p : List ℕ × ℕ). if p.1 == place then Some p.0 else None) (slice_get ids asks)

-- how many entries an ask brings: itself, and two for each award that it makes
abbrev pub entries_of : Ask → ℕ
entries_of a = 1 + 2 * length (sales_of a)

-- there is memory for a settled ask, beside that for the entries to come of earlier awards
pub record HasRoomForAsk (history : List Entry) (room : Room) (a : Ask) : Type 0 where
  pub entries : entries_of a + entries_to_come (awards_of history) ≤ room.entries
  pub awards : length (sales_of a) ≤ room.awards
  pub prepared : room.prepared ≡ Some a.auction

-- there is memory for a change of a campaign's budget, beside that for the entries to come
pub record HasRoomForChange (history : List Entry) (room : Room) (campaign : ℕ) : Type 0 where
  pub entries : 1 + entries_to_come (awards_of history) ≤ room.entries
  pub changes : 1 ≤ slice_index_or room.changes campaign 0

-- there is memory for the entry: that of an ask or a change was prepared, that of another that may follow is always there
abbrev pub HasRoomFor : DayState → Entry → Type 0
HasRoomFor day (Entry.Ask a) = HasRoomForAsk day.history day.room a
HasRoomFor day (Entry.Win n) = Unit {0}
HasRoomFor day (Entry.Bill n) = Unit {0}
HasRoomFor day (Entry.Loss n) = Unit {0}
HasRoomFor day (Entry.Expire now) = Unit {0}
HasRoomFor day (Entry.Budget campaign change budget) = HasRoomForChange day.history day.room campaign

-- the terms may be and the history is legal
pub record IsDay (terms : Terms) (history : List Entry) : Type 0 where
  pub terms_ok : AreTerms terms
  pub legal : IsLegal terms history
