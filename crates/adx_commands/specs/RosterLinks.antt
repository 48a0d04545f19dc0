-- Links that answer by texts of a roster, and the lanes to its bidders. This project's own.
use Rattle.std.specs.Prelude.{◌≡◌, ℕ, List, [], ◌∷◌, map, take, drop, All, Option, Some, None, false}
use Rattle.std.specs.Borrow.{GName}
use Rattle.adx_io.specs.Streams.{own_place}
use Rattle.adx_links.specs.Links.{Course, Exchanges, Plan, after_start, connection_of, next_start}
use Rattle.adx_links.specs.MemoryLinks.{no_content}
use Rattle.adx_links.specs.declared.planned.Planned.{Planned}
use Rattle.deal_floor.specs.declared.place.Place.{Place}
use Rattle.deal_floor.specs.declared.roster.Roster.{Roster}
use Rattle.fan_out.specs.declared.answer.TheConstants.{ANSWER_LIMIT}
use Rattle.fan_out.specs.declared.lane.Lane.{Lane}
use Rattle.fan_out.specs.Lanes.{IsWorked, Outcome}
use Rattle.adx_commands.specs.declared.link.RosterLink.{RosterLink}

-- a start that answers a text, in which nothing fails
-- Example: over `a` and `b` three starts answer `a`, `b` and `NO_CONTENT`.
abbrev pub answers : List ℕ → Planned
answers text = record no_content { bytes = text }

-- starts that answer these texts, one after the other; each past their end answers that there is no content
abbrev pub plan_of : List (List ℕ) → Plan
plan_of texts = record { starts = map answers texts; past_end = no_content }

-- so a link over texts begins: before its first start it answers nothing
abbrev pub begins_with : List (List ℕ) → Course
begins_with texts = record { now = Some (connection_of (answers [])); plan = plan_of texts }

-- so it goes on after a start: by the first of the texts to come
abbrev pub started_with : List (List ℕ) → Course
started_with texts = record { now = Some (connection_of (next_start (plan_of texts))); plan = after_start (plan_of texts) }

-- the course of a link over texts: what it answered since its last start, what is left of that, and the texts to come
abbrev pub course_of : RosterLink → Course
course_of l = record {
  now = Some (record { tape = record { taken = take l.given l.answer.now; left = drop l.given l.answer.now }; put_fails = false; take_fails = None });
  plan = plan_of l.to_come.now;
}

-- the texts of each of these bidders, one list for each: the first of the lists are theirs, and a further bidder has none
abbrev pub texts_of : List Place → List (List (List ℕ)) → List (List (List ℕ))
texts_of [] replies = []
texts_of (p ∷ places) [] = [] ∷ texts_of places []
texts_of (p ∷ places) (texts ∷ replies) = texts ∷ texts_of places replies

-- these lanes lead to these bidders, with links over these texts
pub record AreLanesTo (places : List Place) (texts : List (List (List ℕ))) (lanes : List (Lane RosterLink)) : Type 0 where
  pub places_are : map (λ (l : Lane RosterLink). l.place) lanes ≡ places
  pub limits : All (λ (l : Lane RosterLink). l.conn.limit ≡ ANSWER_LIMIT) lanes
  pub courses : map (λ (l : Lane RosterLink). course_of l.link) lanes ≡ map begins_with texts

-- there is a lane for each bidder of the roster, in their order, whose link answers by the bidder's own texts
abbrev pub AreRosterLanes : Roster → List (Lane RosterLink) → Type 0
AreRosterLanes r lanes = AreLanesTo r.bidders (texts_of r.bidders r.replies) lanes

-- what such a link reports: nothing of what it is asked
abbrev pub exchanges_told : RosterLink → Option Exchanges
exchanges_told l = None

-- its course
abbrev pub course_told : RosterLink → Option Course
course_told l = Some (course_of l)

-- it has no faults
abbrev pub no_faults : RosterLink → ℕ
no_faults l = 0

-- it uses nothing that changes
abbrev pub stands_alone : RosterLink → List GName
stands_alone l = own_place

-- how a lane with such a link is worked with a body for the request with an id
abbrev pub WorksByTexts : List ℕ → List ℕ → Lane RosterLink → Lane RosterLink → Outcome → Type 0
WorksByTexts body id old new outcome = IsWorked exchanges_told course_told no_faults stands_alone body id old new outcome
