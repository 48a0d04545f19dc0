-- The lanes of workers to a roster's bidders, over the links that they are given. This project's own.
use Rattle.std.specs.Prelude.{◌≡◌, List, length, map, All, Option, Some, None, Vec}
use Rattle.std.specs.List.{AllZip}
use Rattle.std.proofs.Common.{Global}
use Rattle.deal_floor.specs.declared.place.Place.{Place}
use Rattle.fan_out.specs.declared.answer.TheConstants.{ANSWER_LIMIT}
use Rattle.fan_out.specs.declared.lane.Lane.{Lane}
use Rattle.exchange_serving.specs.Lanes.{lists_of}

-- there is a link for each of these places
abbrev pub Fit : {L : Type 0} → List Place → List L → Type 0
Fit places links = length links ≡ length places

-- there is a lane to each of these places, in their order, over the link that is there
pub record AreLanesOver {L : Type 0} (places : List Place) (links : List L) (lanes : List (Lane L)) : Type 0 where
  pub places_are : map (λ (l : Lane L). l.place) lanes ≡ places
  pub limits : All (λ (l : Lane L). l.conn.limit ≡ ANSWER_LIMIT) lanes
  pub links_are : map (λ (l : Lane L). l.link) lanes ≡ links

-- each worker has such lanes over its own list of links
abbrev pub AreWorkersOver : {L : Type 0} → List Place → List (List L) → List (List (Lane L)) → Type 0
AreWorkersOver places lists workers = AllZip (AreLanesOver places) lists workers

-- the links that each of the lists has
abbrev pub links_in : {L : Type 0} → List (Vec L Global) → List (List L)
links_in lists = map (λ (v : Vec _ Global). v.items) lists

-- What was made of links, as far as they fit. Private clauses alone cite what follows.
abbrev pub FitLanes : {L : Type 0} → List Place → List L → Option (Vec (Lane L) Global) → Type 0
FitLanes places links (Some lanes) = AreLanesOver places links lanes.items
FitLanes places links None = Fit places links → ⊥

-- private clauses alone cite them
abbrev pub FitWorkers : {L : Type 0} → List Place → List (Vec L Global) → Option (Vec (Vec (Lane L) Global) Global) → Type 0
FitWorkers places lists (Some workers) = AreWorkersOver places (links_in lists) (lists_of workers.items)
FitWorkers places lists None = All (Fit places) (links_in lists) → ⊥
