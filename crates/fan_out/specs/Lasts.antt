-- What a lane's work leaves in its lane before it is taken; private clauses alone cite this file.
use Rattle.std.specs.Prelude.{◌≡◌, ◌<◌, ℕ, List, length, map, slice_index_or, Option, Some, None, Result, Ok, Err}
use Rattle.adx_units.specs.declared.memory.OutOfMemory.{OutOfMemory}
use Rattle.deal_floor.specs.declared.place.Place.{Place}
use Rattle.http_connection.specs.State.{ConnState}
use Rattle.http_grammar.specs.declared.fault.HttpFault.{HttpFault}
use Rattle.fan_out.specs.declared.answer.BidderAnswer.{BidderAnswer}
use Rattle.fan_out.specs.declared.answer.Refusal.{Refusal}
use Rattle.fan_out.specs.declared.lane.Lane.{Lane}
use Rattle.fan_out.specs.Lanes.{Outcome, outcome_of}

-- what is said of a bidder whose answer was heard
abbrev pub answer_of : Result (Result BidderAnswer OutOfMemory) HttpFault → Result BidderAnswer OutOfMemory
answer_of (Ok heard) = heard
answer_of (Err HttpFault.ReadFault) = Ok BidderAnswer.LinkFault
answer_of (Err fault) = Ok (BidderAnswer.Refused (Refusal.Http fault))

-- a lane of these parts
abbrev pub lane_of : {L : Type 0} → Place → L → ConnState → Option (Result BidderAnswer OutOfMemory) → Lane L
lane_of place link conn last = record { place = place; link = link; conn = conn; last = last }

-- a lane whose answer was taken
abbrev pub emptied : {L : Type 0} → Lane L → Lane L
emptied l = record l { last = None }

-- the lanes' answers were all taken, and are these
abbrev pub AreTaken : {L : Type 0} → List (Lane L) → List BidderAnswer → Type 0
AreTaken ls answers = map (λ (l : Lane _). l.last) ls ≡ map (λ a. Some (Ok a)) answers

module _ {L : Type 0} (Works : Lane L → Lane L → Outcome → Type 0) where
  -- the lane was worked, and what its work came to is in it
  pub record Leaves (old new : Lane L) : Type 0 where
    pub answer : Result BidderAnswer OutOfMemory
    pub last : new.last ≡ Some answer
    pub works : Works old new (outcome_of answer)

  -- so was each lane
  pub record EachLeaves (old new : List (Lane L)) : Type 0 where
    pub long : length new ≡ length old
    pub each : (k : ℕ) (d : Lane L) → k < length old → Leaves (slice_index_or old k d) (slice_index_or new k d)
