-- One outcome per lane, in lane order. This project's own.
use Rattle.std.specs.Prelude.{List, [], ◌∷◌, map, Ok, ⊤}
use Rattle.fan_out.specs.declared.answer.BidderAnswer.{BidderAnswer}
use Rattle.fan_out.specs.declared.lane.Lane.{Lane}
use Rattle.fan_out.specs.Answers.{said_by}
use Rattle.fan_out.specs.Lanes.{Outcome}

-- the outcomes of lanes that gave these answers
abbrev pub outcomes_of : List BidderAnswer → List Outcome
outcomes_of answers = map (λ a. Ok (said_by a)) answers

module _ {L : Type 0} (Works : Lane L → Lane L → Outcome → Type 0) where
  -- each lane's work came to the outcome in its place
  abbrev pub AreWorked : List (Lane L) → List (Lane L) → List Outcome → Type 0
  AreWorked [] [] [] = ⊤
  AreWorked [] [] (o ∷ os) = ⊥
  AreWorked [] (n ∷ ns) os = ⊥
  AreWorked (l ∷ ls) [] os = ⊥
  AreWorked (l ∷ ls) (n ∷ ns) [] = ⊥
  AreWorked (l ∷ ls) (n ∷ ns) (o ∷ os) = Works l n o × AreWorked ls ns os

  -- each lane's work came to some outcome
  abbrev pub WereWorked : List (Lane L) → List (Lane L) → Type 0
  WereWorked old new = (outcomes : List Outcome) × AreWorked old new outcomes
