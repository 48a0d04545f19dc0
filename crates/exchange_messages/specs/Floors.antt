-- What an exchange takes messages on, and what it does with one. This project's own.
use Rattle.std.specs.Prelude.{◌≡◌, ◌<◌, ◌^◌, ℕ, List, map, All, Option, IfSome, Result, IfOk, Vec}
use Rattle.std.proofs.Common.{Global}
use Rattle.adx_desk.specs.Rosters.{desk_terms}
use Rattle.adx_links.specs.declared.link.Link.{Ghosts as LinkGhosts}
use Rattle.deal_floor.specs.declared.roster.Roster.{Roster}
use Rattle.adx_desk.specs.Steps.{Step}
use Rattle.adx_desk.specs.declared.day_desk.DayDesk.{Ghosts as DeskGhosts}
use Rattle.fan_out.specs.declared.answer.TheConstants.{ANSWER_LIMIT}
use Rattle.fan_out.specs.declared.lane.Lane.{Lane}
use Rattle.fan_out.specs.declared.answer.BidderAnswer.{BidderAnswer}
use Rattle.fan_out.specs.Gathering.{AreWorked, WereWorked, outcomes_of}
use Rattle.fan_out.specs.Lanes.{works}
use Rattle.http_connection.specs.Messages.{Request}
use Rattle.exchange_messages.specs.Replies.{Reply}
use Rattle.exchange_messages.specs.Turns.{IsAnswered, LeavesUnmade}
use Rattle.exchange_messages.specs.declared.clock.Clock.{Ghosts as ClockGhosts}
use Rattle.exchange_messages.specs.declared.floor.Floor.{Floor}
use Rattle.exchange_messages.specs.declared.gathering.Round.{Round}
use Rattle.adx_units.specs.declared.memory.OutOfMemory.{OutOfMemory}

-- a moment that a clock gives: below 2^63, and the one that it reports
-- Example: of two bidders whose first lane's link fails, the answers are none and the second one's bids.
abbrev pub IsMomentOf : Option ℕ → ℕ → Type 0
IsMomentOf told now = (now < 2 ^ 63) × IfSome told (λ m. now ≡ m)

-- there is one lane for each bidder of the roster, in their order, and it reads answers that are as long as they may be
pub record AreLanes {L : Type 0} (r : Roster) (lanes : List (Lane L)) : Type 0 where
  pub places : map (λ (l : Lane L). l.place) lanes ≡ r.bidders
  pub limits : All (λ (l : Lane L). l.conn.limit ≡ ANSWER_LIMIT) lanes

-- The lanes of a round were worked with its body for the request of its id: by each lane's outcome where the bidders' answers
-- are given, and by some outcomes in any case.
abbrev pub Gave : {L : Type 0} → LinkGhosts L → Round L → Vec (Lane L) Global × Result (Vec BidderAnswer Global) OutOfMemory → Type 0
Gave l round given =
    IfOk given.1 (λ answers. AreWorked (works l round.body.now round.id.now) round.lanes.items given.0.items (outcomes_of answers.items))
    × WereWorked (works l round.body.now round.id.now) round.lanes.items given.0.items

module _ {Y L C G : Type 0} (y : DeskGhosts Y) where
  -- a floor of the roster's day: the desk was opened with it, and there is a lane for each bidder
  pub record IsFloor (f : Floor Y L C G) : Type 0 where
    pub terms : y.terms f.desk ≡ desk_terms f.roster.now
    pub lanes_are : AreLanes f.roster.now f.lanes.now.items

  -- what no message exchanges
  pub record IsKept (old new : Floor Y L C G) : Type 0 where
    pub roster : new.roster ≡ old.roster
    pub clock : new.clock ≡ old.clock
    pub gatherer : new.gatherer ≡ old.gatherer
    pub desk : y.place new.desk ≡ y.place old.desk
    pub lanes : new.lanes.ghost_name ≡ old.lanes.ghost_name

module _ {Y L C G : Type 0} (y : DeskGhosts Y) (l : LinkGhosts L) (c : ClockGhosts C) where
  -- a message was answered so
  pub record AnswersHere (old new : Floor Y L C G) (m : Request) (said : Reply) : Type 0 where
    pub steps : List Step
    pub answered : IsAnswered (works l) (IsMomentOf (c.moment old.clock.now)) old.roster.now old.lanes.now.items m steps new.lanes.now.items said
    pub ran : y.runs old.desk new.desk steps

  -- memory was refused before its reply was made
  pub record GivesUpHere (old new : Floor Y L C G) (m : Request) : Type 0 where
    pub steps : List Step
    pub left_unmade : LeavesUnmade (works l) (IsMomentOf (c.moment old.clock.now)) old.roster.now old.lanes.now.items m steps new.lanes.now.items
    pub ran : y.runs old.desk new.desk steps
