-- What became of a call on the desk, and of a request for bids at a moment of the clock. Private: only private clauses cite this file.
use Rattle.std.specs.Prelude.{◌≡◌, ◌⊎◌, ℕ, List, [], ◌∷◌}
use Rattle.day_rules.specs.declared.entry.Entry.{Entry}
use Rattle.day_rules.specs.declared.meters.Meters.{Meters}
use Rattle.day_rules.specs.Replies.{Call, ask, tick}
use Rattle.deal_floor.specs.declared.roster.Roster.{Roster}
use Rattle.adx_desk.specs.Called.{Called, was_done}
use Rattle.adx_desk.specs.Steps.{Step, metered, took}
use Rattle.fan_out.specs.declared.answer.BidderAnswer.{BidderAnswer}
use Rattle.rtb_request.specs.declared.bid_request.BidRequest.{BidRequest}
use Rattle.exchange_messages.specs.Replies.{Reply}
use Rattle.exchange_messages.specs.Turns.{AsksBehind, CallReplies, ask_by}

module _ {Y : Type 0} (runs : Y → Y → List Step → Type 0) (old new : Y) where
  -- a call for whose reply memory was refused
  abbrev pub LeavesCall : Call → Type 0
  LeavesCall call = (c : Called) × (c.call ≡ call) × runs old new (took c ∷ [])

  -- a call was taken, or given up, and replied so
  pub record TakesCall (r : Roster) (call : Call) (said : Reply) : Type 0 where
    pub called : Called
    pub is : called.call ≡ call
    pub ran : runs old new (took called ∷ [])
    pub replied : CallReplies r called said

  -- meters were read, and this is so of them
  abbrev pub ShowsMeters : (Meters → Type 0) → Type 0
  ShowsMeters IsSo = (at : List Entry) × (m : Meters) × runs old new (metered at m ∷ []) × IsSo m

  -- a request was asked at a moment of the clock, by what its bidders answered, after a tick at that moment
  pub record AsksAt (r : Roster) (IsMoment : ℕ → Type 0) (asked : BidRequest) (answers : List BidderAnswer) (said : Reply) : Type 0 where
    pub steps : List Step
    pub now : ℕ
    pub moment_is : IsMoment now
    pub ticked : Called
    pub ticks : ticked.call ≡ tick now
    pub behind : AsksBehind r asked answers now ticked ticked.ended steps said
    pub ran : runs old new steps

  -- memory was refused for its reply: the tick was taken, and the ask perhaps
  pub record StopsAt (r : Roster) (IsMoment : ℕ → Type 0) (asked : BidRequest) (answers : List BidderAnswer) : Type 0 where
    pub steps : List Step
    pub now : ℕ
    pub moment_is : IsMoment now
    pub ticked : Called
    pub ticks : ticked.call ≡ tick now
    pub calls : (steps ≡ took ticked ∷ [])
        ⊎ ((ticked.ended ≡ was_done) × (c : Called) × (c.call ≡ ask (ask_by r asked answers now))
        × (steps ≡ took ticked ∷ took c ∷ []))
    pub ran : runs old new steps
