-- Private, cited by the pump of a world alone: what its parts do.
use Rattle.std.specs.Prelude.{◌≡◌, ◌<◌, List, map, Result, Ok, Err, None, Some}
use Rattle.adx_units.specs.declared.memory.OutOfMemory.{OutOfMemory}
use Rattle.adx_io.specs.Streams.{own_place}
use Rattle.adx_links.specs.declared.planned.Planned.{Planned}
use Rattle.bidder_core.specs.Seen.{BidderState}
use Rattle.outbox.specs.Following.{OutboxState}
use Rattle.outbox.specs.Pumping.{Pumps}
use Rattle.outbox.specs.declared.calling.Call.{Call}
use Rattle.outbox.specs.declared.outbox.TheConstants.{ANSWER_LIMIT}
use Rattle.outbox.specs.declared.report.Report.{Report}
use Rattle.two_books.specs.Exchanges.{ExchangeState}
use Rattle.two_books.specs.Replaying.{ReplayState, course_of, failing, faults_of, link_of, most_faults, planned_of}
use Rattle.two_books.specs.Steps.{IsPumped, StopsPumping}
use Rattle.two_books.specs.Worlds.{WorldState}
use Rattle.two_books.specs.declared.late.Late.{Late}
use Rattle.two_books.specs.declared.replay.Reply.{Reply}
use Rattle.two_books.specs.declared.step.Fate.{Fate}

-- the outbox pumped over a link with that plan
abbrev pub PumpsOver : List Planned → Result Report OutOfMemory → OutboxState → OutboxState → Type 0
PumpsOver plan result old new =
    (link : ReplayState) × Pumps (λ l. None) (λ l. Some (course_of l)) faults_of (λ _. own_place) ANSWER_LIMIT (link_of plan) link result old new

-- the same over the link that answers these replies
abbrev pub AnswersAll : List Reply → Result Unit OutOfMemory → OutboxState → OutboxState → Type 0
AnswersAll replies (Ok done) old new = (r : Report) × PumpsOver (map planned_of replies) (Ok r) old new
AnswersAll replies (Err wanting) old new = PumpsOver (map planned_of replies) (Err wanting) old new

-- the pending posts were tried so; the link has no more failures than its count of faults can distinguish
pub record PumpsPlan (replies : List Reply) (result : Result Unit OutOfMemory) (old new : ExchangeState) : Type 0 where
  pub day : new.day ≡ old.day
  pub campaigns : new.campaigns ≡ old.campaigns
  pub few : failing (map planned_of replies) < most_faults
  pub tried : AnswersAll replies result old.outbox new.outbox

abbrev pub world_of : ExchangeState → List Call → BidderState → List Late → WorldState
world_of exchange messages bidder replies = record { exchange = exchange; messages = messages; bidder = bidder; replies = replies }

-- the pump of a world with these parts, whatever replies are on their way
abbrev pub PumpsTo : List Fate → Result Unit OutOfMemory → ExchangeState → ExchangeState → List Call → List Call → BidderState → BidderState → Type 0
PumpsTo fates (Ok done) e now messages messages_now b bidder =
    (replies : List Late) → IsPumped fates (world_of e messages b replies) (world_of now messages_now bidder replies)
PumpsTo fates (Err wanting) e now messages messages_now b bidder =
    (replies : List Late) → StopsPumping fates (world_of e messages b replies) (world_of now messages_now bidder replies)
