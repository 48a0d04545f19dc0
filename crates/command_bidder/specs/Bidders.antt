-- How a bidder runs over an input and an output: its price line, and the connection that comes after it. This project's
-- own.
use Rattle.std.specs.Prelude.{◌≡◌, ℕ, List, Option, Some, None, Result}
use Rattle.adx_io.specs.declared.sink.Sink as sink
use Rattle.adx_io.specs.declared.source.Source as source
use Rattle.adx_io.specs.declared.stop.Stop.{Stop}
use Rattle.bidder_core.specs.Seen.{BidderState}
use Rattle.bidder_http.specs.Messages.{BidderAnswers, BidderGivesUp}
use Rattle.command_runs.specs.Firsts.{EndsHeadless, Heads, by_first}
use Rattle.command_runs.specs.Meanings.{Meaning}
use Rattle.command_runs.specs.Runs.{Runs}
use Rattle.command_runs.specs.declared.first.NoLine.{NoLine}
use Rattle.command_runs.specs.Limits.{input_limit}
use Rattle.command_runs.specs.declared.outcome.Outcome.{Outcome}
use Rattle.http_service.specs.ConnectionRuns.{EndsServing, connection, most_beyond}
use Rattle.http_service.specs.declared.limits.TheConstants.{REQUEST_LIMIT}
use Rattle.command_bidder.specs.PriceLines.{IsPriceLine, RefusesPriceLine}
use Rattle.script_lines.specs.Refusals.{roster_refused_line}
use Rattle.script_lines.specs.declared.refusal.RosterRefusal.{RosterRefusal}

-- what is written where there is no price line
abbrev pub lack_line : NoLine → List ℕ
lack_line NoLine.Cut = roster_refused_line RosterRefusal.Cut
lack_line NoLine.Long = roster_refused_line RosterRefusal.Long

-- a first line says the bidder whose price line it is, with no notice yet; another is refused by its first fault
abbrev pub price_heads : Heads BidderState
price_heads = record {
  tells = IsPriceLine;
  refuses = λ line out. (why : RosterRefusal) × RefusesPriceLine line why × (out ≡ roster_refused_line why);
  lacks = lack_line;
}

-- what a bidder means to a connection that begins with it so, and leaves it so
-- Example: a price line and a bill of it give one reply, 204, and a ledger with that bill.
abbrev pub serves : BidderState → BidderState → Meaning
serves bidder now = connection BidderAnswers BidderGivesUp REQUEST_LIMIT most_beyond bidder now

-- what the command means, by the bidder of the first line, if there is one, and what the connection leaves of it
abbrev pub bidder_command : Option (BidderState × BidderState) → Meaning
bidder_command = by_first price_heads input_limit (λ bidder allowed now. serves bidder now)

-- how a run may end, by whether a price line came
abbrev pub MayEnd : Option (BidderState × BidderState) → Result Outcome Stop → Type 0
MayEnd None result = EndsHeadless result
MayEnd (Some (bidder, now)) result = EndsServing result

-- A bidder ran so over a source and a sink.
pub record BidderRuns {S K : Type 0} (s : source.Ghosts S) (k : sink.Ghosts K) (old new : S) (sink_old sink_new : K)
    (result : Result Outcome Stop) : Type 0 where
  pub course : Option (BidderState × BidderState)
  pub ends : MayEnd course result
  pub runs : Runs s k (bidder_command course) old new sink_old sink_new result
