-- A run by its first line is a bidder's.
use Rattle.std.proofs.Common.{◌≡◌, ◌∙◌, Option, Some, None, Result, Ok, Err, sym}
use Rattle.adx_io.specs.declared.sink.Sink as sink
use Rattle.adx_io.specs.declared.source.Source as source
use Rattle.adx_io.specs.declared.stop.Stop.{Stop}
use Rattle.bidder_core.specs.Seen.{BidderState}
use Rattle.command_runs.specs.Firsts.{LeavesFirst}
use Rattle.command_runs.specs.Runs.{Runs}
use Rattle.command_runs.specs.declared.outcome.Outcome.{Outcome}
use Rattle.http_service.specs.ConnectionRuns.{EndsServing, result_by}
use Rattle.http_connection.specs.declared.conn.ConnEnd.{ConnEnd}
use Rattle.command_bidder.specs.Bidders.{BidderRuns, MayEnd, bidder_command}

may_end : {L : Type 0} (old new : L) (course : Option (BidderState × BidderState)) (result : Result Outcome Stop) → LeavesFirst (λ (x y : L) bidder now r. EndsServing r) old new course result → MayEnd course result
may_end old new None result left = left.1
may_end old new (Some (bidder, now)) result left = left

pub bidder_runs : {L S K : Type 0} (s : source.Ghosts S) (k : sink.Ghosts K) (before after : L) (old new : S) (sink_old sink_new : K) (result : Result Outcome Stop)
    → ((course : Option (BidderState × BidderState)) × LeavesFirst (λ (x y : L) bidder now r. EndsServing r) before after course result × Runs s k (bidder_command course) old new sink_old sink_new result)
    → BidderRuns s k old new sink_old sink_new result
bidder_runs s k before after old new sink_old sink_new result ran = record { course = ran.0; ends = may_end before after ran.0 result ran.1; runs = ran.2 }

-- no such run ends with a fault of a disk
serves_no_disk : (end : ConnEnd) → result_by end ≡ Ok Outcome.DiskFault → ⊥
serves_no_disk ConnEnd.Closed is = cc is
serves_no_disk ConnEnd.Cut is = cc is
serves_no_disk (ConnEnd.Refused fault) is = cc is
serves_no_disk ConnEnd.ReadFault is = cc is
serves_no_disk ConnEnd.WriteFault is = cc is
serves_no_disk ConnEnd.Spent is = cc is
serves_no_disk ConnEnd.OutOfMemory is = cc is

pub no_disk_fault : (course : Option (BidderState × BidderState)) (result : Result Outcome Stop) → MayEnd course result → result ≡ Ok Outcome.DiskFault → ⊥
no_disk_fault None (Ok outcome) ends is = cc (sym ends, is)
no_disk_fault None (Err stop) ends is = cc is
no_disk_fault (Some (bidder, now)) result (end, so) is = serves_no_disk end (sym so ∙ is)
