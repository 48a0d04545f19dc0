-- The exit statuses of a bidder's run. This project's own.
use Rattle.std.specs.Prelude.{ℕ}
use Rattle.command_bidder.specs.declared.ending.BidEnd.{BidEnd}

-- the exit status of a run that ended so
abbrev pub status_by : BidEnd → ℕ
status_by BidEnd.Over = 0
status_by (BidEnd.Refused why) = 3
status_by BidEnd.AcceptorFault = 4
status_by BidEnd.OutOfMemory = 12
