-- What the steps of the run do. Only private clauses cite this file.
use Rattle.std.specs.Prelude.{◌≡◌, ◌≢◌, ◌≤◌, ℕ, List, [], length, Option, Some, Result, Ok, Err}
use Rattle.adx_desk.specs.Desks.{OnDisk}
use Rattle.adx_io.specs.Lines.{tape_behind}
use Rattle.adx_io.specs.Streams.{Tape}
use Rattle.day_journal.specs.declared.disk.Disk.{Ghosts as DiskGhosts}
use Rattle.adx_io.specs.declared.line_buffer.TheConstants.{CHUNK}
use Rattle.adx_io.specs.declared.stop.Stop.{Stop}
use Rattle.adx_links.specs.declared.link.Link.{Ghosts as LinkGhosts}
use Rattle.command_runs.specs.declared.outcome.Outcome.{Outcome}
use Rattle.deal_floor.specs.declared.roster.Roster.{Roster}
use Rattle.exchange_messages.specs.Floors.{IsMomentOf}
use Rattle.exchange_http.specs.Serving.{ServesConnection, talked}
use Rattle.fan_out.specs.declared.lane.Lane.{Lane}
use Rattle.http_connection.specs.declared.conn.ConnEnd.{ConnEnd}

-- how a run ends that was read to the end of its connection, on a desk that counted so many faults of its disk
pub record EndsReadOut (faults : ℕ) (result : Result Outcome Stop) : Type 0 where
  pub passed : faults ≡ 0 → result ≡ Ok Outcome.Done
  pub failed : faults ≢ 0 → result ≡ Ok Outcome.DiskFault

-- how one ends whose connection ended so
abbrev pub EndsConn : ConnEnd → ℕ → Result Outcome Stop → Type 0
EndsConn ConnEnd.Closed faults result = EndsReadOut faults result
EndsConn ConnEnd.Cut faults result = EndsReadOut faults result
EndsConn (ConnEnd.Refused fault) faults result = EndsReadOut faults result
EndsConn ConnEnd.ReadFault faults result = result ≡ Err Stop.ReadFault
EndsConn ConnEnd.WriteFault faults result = result ≡ Err Stop.WriteFault
EndsConn ConnEnd.Spent faults result = EndsReadOut faults result
EndsConn ConnEnd.OutOfMemory faults result = result ≡ Err Stop.OutOfMemory

-- The connection after a roster's line was served on a desk, and the run ended so. What the buffer holds was taken of the
-- source and not looked at.
pub record ServesDesk {D L : Type 0} (d : DiskGhosts D) (l : LinkGhosts L) (r : Roster) (behind tape_now : Option Tape)
    (held held_now : Option (List ℕ)) (lanes lanes_now : List (Lane L)) (old new : OnDisk D)
    (result : Result Outcome Stop) : Type 0 where
  pub end : ConnEnd
  pub pending : List ℕ
  pub few : length pending ≤ CHUNK
  pub read_out : end ≡ ConnEnd.ReadFault → pending ≡ []
  pub serves : ServesConnection d l (IsMomentOf (Some r.now)) r (talked behind held) (talked (tape_behind pending tape_now) held_now)
      lanes lanes_now old new end
  pub ends : EndsConn end new.desk.faults result
