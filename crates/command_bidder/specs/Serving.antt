-- What a step of a bidder's run does. A private clause cites this file.
use Rattle.adx_io.specs.Lines.{tape_behind}
use Rattle.adx_io.specs.declared.line_buffer.LineBuffer.{LineBuffer}
use Rattle.adx_io.specs.declared.sink.Sink as sinks
use Rattle.adx_io.specs.declared.source.Source as sources
use Rattle.bidder_core.specs.Seen.{BidderState}
use Rattle.bidder_http.specs.Messages.{BidderAnswers, BidderGivesUp}
use Rattle.http_connection.specs.declared.conn.ConnEnd.{ConnEnd}
use Rattle.http_service.specs.Connections.{EndsWith}
use Rattle.http_service.specs.declared.limits.TheConstants.{REQUEST_LIMIT}

-- a bidder served the connection that comes after what a buffer looked at, and the connection ended so
abbrev pub ServedRest : {S K : Type 0} → sources.Ghosts S → sinks.Ghosts K → (old new : S) (buffer buffer_now : LineBuffer)
    (sink_old sink_new : K) (bidder now : BidderState) → ConnEnd → Type 0
ServedRest s k old new buffer buffer_now sink_old sink_new bidder now end =
    EndsWith BidderAnswers BidderGivesUp REQUEST_LIMIT (tape_behind buffer.pending (s.tape old))
    (tape_behind buffer_now.pending (s.tape new)) (k.held sink_old) (k.held sink_new) bidder now end
