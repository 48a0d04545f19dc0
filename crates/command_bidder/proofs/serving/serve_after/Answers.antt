-- What came of the connection is what the run wrote.
use Rattle.std.proofs.Common.{sym, subst, arith, Result}
use Rattle.adx_io.specs.declared.stop.Stop.{Stop}
use Rattle.adx_io.specs.Streams.{WhereTold}
use Rattle.adx_io.specs.TalkState.{state_of}
use Rattle.bidder_http.specs.Messages.{BidderAnswers, BidderGivesUp}
use Rattle.command_runs.specs.Meanings.{Wrote}
use Rattle.command_runs.specs.declared.outcome.Outcome.{Outcome}
use Rattle.http_service.specs.ConnectionRuns.{most_beyond}
use Rattle.http_service.proofs.Ended.{connection_wrote}
use Rattle.http_service.specs.declared.limits.TheConstants.{REQUEST_LIMIT}
use Rattle.command_bidder.specs.Bidders.{serves}
use Rattle.command_bidder.proofs.serving.serve_after.Goals as goal

pub returns-clause-ran : goal.returns-clause-ran
returns-clause-ran g c =
    let rest = c.serve_rest-end in
    let talk = c.args.talk.now in
    let told = g.S.Source.tape rest.new.source in
    let held = g.K.Sink.held talk.sink.now in
    let held_now = g.K.Sink.held rest.new.sink in
    subst (λ (r : Result Outcome Stop). WhereTold (state_of talk).tape told (λ x y. Wrote (serves c.args.bidder.now rest.new.bidder) x.left y.left held held_now r)) (sym c.result_of.ensures)
    (connection_wrote BidderAnswers BidderGivesUp REQUEST_LIMIT most_beyond (omega arith) (state_of talk).tape told rest.new.buffer.pending rest.ensures.ahead held held_now c.args.bidder.now rest.new.bidder rest.result rest.ensures.read_out rest.ensures.ends)

pub returns-clause-ends : goal.returns-clause-ends
returns-clause-ends g c = (c.serve_rest-end.result, c.result_of.ensures)
