-- The reply is that to any request that the message shows.
use Rattle.std.proofs.Common.{sym, ◌∙◌, string_bytes}
use Rattle.adx_io.specs.Streams.{Took}
use Rattle.http_connection.specs.Answers.{Shows}
use Rattle.http_service.specs.Connections.{TookFront}
use Rattle.http_service.proofs.Written.{front_of, took_reply}
use Rattle.http_service.proofs.serving.serve_message.Goals as goal

pub returns-then-message-clause-ends : goal.returns-then-message-clause-ends
returns-then-message-clause-ends g c =
    λ m shows. (
      sym (Shows.keep shows) ∙ c.if-message.true,
      record {
        answer = c.in-Ok.answer;
        body = string_bytes c.answer.new.body;
        answered = c.in-Ok.ensures.answered m shows;
        took = took_reply Took (g.K.Sink.held c.args.sink.now) (g.K.Sink.held c.write_answer.new.sink) c.args.message.now m c.in-Ok.answer (string_bytes c.answer.new.body) c.as_bytes.result.now c.asks_no_body-head.result shows c.asks_no_body-head.ensures c.as_bytes.ensures.value c.in-Ok-write_answer.ensures.taken;
      },
    )

pub returns-else-message-clause-ends : goal.returns-else-message-clause-ends
returns-else-message-clause-ends g c =
    λ m shows. (
      sym (Shows.keep shows) ∙ c.if-message.false,
      record {
        answer = c.in-Ok.answer;
        body = string_bytes c.answer.new.body;
        answered = c.in-Ok.ensures.answered m shows;
        took = took_reply Took (g.K.Sink.held c.args.sink.now) (g.K.Sink.held c.write_answer.new.sink) c.args.message.now m c.in-Ok.answer (string_bytes c.answer.new.body) c.as_bytes.result.now c.asks_no_body-head.result shows c.asks_no_body-head.ensures c.as_bytes.ensures.value c.in-Ok-write_answer.ensures.taken;
      },
    )

pub returns-in-Err-write_answer-clause-ends : goal.returns-in-Err-write_answer-clause-ends
returns-in-Err-write_answer-clause-ends g c =
    λ m shows.
    record {
      answer = c.in-Ok.answer;
      body = string_bytes c.answer.new.body;
      answered = c.in-Ok.ensures.answered m shows;
      took = took_reply TookFront (g.K.Sink.held c.args.sink.now) (g.K.Sink.held c.write_answer.new.sink) c.args.message.now m c.in-Ok.answer (string_bytes c.answer.new.body) c.as_bytes.result.now c.asks_no_body-head.result shows c.asks_no_body-head.ensures c.as_bytes.ensures.value (front_of (g.K.Sink.held c.args.sink.now) (g.K.Sink.held c.write_answer.new.sink) _ c.in-Err-write_answer.ensures.taken.0 c.in-Err-write_answer.ensures.taken.2);
    }
