-- The response that was heard, or its fault.
use Rattle.std.proofs.Common.{rules, subst, Ok, Err}
use Rattle.adx_io.specs.Streams.{WhereTold}
use Rattle.http_connection.specs.Answers.{AnswersResponse}
use Rattle.adx_http.specs.Exchanging.{TakesOver, tape_of}
use Rattle.adx_http.proofs.Whole.{heard_response, heard_fault}
use Rattle.adx_http.proofs.exchanging.hear_answer.Goals.{in-Ok, in-Err}
use Rattle.adx_http.proofs.exchanging.hear_answer.Goals as goal

pub returns-clause-answer : goal.returns-clause-answer
returns-clause-answer g c =
    let o = g.L.Link.course c.args.link.now in
    let n = g.L.Link.course c.close.result.now in
    let takes : WhereTold o n (TakesOver c.close.ensures.hears.bytes) = subst (λ p. WhereTold p n (TakesOver c.close.ensures.hears.bytes)) c.requires.plan c.close.ensures.hears.plan in
    elim c.match-read_response.branch [
      | in-Ok w ↦
          let answers : AnswersResponse c.args.conn.now c.match-read_response.conn (tape_of o) (tape_of n) (Ok w.in-Ok.response) = search rules in
          let t = heard_response g.H.Hearer.hears c.args.hearer o n c.args.conn.now c.match-read_response.conn c.close.ensures.hears.bytes w.in-Ok.response w.hear.result c.requires.cleared.held c.requires.cleared.failed takes answers w.hear.ensures.hears in
          search rules
      | in-Err w ↦
          let answers : AnswersResponse c.args.conn.now c.match-read_response.conn (tape_of o) (tape_of n) (Err w.in-Err.fault) = search rules in
          let t = heard_fault g.H.Hearer.hears c.args.hearer o n c.args.conn.now c.match-read_response.conn c.close.ensures.hears.bytes w.in-Err.fault c.requires.cleared.held c.requires.cleared.failed takes answers in
          search rules
    ]
