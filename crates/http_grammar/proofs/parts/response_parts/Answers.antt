-- The parts that were judged are the head's.
use Rattle.std.proofs.Common.{take, inr}
use Rattle.httparse.specs.Grammar.{status_code}
use Rattle.http_grammar.specs.Heads.{pairs_at}
use Rattle.http_grammar.specs.Requests.{response_pairs}
use Rattle.http_grammar.proofs.Forms.{response_fails}
use Rattle.http_grammar.proofs.parts.response_parts.Goals as goal

pub returns-in-Err : goal.returns-in-Err
returns-in-Err c =
    let read = c.in-Some.ensures.reads in
    inr (read.0, read.1, response_fails c.args.limit c.in-Some.read.code (status_code read.0) (pairs_at c.args.head.now (take c.in-Some.read.headers c.response_head.new.spans)) (response_pairs read.0) c.in-Err.fault read.2.code read.2.fields c.in-Err.ensures)
