-- A head at the front that isn't all bytes leaves none that is.
use Rattle.std.proofs.Common.{length}
use Rattle.http_grammar.proofs.FirstRequests.{no_whole}
use Rattle.http_grammar.proofs.parts.request_parts.Goals as goal

pub returns-else-first-head-clause-exact : goal.returns-else-first-head-clause-exact
returns-else-first-head-clause-exact c = no_whole (length c.args.spans.now) c.args.limit c.args.head.now c.in-Some.first c.in-Some.ensures.exact c.if-first-head.false
