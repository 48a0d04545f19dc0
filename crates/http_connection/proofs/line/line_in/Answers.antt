-- The first line feed after the place, or none.
use Rattle.std.proofs.Common.{arith}
use Rattle.http_connection.proofs.Seen.{seen_none, feed_ends}
use Rattle.http_connection.proofs.line.line_in.Goals as goal

pub returns-in-Some : goal.returns-in-Some
returns-in-Some c = feed_ends c.args.from c.args.bound c.args.from c.in-Some.feed c.args.bytes.now (seen_none c.args.from c.args.bytes.now) c.in-Some.ensures (omega (arith, c.if-feed-bound.true))
