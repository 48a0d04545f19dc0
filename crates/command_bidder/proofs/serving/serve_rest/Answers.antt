-- What the source and the buffer are after the connection.
use Rattle.std.proofs.Common.{rules, ◌≡◌}
use Rattle.command_bidder.proofs.serving.serve_rest.Goals as goal

pub returns-clause-ends : goal.returns-clause-ends
returns-clause-ends g c =
    let rest = c.serve_bidder.new.source in
    let old = c.over-rest.result in
    let source : c.source-1.given.0 ≡ rest.source.now = search rules in
    let buffer : c.buffer-1.given.0 ≡ rest.buffer.now = search rules in
    let was : old.source.now ≡ c.args.source.now = search rules in
    let kept : old.buffer.now ≡ c.args.buffer.now = search rules in
    rw (source, buffer, ← was, ← kept) c.serve_bidder.ensures.ends
