-- What the source and the buffer are after the connection.
use Rattle.std.proofs.Common.{rules, ◌≡◌}
use Rattle.adx_commands.proofs.Connected.{same_moment}
use Rattle.adx_commands.proofs.connection.serve_rest.Goals as goal

pub returns-clause-serves : goal.returns-clause-serves
returns-clause-serves g c =
    let rest = c.serve_connection.new.source in
    let old = c.over-rest.result in
    let source : c.source-1.given.0 ≡ rest.source.now = search rules in
    let buffer : c.buffer-1.given.0 ≡ rest.buffer.now = search rules in
    let was : old.source.now ≡ c.args.source.now = search rules in
    let kept : old.buffer.now ≡ c.args.buffer.now = search rules in
    rw (source, buffer, ← was, ← kept) (same_moment _ _ c.clock_of-clock.ensures c.serve_connection.ensures.serves)
