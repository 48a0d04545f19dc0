use Rattle.adx.proofs.Unused.{unused}
use Rattle.adx.proofs.posting.post_over.Goals as goal

pub adx_serve-served-requires-clause-unused : goal.adx_serve-served-requires-clause-unused
adx_serve-served-requires-clause-unused g c lifetimes outlives = unused c.args.acceptor c.requires.none.0 c.requires.none.1
