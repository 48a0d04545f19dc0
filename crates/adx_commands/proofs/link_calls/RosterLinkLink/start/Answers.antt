-- No start fails.
use Rattle.adx_commands.proofs.LanesTo.{starts}
use Rattle.adx_commands.proofs.link_calls.RosterLinkLink.start.Goals as goal

pub returns-clause-planned : goal.returns-clause-planned
returns-clause-planned c = λ fails. starts c.args.self.now.to_come.now fails
