-- What was read ran; where memory was refused, whatever was to run ends so.
use Rattle.adx_commands.proofs.Commands.{does_unstarted}
use Rattle.adx_commands.proofs.command.run_words.Goals as goal

pub returns-in-Ok-clause-does : goal.returns-in-Ok-clause-does
returns-in-Ok-clause-does g c = (c.in-Ok.read, c.in-Ok.ensures.other, c.run.ensures.does)

pub returns-in-Err-clause-does : goal.returns-in-Err-clause-does
returns-in-Err-clause-does g c =
    does_unstarted g.S.Source g.K.Sink g.D.Disk g.P.Keeper c.args.source.now c.args.sink.now c.args.disk.now c.args.keeper.now c.args.words.now
