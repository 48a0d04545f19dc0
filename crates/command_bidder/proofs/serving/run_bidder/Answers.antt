-- The run by its first line.
use Rattle.command_bidder.proofs.Bidders.{bidder_runs}
use Rattle.command_bidder.proofs.serving.run_bidder.Goals as goal

pub returns : goal.returns
returns g c = record { runs = bidder_runs g.S.Source g.K.Sink _ _ _ _ _ _ c.run_led.result c.run_led.ensures.runs }
