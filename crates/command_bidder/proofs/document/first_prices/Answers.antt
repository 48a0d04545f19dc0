use Rattle.std.proofs.Common.{inr}
use Rattle.command_bidder.proofs.FirstLines.{found_first}
use Rattle.command_bidder.proofs.document.first_prices.Goals as goal

pub returns-in-Ok-clause-finds : goal.returns-in-Ok-clause-finds
returns-in-Ok-clause-finds c =
    found_first c.args.document.now c.in-Ok.line.now c.read_prices.result c.in-Ok.ensures.found c.read_prices.ensures.finds

pub returns-in-Err-clause-finds : goal.returns-in-Err-clause-finds
returns-in-Err-clause-finds c = inr (c.in-Err.none, c.in-Err.ensures.none, c.refusal_of.ensures)
