-- The bidder that the texts ask for.
use Rattle.std.proofs.Common.{◌∙◌, ap₂}
use Rattle.command_words.specs.NetworkTaken.{bid_with}
use Rattle.command_words.proofs.network_reading.bid_asked.Goals as goal

pub returns-clause-read : goal.returns-clause-read
returns-clause-read c = c.bidding_at.ensures.read ∙ ap₂ bid_with c.in_ok-prices.ensures c.port_found.ensures
