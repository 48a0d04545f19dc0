use Rattle.std.proofs.Common.{◌∙◌}
use Rattle.day_machine.proofs.IdPlaces.{place_is}
use Rattle.day_machine.proofs.ids.place_of.Goals as goal

pub returns : goal.returns
returns c = c.place_at.ensures ∙ place_is c.args.auction.now c.args.asks c.args.ids.now.entries c.get_index_of.result c.get_index_of.ensures.index
