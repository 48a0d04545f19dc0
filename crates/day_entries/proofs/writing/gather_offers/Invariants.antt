use Rattle.std.proofs.Common.{◌≡◌}
use Rattle.formats.proofs.Lists.{AddsFirst}
use Rattle.day_entries.specs.Pieces.{with_pieces}
use Rattle.day_entries.specs.Entries.{offer}
use Rattle.day_entries.proofs.writing.gather_offers.Given as goal

abbrev pub invariant-loop-offer : goal.invariant-loop-offer
invariant-loop-offer l = AddsFirst (offer l.numbers) (with_pieces l.initial.pieces.items l.initial.out) (with_pieces l.pieces.items l.out) l.offers l.offer-index × (l.out.marked ≡ l.initial.out.marked)
