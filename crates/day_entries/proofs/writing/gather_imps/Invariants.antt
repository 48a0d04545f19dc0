use Rattle.std.proofs.Common.{◌≡◌}
use Rattle.formats.proofs.Lists.{AddsFirst}
use Rattle.day_entries.specs.Pieces.{with_pieces}
use Rattle.day_entries.specs.Entries.{name}
use Rattle.day_entries.proofs.writing.gather_imps.Given as goal

abbrev pub invariant-loop-imp : goal.invariant-loop-imp
invariant-loop-imp l = AddsFirst (name l.numbers) (with_pieces l.initial.pieces.items l.initial.out) (with_pieces l.pieces.items l.out) l.imps l.imp-index × (l.out.marked ≡ l.initial.out.marked)
