use Rattle.std.proofs.Common.{◌≡◌}
use Rattle.formats.proofs.Lists.{AddsFirst}
use Rattle.day_entries.specs.Pieces.{with_pieces}
use Rattle.day_entries.specs.Entries.{kept}
use Rattle.day_entries.proofs.writing.gather_all_kept.Given as goal

abbrev pub invariant-loop-one : goal.invariant-loop-one
invariant-loop-one l = AddsFirst (kept l.numbers) (with_pieces l.initial.pieces.items l.initial.out) (with_pieces l.pieces.items l.out) l.kept l.one-index × (l.out.marked ≡ l.initial.out.marked)
