use Rattle.std.proofs.Common.{◌≡◌, ◌++◌, take}
use Rattle.std.specs.String.{string_bytes}
use Rattle.std.specs.List.{flat_map}
use Rattle.command_words.specs.Helps.{command_line}
use Rattle.command_words.specs.Rows.{row_in}
use Rattle.command_words.proofs.help.push_lines.Given as goal

abbrev pub invariant-loop-row : goal.invariant-loop-row
invariant-loop-row l = string_bytes l.out ≡ string_bytes l.fn.out ++ flat_map (λ r. command_line (row_in r)) (take l.row-index l.rows)
