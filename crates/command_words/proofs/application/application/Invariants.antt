-- What the rows that are left make of the program so far.
use Rattle.std.proofs.Common.{◌≡◌, drop, map}
use Rattle.std.specs.List.{fold}
use Rattle.clap.specs.Simple.{App, app_of, with_subcommand}
use Rattle.command_words.specs.Rows.{row_in}
use Rattle.command_words.specs.Spelling.{Row}
use Rattle.command_words.specs.Taken.{application, subcommand_for}
use Rattle.command_words.proofs.application.application.Given as goal

abbrev pub invariant-loop-row : goal.invariant-loop-row
invariant-loop-row l =
    fold (λ (a : App) (row : Row). with_subcommand a (subcommand_for row).top) (app_of l.program) (map row_in (drop l.row-index l.row-items)) ≡ application
