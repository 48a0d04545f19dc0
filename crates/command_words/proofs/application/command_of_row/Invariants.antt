-- What the options that are left make of the command so far.
use Rattle.std.proofs.Common.{◌≡◌, drop, false, map}
use Rattle.std.specs.List.{fold}
use Rattle.clap.specs.Simple.{app_of, with_rule}
use Rattle.clap.specs.declared.builder.command.Command.TheViews.{out-Command as fields_of}
use Rattle.command_words.specs.Rows.{choice_in, row_in}
use Rattle.command_words.specs.Taken.{rule_for, subcommand_for}
use Rattle.command_words.proofs.application.command_of_row.Given as goal

abbrev pub invariant-loop-choice : goal.invariant-loop-choice
invariant-loop-choice l =
    (fold with_rule (app_of l.command) (map rule_for (map choice_in (drop l.choice-index l.choice-items))) ≡ subcommand_for (row_in l.row))
    × ((fields_of l.command).has_globals ≡ false)
