-- The help on the row at the place.
use Rattle.std.proofs.Common.{string_bytes}
use Rattle.command_words.proofs.HelpTexts.{help_at_place, written_so}
use Rattle.command_words.proofs.help.push_place.Goals as goal

pub returns : goal.returns
returns c =
    written_so c.push_help.result (string_bytes c.args.out.now) (string_bytes c.push_help.new.out) _ _ (help_at_place c.args.place _ _ c.row_at.ensures c.help_at.ensures) c.push_help.ensures
